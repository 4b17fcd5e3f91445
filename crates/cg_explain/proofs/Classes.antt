-- A user has a class by which they reach an entry exactly where they reach it.
use Rattle.std.proofs.Common.{◌≡◌, Bool, true, false, not, ◌||◌, cond, Option, Some, None, refl}
use Rattle.cg_model.specs.declared.mend.Class.{Class}
use Rattle.cg_model.specs.declared.mend.Class.TheVariants.{Owner}

pub no_class : (owned written : Bool) (class : Class) → not (written || owned) ≡ true
    → ◌≡◌ {A = Option Class} (cond owned (Some Owner) (cond written (Some class) None)) None
no_class true true class h = cc
no_class true false class h = cc
no_class false true class h = cc
no_class false false class h = refl

pub not_reached : (owned written : Bool) (class : Class)
    → ◌≡◌ {A = Option Class} (cond owned (Some Owner) (cond written (Some class) None)) None
    → not (written || owned) ≡ true
not_reached true written class h = cc
not_reached false true class h = cc
not_reached false false class h = refl
