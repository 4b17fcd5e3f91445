-- The objects of the classes of an entry, and of what is found of a subtree.
use Rattle.std.proofs.Common.{◌≡◌, ◌<◌, Bool, true, false, cond, List, [], ◌∷◌, ◌++◌, map, length, refl, sym, ap, ◌∙◌, append_assoc, append-nil, codes, arith}
use Rattle.std.specs.List.{filter}
use Rattle.cg_cgroup.specs.Paths.{Names}
use Rattle.cg_model.specs.declared.guard.GuardedEntry.{GuardedEntry}
use Rattle.cg_model.specs.declared.mend.Class.{Class}
use Rattle.cg_model.specs.declared.mend.Class.TheVariants.{Owner, Group, Others}
use Rattle.serde_json.specs.Data.{Data}
use Rattle.serde_json.specs.View.{view}
use Rattle.serde_json.specs.declared.value.Value.{Value}
use Rattle.machine_everybody.specs.Everybody.{Everybody}
use Rattle.cg_everybody.specs.Everybody.{opens_to, classes_in}
use Rattle.cg_everybody.specs.Objects.{subtree_value, headed_values, by_class}

out_first : {A B : Type 0} (f : A → B) (b : Bool) (x : A) (xs : List A)
    → map f (cond b (x ∷ xs) xs) ≡ cond b (f x ∷ []) [] ++ map f xs
out_first f true x xs = refl
out_first f false x xs = refl

module _ (asked : Everybody) (subtree : Names) (at : GuardedEntry) where
  abbrev those : Class → List Data
  those class = cond (opens_to asked at.entry class) (by_class subtree at class ∷ []) []

  in_turn : map (by_class subtree at) (classes_in asked at.entry) ≡ those Owner ++ (those Group ++ (those Others ++ []))
  in_turn =
      out_first (by_class subtree at) (opens_to asked at.entry Owner) Owner (filter (opens_to asked at.entry) (Group ∷ Others ∷ []))
      ∙ ap (λ rest. those Owner ++ rest)
      (out_first (by_class subtree at) (opens_to asked at.entry Group) Group (filter (opens_to asked at.entry) (Others ∷ []))
      ∙ ap (λ rest. those Group ++ rest) (out_first (by_class subtree at) (opens_to asked at.entry Others) Others []))

  pub three_pushed : (begun one two three : List Data) → one ≡ begun ++ those Owner → two ≡ one ++ those Group → three ≡ two ++ those Others
      → three ≡ begun ++ map (by_class subtree at) (classes_in asked at.entry)
  three_pushed begun one two three first second third =
      third ∙ ap (λ t. t ++ those Others) (second ∙ ap (λ t. t ++ those Group) first)
      ∙ ap (λ t. t ++ those Others) (append_assoc begun (those Owner) (those Group))
      ∙ append_assoc begun (those Owner ++ those Group) (those Others)
      ∙ ap (λ t. begun ++ t) (append_assoc (those Owner) (those Group) (those Others))
      ∙ ap (λ t. begun ++ (those Owner ++ (those Group ++ t))) (sym (append-nil (those Others)))
      ∙ ap (λ t. begun ++ t) (sym in_turn)

pub none_headed : (subtree : Names) (values : List Value) → length values ≡ 0 → headed_values subtree (map view values) ≡ []
none_headed subtree [] none = refl
none_headed subtree (value ∷ values) none = absurd (omega (arith, none))

pub some_headed : (subtree : Names) (values : List Value) → 0 < length values
    → headed_values subtree (map view values) ≡ subtree_value (codes "fails") subtree (map view values) ∷ []
some_headed subtree [] some = absurd (omega (arith, some))
some_headed subtree (value ∷ values) some = refl
