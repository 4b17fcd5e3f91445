-- What laws beside the theorems speak of: nobody has to believe it.
-- Outcomes against the first bar.
use Rattle.std.specs.Prelude.{◌≡◌, Option, Some, None}
use Rattle.cg_model.specs.declared.outcome.Refusal.{Refusal}
use Rattle.cg_model.specs.declared.outcome.Outcome.{Outcome}
use Rattle.cg_model.specs.declared.outcome.Outcome.TheVariants.{Done, Refused}

abbrev pub IsRefused : Outcome → Type 0
IsRefused Done = ⊥
IsRefused (Refused refusal) = Unit {0}

-- refused exactly where there is a bar, with the first one
abbrev pub RefusedBy : Outcome → Option Refusal → Type 0
RefusedBy Done bar = bar ≡ None
RefusedBy (Refused refusal) bar = bar ≡ Some refusal
