-- A subtree within its own limits is unbroken at the start.
use Rattle.std.proofs.Common.{◌≡◌, ℕ, Bool, true, false, cond, ◌&&◌, not, List, [], ◌∷◌, ◌++◌, map, filter, Option, Some, None, refl, ap, ◌∙◌}
use Rattle.std.proofs.lemmas.Bool.{and_parts, not-false}
use Rattle.cg_cgroup.specs.Paths.{Names, inside}
use Rattle.cg_model.specs.States.{State, place_at, pids_of}
use Rattle.cg_model.specs.WellFormed.{has_row}
use Rattle.cg_model.specs.Clauses.{unless}
use Rattle.cg_model.specs.Limits.{limits, fits_descendants, fits_depth}
use Rattle.cg_model.specs.Edge.{is_crossed}
use Rattle.cg_model.specs.declared.verdict.Clause.TheVariants.{Gone, Crossed, Limits as LimitsChanged, Descendants, Depth}
use Rattle.cg_model.proofs.LimitLaws.{same_limits-itself}
use Rattle.cg_tries.specs.Escapes.{IsUnbroken}

uncrossed : (subtree : Names) (place : Option Names) → is_crossed subtree place place ≡ false
uncrossed subtree None = refl
uncrossed subtree (Some place) = elim (inside subtree place) as (λ b. cond b (not b) b ≡ false) [ true ↦ refl | false ↦ refl ]

filter-none : (p : ℕ → Bool) (xs : List ℕ) → ((x : ℕ) → p x ≡ false) → filter p xs ≡ []
filter-none p [] none = refl
filter-none p (x ∷ xs) none = ap (λ b. cond b (x ∷ filter p xs) (filter p xs)) (none x) ∙ filter-none p xs none

pub unbroken_within : (st : State) (subtree : Names) → has_row st subtree ≡ true
    → not (fits_descendants st subtree && fits_depth st subtree) ≡ false → IsUnbroken st subtree
unbroken_within st subtree there within = λ i.
    unless (there i) Gone
    ++ map Crossed (filter-none (λ pid. is_crossed subtree (place_at st pid) (place_at st pid)) (pids_of st)
    (λ pid. uncrossed subtree (place_at st pid)) i)
    ++ unless (same_limits-itself (limits st subtree) i) LimitsChanged
    ++ unless (fits.0 i) Descendants
    ++ unless (fits.1 i) Depth
  where
    fits : (fits_descendants st subtree ≡ true) × (fits_depth st subtree ≡ true)
    fits = and_parts _ _ (not-false _ within)
