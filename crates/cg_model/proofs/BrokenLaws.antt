-- What it takes for nothing to be broken, and what it tells.
use Rattle.std.proofs.Common.{◌≡◌, ℕ, Bool, true, List, [], ◌∷◌, ◌++◌, map, refl, sym, ap, ◌∙◌}
use Rattle.cg_cgroup.specs.Paths.{Names}
use Rattle.cg_model.specs.States.{State}
use Rattle.cg_model.specs.WellFormed.{has_row}
use Rattle.cg_model.specs.Clauses.{unless, first}
use Rattle.cg_model.proofs.ClauseLaws.{no_parts, no_unless}
use Rattle.cg_model.specs.Limits.{Limits as LimitMap, limits, same_limits, fits_descendants, fits_depth}
use Rattle.cg_model.specs.Edge.{crossing}
use Rattle.cg_model.proofs.Edges.{none-crosses-same}
use Rattle.cg_model.specs.Verdicts.{broken_since, broken}
use Rattle.cg_model.specs.declared.verdict.Clause.{Clause}
use Rattle.cg_model.specs.declared.verdict.Clause.TheVariants.{Gone, Crossed, Limits, Descendants, Depth}
use Rattle.cg_model.proofs.LimitLaws.{same_limits-is, same_limits-itself}

both_empty : {A : Type 0} (xs ys : List A) → xs ≡ [] → ys ≡ [] → xs ++ ys ≡ []
both_empty xs ys p q = λ i. p i ++ q i

pub unless-so : {R : Type 0} (b : Bool) (r : R) → b ≡ true → unless b r ≡ []
unless-so b r h = ap (λ x. unless x r) h

no_map : {A B : Type 0} (f : A → B) (xs : List A) → map f xs ≡ [] → xs ≡ []
no_map f [] h = refl
no_map f (x ∷ xs) h = cc

-- ---- at the start

-- the clauses by what they ask
abbrev pub clauses_of : Bool → List ℕ → Bool → Bool → Bool → List Clause
clauses_of there crossed same descendants depth =
    unless there Gone ++ map Crossed crossed ++ unless same Limits ++ unless descendants Descendants ++ unless depth Depth

pub start-broken : (st : State) (subtree : Names) (descendants depth : Bool) → has_row st subtree ≡ true
    → descendants ≡ fits_descendants st subtree → depth ≡ fits_depth st subtree
    → first (clauses_of true [] true descendants depth) ≡ first (broken st st st subtree)
start-broken st subtree descendants depth there fits fits_too =
    sym (λ i. first
    (clauses_of (there i) (none-crosses-same st subtree i) (same_limits-itself (limits st subtree) i) (sym fits i) (sym fits_too i)))

-- ---- nothing is broken

-- a subtree that a step left whole
pub record IsWhole (had : LimitMap) (st new : State) (subtree : Names) : Type 0 where
  pub there : has_row new subtree ≡ true
  pub edge : crossing st new subtree ≡ []
  pub limits : limits new subtree ≡ had
  pub descendants : fits_descendants new subtree ≡ true
  pub depth : fits_depth new subtree ≡ true

module _ (had : LimitMap) (st new : State) (subtree : Names) where
  pub whole-broken : IsWhole had st new subtree → broken_since had st new subtree ≡ []
  whole-broken whole =
      both_empty _ _ (both_empty _ _ (both_empty _ _ (both_empty _ _
      (unless-so _ Gone whole.there)
      (ap (map Crossed) whole.edge))
      (unless-so _ Limits (ap (same_limits had) whole.limits ∙ same_limits-itself had)))
      (unless-so _ Descendants whole.descendants))
      (unless-so _ Depth whole.depth)

  pub broken-whole : broken_since had st new subtree ≡ [] → IsWhole had st new subtree
  broken-whole h =
      let depth = no_parts _ _ h in
      let descendants = no_parts _ _ depth.0 in
      let changed = no_parts _ _ descendants.0 in
      let crossed = no_parts _ _ changed.0 in
      record {
        there = no_unless _ _ crossed.0;
        edge = no_map Crossed _ crossed.1;
        limits = sym (same_limits-is _ _ (no_unless _ _ changed.1));
        descendants = no_unless _ _ descendants.1;
        depth = no_unless _ _ depth.1;
      }
