-- A subtree is over its own limits of descendants and depth at the start or never.
use Rattle.std.proofs.Common.{◌≡◌, ◌⊎◌, inl, inr, ℕ, suc, ◌<◌, Bool, true, false, List, [], ◌∷◌, refl, sym, ap, ◌∙◌, true≢false, arith}
use Rattle.cg_cgroup.specs.Paths.{Names}
use Rattle.cg_cgroup.specs.Identity.{Identity}
use Rattle.cg_model.specs.States.{State}
use Rattle.cg_model.specs.WellFormed.{has_row}
use Rattle.cg_model.specs.Bars.{bars}
use Rattle.cg_model.specs.Steps.{after, Deed}
use Rattle.cg_model.specs.declared.operation.Op.{Op}
use Rattle.cg_model.proofs.StepFormed.{after-barred}
use Rattle.cg_model.specs.Limits.{limits, same_limits, fits_descendants, fits_depth}
use Rattle.cg_model.specs.Edge.{crossing}
use Rattle.cg_laws.proofs.Counts.{fits-after}
use Rattle.cg_model.proofs.Edges.{none-crosses-same}
use Rattle.cg_model.specs.Verdicts.{broken, or_later, verdict_from, verdict}
use Rattle.cg_model.specs.declared.verdict.Clause.{Clause}
use Rattle.cg_model.specs.declared.verdict.Clause.TheVariants.{Descendants, Depth}
use Rattle.cg_model.specs.declared.verdict.Verdict.TheVariants.{Broken}
use Rattle.cg_model.proofs.LimitLaws.{same_limits-is, same_limits-itself}
use Rattle.cg_model.proofs.BrokenLaws.{clauses_of, IsWhole, broken-whole}

-- the clauses that ask counts
abbrev is_count : Clause → Bool
is_count Descendants = true
is_count Depth = true
is_count clause = false

abbrev counts_first : List Clause → Bool
counts_first [] = false
counts_first (clause ∷ clauses) = is_count clause

-- where the counts fit if nothing else is broken, none of them comes first
no_count : (there : Bool) (crossed : List ℕ) (same descendants depth : Bool) → (same ≡ true → (descendants ≡ true) × (depth ≡ true))
    → counts_first (clauses_of there crossed same descendants depth) ≡ false
no_count false crossed same descendants depth fits = refl
no_count true (pid ∷ pids) same descendants depth fits = refl
no_count true [] false descendants depth fits = refl
no_count true [] true descendants depth fits = let both = fits refl in λ i. counts_first (clauses_of true [] true (both.0 i) (both.1 i))

-- ---- a step

module _ (start st before : State) (user : Identity) (op : Op) (subtree : Names) (whole : IsWhole (limits start subtree) before st subtree)
  where
    fits-step : limits (after st user op) subtree ≡ limits st subtree
        → (fits_descendants (after st user op) subtree ≡ true) × (fits_depth (after st user op) subtree ≡ true)
    fits-step same =
        elim (bars st user op) as (λ found. bars st user op ≡ found
        → (fits_descendants (after st user op) subtree ≡ true) × (fits_depth (after st user op) subtree ≡ true)) [
          | [] ↦ λ free. fits-after st user subtree op whole.there free same whole.descendants whole.depth
          | bar ∷ others ↦ λ is. let still = after-barred st user op bar others is in
              (ap (λ new. fits_descendants new subtree) still ∙ whole.descendants, ap (λ new. fits_depth new subtree) still ∙ whole.depth)
        ] refl

    no_count-step : counts_first (broken start st (after st user op) subtree) ≡ false
    no_count-step =
        let new = after st user op in
        no_count (has_row new subtree) (crossing st new subtree) (same_limits (limits start subtree) (limits new subtree))
        (fits_descendants new subtree) (fits_depth new subtree)
        (λ same. fits-step (sym (same_limits-is (limits start subtree) (limits new subtree) same) ∙ sym whole.limits))

-- ---- runs

same_break : (steps other : ℕ) (clause found : Clause) → Broken steps clause ≡ Broken other found → (steps ≡ other) × (clause ≡ found)
same_break steps other clause found h = (cc, cc)

module _ (start : State) (subtree : Names) where
  -- what a later step breaks is no count, and comes later
  later-break : (made : ℕ) (before st : State) → IsWhole (limits start subtree) before st subtree
      → (deeds : List Deed) (steps : ℕ) (clause : Clause) → verdict_from start made st deeds subtree ≡ Broken steps clause
      → (is_count clause ≡ false) × (made < steps)
  later-break made before st whole [] steps clause h = cc
  later-break made before st whole (deed ∷ deeds) steps clause h =
      let new = after st deed.0 deed.1 in
      elim (broken start st new subtree) as (λ found. broken start st new subtree ≡ found
      → or_later found (suc made) (verdict_from start (suc made) new deeds subtree) ≡ Broken steps clause
      → (is_count clause ≡ false) × (made < steps)) [
        | [] ↦
            λ none more. let later =
            later-break (suc made) st new (broken-whole (limits start subtree) st new subtree none) deeds steps clause more in
            (later.0, omega (arith, later.1))
        | found ∷ others ↦ λ is more.
            let same = same_break (suc made) steps found clause more in (
              ap is_count (sym same.1) ∙ sym (ap counts_first is) ∙ no_count-step start st before deed.0 deed.1 subtree whole,
              omega (arith, same.0),
            )
      ] refl h

  -- a count is broken at the start, and there nothing else is
  count-start : (deeds : List Deed) (steps : ℕ) (clause : Clause) → is_count clause ≡ true
      → verdict start deeds subtree ≡ Broken steps clause → steps ≡ 0
  count-start deeds steps clause is_one h =
      elim (broken start start start subtree) as (λ found. broken start start start subtree ≡ found
      → or_later found 0 (verdict_from start 0 start deeds subtree) ≡ Broken steps clause → steps ≡ 0) [
        | [] ↦
            λ none more. absurd (true≢false (sym is_one
            ∙ (later-break 0 start start (broken-whole (limits start subtree) start start subtree none) deeds steps clause more).0))
        | found ∷ others ↦ λ _ more. sym (same_break 0 steps found clause more).0
      ] refl h

  first_count : (descendants depth : Bool) (found : Clause) (others : List Clause)
      → clauses_of true [] true descendants depth ≡ found ∷ others → (found ≡ Descendants) ⊎ (found ≡ Depth)
  first_count false depth found others h = inl cc
  first_count true false found others h = inr cc
  first_count true true found others h = cc

  pub start-count : (deeds : List Deed) (clause : Clause) → has_row start subtree ≡ true → verdict start deeds subtree ≡ Broken 0 clause
      → (clause ≡ Descendants) ⊎ (clause ≡ Depth)
  start-count deeds clause there h =
      elim (broken start start start subtree) as (λ found. broken start start start subtree ≡ found
      → or_later found 0 (verdict_from start 0 start deeds subtree) ≡ Broken 0 clause → (clause ≡ Descendants) ⊎ (clause ≡ Depth)) [
        | [] ↦
            λ none more. absurd (omega
            (arith, (later-break 0 start start (broken-whole (limits start subtree) start start subtree none) deeds 0 clause more).1))
        | found ∷ others ↦ λ is more.
            let asked : broken start start start subtree
            ≡ clauses_of true [] true (fits_descendants start subtree) (fits_depth start subtree) =
            λ i. clauses_of (there i) (none-crosses-same start subtree i) (same_limits-itself (limits start subtree) i)
            (fits_descendants start subtree) (fits_depth start subtree) in
            first_count (fits_descendants start subtree) (fits_depth start subtree) clause others
            (sym asked ∙ is ∙ ap (λ c. c ∷ others) (same_break 0 0 found clause more).1)
      ] refl h

  pub descendants-start : (deeds : List Deed) (steps : ℕ) → verdict start deeds subtree ≡ Broken steps Descendants → steps ≡ 0
  descendants-start deeds steps = count-start deeds steps Descendants refl

  pub depth-start : (deeds : List Deed) (steps : ℕ) → verdict start deeds subtree ≡ Broken steps Depth → steps ≡ 0
  depth-start deeds steps = count-start deeds steps Depth refl
