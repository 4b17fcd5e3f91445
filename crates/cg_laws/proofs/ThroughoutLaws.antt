-- The verdict on a run is kept exactly where each of its states is as set and no step takes a process over the edge.
use Rattle.std.proofs.Common.{◌≡◌, ◌↔◌, ℕ, zero, suc, ◌<◌, ◌≤◌, Bool, true, false, not, cond, List, [], ◌∷◌, length, Option, Some, None, is_some, option_map, refl, sym, ap, ◌∙◌, true≢false, arith}
use Rattle.std.proofs.lemmas.Bool.{false_from_ne_true}
use Rattle.cg_cgroup.specs.Paths.{Names, inside}
use Rattle.cg_cgroup.specs.Identity.{Identity}
use Rattle.cg_cgroup.specs.declared.files.LimitFile.TheVariants.{MaxDescendants, MaxDepth}
use Rattle.cg_cgroup.specs.declared.process.Process.{Process}
use Rattle.cg_model.specs.States.{State, process_at, place_at}
use Rattle.cg_model.specs.Steps.{after, Deed}
use Rattle.cg_model.specs.declared.operation.Op.{Op}
use Rattle.cg_model.specs.Limits.{Limits, limits}
use Rattle.cg_model.specs.Edge.{is_crossed, crossing}
use Rattle.cg_laws.proofs.Counts.{descendants-most, most-descendants, depth-most, most-depth}
use Rattle.cg_model.proofs.Edges.{none-crosses, none-crosses-same, crosses-some}
use Rattle.cg_model.specs.Verdicts.{broken, or_later, verdict_from}
use Rattle.cg_model.specs.Held.{IsHeld, by_user, IsContained}
use Rattle.cg_model.specs.Throughout.{state_after, IsAsSet, NoneCrosses, IsHeldThroughout}
use Rattle.cg_model.specs.declared.verdict.Clause.{Clause}
use Rattle.cg_model.specs.declared.verdict.Verdict.{Verdict}
use Rattle.cg_model.specs.declared.verdict.Verdict.TheVariants.{Kept}
use Rattle.cg_model.proofs.BrokenLaws.{IsWhole, whole-broken, broken-whole}

-- ---- the edge

same_side : (before later : Bool) → cond before (not later) later ≡ false → before ≡ later
same_side true true h = refl
same_side true false h = absurd (true≢false h)
same_side false true h = absurd (true≢false h)
same_side false false h = refl

one_side : (before later : Bool) → before ≡ later → cond before (not later) later ≡ false
one_side true true h = refl
one_side true false h = absurd (true≢false h)
one_side false true h = absurd (true≢false (sym h))
one_side false false h = refl

module _ (st new : State) (subtree : Names) where
  none-each : crossing st new subtree ≡ [] → NoneCrosses st new subtree
  none-each none pid before later was is =
      let live : is_some (process_at st pid) ≡ true = lives (process_at st pid) was in
      same_side (inside subtree before) (inside subtree later)
      (sym (λ i. is_crossed subtree (was i) (is i)) ∙ false_from_ne_true (is_crossed subtree (place_at st pid) (place_at new pid))
      (λ crossed. crosses-some st new subtree pid live crossed none))
    where
      lives : {place : Names} (process : Option Process) → option_map (λ p. p.place) process ≡ Some place → is_some process ≡ true
      lives None h = cc
      lives (Some process) h = refl

  each-none : NoneCrosses st new subtree → crossing st new subtree ≡ []
  each-none each = none-crosses st new subtree (λ pid. by_places pid (place_at st pid) (place_at new pid) refl refl)
    where
      by_places : (pid : ℕ) (before later : Option Names) → place_at st pid ≡ before → place_at new pid ≡ later
          → is_crossed subtree (place_at st pid) (place_at new pid) ≡ false
      by_places pid None later was is = ap (λ place. is_crossed subtree place (place_at new pid)) was
      by_places pid (Some before) None was is = λ i. is_crossed subtree (was i) (is i)
      by_places pid (Some before) (Some later) was is = (λ i. is_crossed subtree (was i) (is i))
          ∙ one_side (inside subtree before) (inside subtree later) (each pid before later was is)

-- ---- one step

module _ (had : Limits) (st new : State) (subtree : Names) where
  whole-as_set : IsWhole had st new subtree → IsAsSet had new subtree
  whole-as_set whole = record {
    there = whole.there;
    limits = whole.limits;
    descendants =
        λ most is.
        descendants-most new subtree whole.descendants most (ap (λ (these : Limits). these.values MaxDescendants) whole.limits ∙ is);
    depth = λ most is. depth-most new subtree whole.depth most (ap (λ (these : Limits). these.values MaxDepth) whole.limits ∙ is);
  }

  as_set-whole : IsAsSet had new subtree → crossing st new subtree ≡ [] → IsWhole had st new subtree
  as_set-whole set none = record {
    there = set.there;
    edge = none;
    limits = set.limits;
    descendants =
        most-descendants new subtree
        (λ most is. set.descendants most (ap (λ (these : Limits). these.values MaxDescendants) (sym set.limits) ∙ is));
    depth = most-depth new subtree (λ most is. set.depth most (ap (λ (these : Limits). these.values MaxDepth) (sym set.limits) ∙ is));
  }

-- ---- runs

kept-parts : (clauses : List Clause) (steps : ℕ) (later : Verdict) → or_later clauses steps later ≡ Kept → (clauses ≡ []) × (later ≡ Kept)
kept-parts [] steps later h = (refl, h)
kept-parts (clause ∷ clauses) steps later h = cc

module _ (start : State) (subtree : Names) where
  -- what each step of a run leaves
  abbrev AreWhole : State → List Deed → Type 0
  AreWhole st deeds =
      (steps : ℕ) → steps < length deeds
      → IsWhole (limits start subtree) (state_after st deeds steps) (state_after st deeds (suc steps)) subtree

  kept-each : (made : ℕ) (st : State) (deeds : List Deed) → verdict_from start made st deeds subtree ≡ Kept → AreWhole st deeds
  kept-each made st [] h steps less = absurd (omega arith)
  kept-each made st (deed ∷ deeds) h zero less =
      let new = after st deed.0 deed.1 in
      broken-whole (limits start subtree) st new subtree (kept-parts _ _ (verdict_from start (suc made) new deeds subtree) h).0
  kept-each made st (deed ∷ deeds) h (suc steps) less =
      let new = after st deed.0 deed.1 in
      kept-each (suc made) new deeds
      (kept-parts (broken start st new subtree) (suc made) (verdict_from start (suc made) new deeds subtree) h).1 steps
      (omega (arith, less))

  each-kept : (made : ℕ) (st : State) (deeds : List Deed) → AreWhole st deeds → verdict_from start made st deeds subtree ≡ Kept
  each-kept made st [] whole = refl
  each-kept made st (deed ∷ deeds) whole =
      let new = after st deed.0 deed.1 in
      ap (λ clauses. or_later clauses (suc made) (verdict_from start (suc made) new deeds subtree))
      (whole-broken (limits start subtree) st new subtree (whole 0 (omega arith)))
      ∙ each-kept (suc made) new deeds (λ steps less. whole (suc steps) (omega (arith, less)))

  held-throughout : (deeds : List Deed) → IsHeld start deeds subtree → IsHeldThroughout start deeds subtree
  held-throughout deeds held =
      let had = limits start subtree in
      let parts = kept-parts (broken start start start subtree) 0 (verdict_from start 0 start deeds subtree) held in
      let each = kept-each 0 start deeds parts.1 in
      record {
        states = λ steps. elim steps as (λ n. n ≤ length deeds → IsAsSet had (state_after start deeds n) subtree) [
          | zero ↦ λ _. whole-as_set had start start subtree (broken-whole had start start subtree parts.0)
          | suc n ↦
              λ within.
              whole-as_set had (state_after start deeds n) (state_after start deeds (suc n)) subtree (each n (omega (arith, within)))
        ];
        edge = λ steps less. none-each (state_after start deeds steps) (state_after start deeds (suc steps)) subtree (each steps less).edge;
      }

  throughout-held : (deeds : List Deed) → IsHeldThroughout start deeds subtree → IsHeld start deeds subtree
  throughout-held deeds held =
      let had = limits start subtree in
      let whole = as_set-whole had start start subtree (held.states 0 (omega arith)) (none-crosses-same start subtree) in
      ap (λ clauses. or_later clauses 0 (verdict_from start 0 start deeds subtree)) (whole-broken had start start subtree whole)
      ∙ each-kept 0 start deeds (λ steps less. as_set-whole had (state_after start deeds steps) (state_after start deeds (suc steps))
      subtree (held.states (suc steps) (omega (arith, less)))
      (each-none (state_after start deeds steps) (state_after start deeds (suc steps)) subtree (held.edge steps less)))

pub held-is_throughout : (st : State) (deeds : List Deed) (subtree : Names) → IsHeld st deeds subtree ↔ IsHeldThroughout st deeds subtree
held-is_throughout st deeds subtree = (held-throughout st subtree deeds, throughout-held st subtree deeds)

pub contained-is_throughout : (st : State) (user : Identity) (subtree : Names)
    → IsContained st user subtree ↔ ((ops : List Op) → IsHeldThroughout st (by_user user ops) subtree)
contained-is_throughout st user subtree = (
  λ contained ops. held-throughout st subtree (by_user user ops) (contained ops),
  λ throughout ops. throughout-held st subtree (by_user user ops) (throughout ops),
)
