-- Runs on whose way something holds of each state that each step of some users leaves, and by which no such step breaks a subtree.
use Rattle.std.proofs.Common.{◌≡◌, ℕ, suc, ◌+◌, List, [], ◌∷◌, Some, refl, sym, ap, ◌∙◌, arith}
use Rattle.std.specs.Prelude.{slice_get}
use Rattle.std.specs.List.{Contains}
use Rattle.cg_cgroup.specs.Paths.{Names}
use Rattle.cg_cgroup.specs.Identity.{Identity}
use Rattle.cg_model.specs.States.{State}
use Rattle.cg_model.specs.Steps.{after, after_all, Deed}
use Rattle.cg_model.specs.declared.operation.Op.{Op}
use Rattle.cg_model.specs.Limits.{limits}
use Rattle.cg_model.specs.Verdicts.{broken, or_later, verdict_from, verdict}
use Rattle.cg_model.specs.Held.{IsHeld, AreBy}
use Rattle.cg_model.specs.Strangers.{IsOfStranger}
use Rattle.cg_model.specs.declared.verdict.Clause.{Clause}
use Rattle.cg_model.specs.declared.verdict.Verdict.TheVariants.{Kept, Broken}
use Rattle.cg_model.proofs.BrokenLaws.{IsWhole, whole-broken, broken-whole}

-- whoever takes such a step, over a run, is one of these users
abbrev pub OnlyThese : (State → Identity → Op → Type 0) → List Identity → State → List Deed → Type 0
OnlyThese takes users st [] = Unit {0}
OnlyThese takes users st (deed ∷ deeds) =
    (takes st deed.0 deed.1 → Contains users deed.0) × OnlyThese takes users (after st deed.0 deed.1) deeds

-- the same as `IsOfStranger` after so many steps
abbrev IsOfStrangerAfter : List Identity → List Deed → ℕ → ℕ → Type 0
IsOfStrangerAfter users deeds made steps =
    (before : ℕ) × (deed : Deed) × (steps ≡ made + suc before) × (slice_get deeds before ≡ Some deed) × ¬ (Contains users deed.0)

not_empty : {A : Type 0} (x : A) (xs : List A) → x ∷ xs ≡ [] → ⊥
not_empty x xs h = cc

same_steps : (steps other : ℕ) (clause found : Clause) → Broken steps clause ≡ Broken other found → steps ≡ other
same_steps steps other clause found h = cc

later : (users : List Identity) (deed : Deed) (deeds : List Deed) (made steps : ℕ) → IsOfStrangerAfter users deeds (suc made) steps
    → IsOfStrangerAfter users (deed ∷ deeds) made steps
later users deed deeds made steps found = (suc found.0, found.1, omega (arith, found.2), found.3, found.4)

module _ (users : List Identity) (start : State) (subtree : Names) (OnWay : State → Type 0)
    (own : (st : State) → OnWay st → (user : Identity) → Contains users user → (op : Op)
    → OnWay (after st user op) × IsWhole (limits start subtree) st (after st user op) subtree) where
  -- ---- runs of these users alone

  pub way-after_all : (st : State) → OnWay st → (deeds : List Deed) → AreBy users deeds → OnWay (after_all st deeds)
  way-after_all st at [] all = at
  way-after_all st at (deed ∷ deeds) all =
      way-after_all (after st deed.0 deed.1) (own st at deed.0 all.0 deed.1).0 deeds all.1

  kept-from : (steps : ℕ) (st : State) → OnWay st → (deeds : List Deed) → AreBy users deeds
      → verdict_from start steps st deeds subtree ≡ Kept
  kept-from steps st at [] all = refl
  kept-from steps st at (deed ∷ deeds) all =
      let next = after st deed.0 deed.1 in
      let step = own st at deed.0 all.0 deed.1 in
      ap (λ clauses. or_later clauses (suc steps) (verdict_from start (suc steps) next deeds subtree))
      (whole-broken (limits start subtree) st next subtree step.1)
      ∙ kept-from (suc steps) next step.0 deeds all.1

  -- the start breaks nothing by itself
  module _ (at : OnWay start) (still : IsWhole (limits start subtree) start start subtree) where
    none_broken : (deeds : List Deed) → verdict start deeds subtree ≡ verdict_from start 0 start deeds subtree
    none_broken deeds =
        ap (λ clauses. or_later clauses 0 (verdict_from start 0 start deeds subtree))
        (whole-broken (limits start subtree) start start subtree still)

    pub held-on_way : (deeds : List Deed) → AreBy users deeds → IsHeld start deeds subtree
    held-on_way deeds all = none_broken deeds ∙ kept-from 0 start at deeds all

  -- ---- runs in which others act too

  module _ (takes : State → Identity → Op → Type 0)
      (anyones : (st : State) → OnWay st → (user : Identity) (op : Op) → (takes st user op → Contains users user)
      → IsWhole (limits start subtree) st (after st user op) subtree → OnWay (after st user op)) where
    of_stranger-from : (made : ℕ) (st : State) → OnWay st → (deeds : List Deed) → OnlyThese takes users st deeds
        → (steps : ℕ) (clause : Clause) → verdict_from start made st deeds subtree ≡ Broken steps clause
        → IsOfStrangerAfter users deeds made steps
    of_stranger-from made st at [] only steps clause h = cc
    of_stranger-from made st at (deed ∷ deeds) only steps clause h =
        let new = after st deed.0 deed.1 in
        elim (broken start st new subtree) as (λ found. broken start st new subtree ≡ found
        → or_later found (suc made) (verdict_from start (suc made) new deeds subtree) ≡ Broken steps clause
        → IsOfStrangerAfter users (deed ∷ deeds) made steps) [
          | [] ↦ λ none more. later users deed deeds made steps
              (of_stranger-from (suc made) new
              (anyones st at deed.0 deed.1 only.0 (broken-whole (limits start subtree) st new subtree none)) deeds only.1 steps clause more)
          | found ∷ others ↦ λ is h. (
            0,
            deed,
            omega (arith, same_steps _ _ _ _ h),
            refl,
            λ named.
                not_empty found others
                (sym is ∙ whole-broken (limits start subtree) st new subtree (own st at deed.0 named deed.1).1),
          )
        ] refl h

    pub broken-on_way : OnWay start → IsWhole (limits start subtree) start start subtree → (deeds : List Deed)
        → OnlyThese takes users start deeds → (steps : ℕ) (clause : Clause) → verdict start deeds subtree ≡ Broken steps clause
        → IsOfStranger users deeds steps
    broken-on_way at still deeds only steps clause h =
        let found = of_stranger-from 0 start at deeds only steps clause (sym (none_broken at still deeds) ∙ h) in
        (found.0, found.1, omega (arith, found.2), found.3, found.4)
