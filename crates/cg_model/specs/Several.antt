-- What one answer says of every run of several users, and of strangers among them.
use Rattle.std.specs.Prelude.{◌≡◌, ℕ, List, Ok}
use Rattle.std.specs.List.{All}
use Rattle.cg_cgroup.specs.Paths.{Names}
use Rattle.cg_cgroup.specs.Identity.{Identity}
use Rattle.cg_model.specs.States.{State}
use Rattle.cg_model.specs.Steps.{after_all, Deed}
use Rattle.cg_model.specs.Verdicts.{verdict}
use Rattle.cg_model.specs.Held.{IsHeld, AreBy}
use Rattle.cg_model.specs.Strangers.{OnlyTheseOpen, IsOfStranger}
use Rattle.cg_model.specs.declared.verdict.Clause.{Clause}
use Rattle.cg_model.specs.declared.verdict.Verdict.TheVariants.{Broken}
use Rattle.cg_model.specs.Checks.{all_checked}
use Rattle.cg_model.specs.declared.answer.AllAnswer.TheVariants as all

-- Several users, at least one, against several subtrees.
pub record AreContained (st : State) (users : List Identity) (subtrees : List Names) : Type 0 where
  -- every subtree is held over whatever these users do, in whatever order
  pub held : (deeds : List Deed) → AreBy users deeds → All (IsHeld st deeds) subtrees
  -- in every state on the way the answer is the same
  pub still : (deeds : List Deed) → AreBy users deeds → all_checked (after_all st deeds) users subtrees ≡ Ok all.Contained
  -- whoever else acts, where these alone open guarded entries, the first to break a subtree is none of these
  pub strangers : (deeds : List Deed) → All (λ subtree. OnlyTheseOpen users st deeds subtree
      → (steps : ℕ) (clause : Clause) → verdict st deeds subtree ≡ Broken steps clause → IsOfStranger users deeds steps) subtrees
