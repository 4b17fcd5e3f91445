-- What operations lead to: a tree, and where a subtree is watched, the verdict on it. Own.
use Rattle.std.specs.Prelude.{◌≡◌, ℕ, ◌<◌, [], cond, Option, Some, None, Result, Ok, Err}
use Rattle.std.specs.FinMap as map
use Rattle.cg_cgroup.specs.Paths.{Names, is_root}
use Rattle.cg_cgroup.specs.Identity.{Identity}
use Rattle.cg_model.specs.States.{State, row_at}
use Rattle.cg_model.specs.Steps.{after}
use Rattle.cg_model.specs.declared.operation.Op.{Op}
use Rattle.cg_model.specs.Verdicts.{verdict}
use Rattle.cg_model.specs.Replays.{Progress, stepped}
use Rattle.cg_model.specs.declared.verdict.Verdict.{Verdict}
use Rattle.cg_model.specs.declared.verdict.Verdict.TheVariants.{Kept, Broken}
use Rattle.cg_model.specs.declared.fault.CheckFault.TheVariants.{RootSubtree, NoSuchSubtree}
use Rattle.cg_cli.specs.ReplayFormats.{verdict_in}
use Rattle.cg_cli.specs.Reports.{Report}
use Rattle.cg_cli.specs.declared.format.Format.{Format}
use Rattle.cg_faults.specs.declared.fault.CliFault.{CliFault}
use Rattle.cg_faults.specs.declared.fault.CliFault.TheVariants.{Subtree}

pub data Course : Type 0 where
  Unwatched : (st : State) → Course
  Watched : (run : Progress) → Course

abbrev pub state_of : Course → State
state_of (Unwatched st) = st
state_of (Watched run) = run.state

-- one operation further, which may be refused
abbrev pub on_course : Course → Identity → Op → Course
on_course (Unwatched st) user op = Unwatched (after st user op)
on_course (Watched run) user op = Watched (stepped run user op)

-- a watched run has made so many steps
abbrev pub HasMade : ℕ → Course → Type 0
HasMade steps (Unwatched st) = Unit {0}
HasMade steps (Watched run) = run.steps ≡ steps

-- a watched run may make one more
abbrev pub HasRoom : Course → Type 0
HasRoom (Unwatched st) = Unit {0}
HasRoom (Watched run) = run.steps < 65536

-- The course of a tree before any operation. The root isn't watched, nor a cgroup that isn't there.
abbrev pub course_from : State → Option Names → Result Course CliFault
course_from st None = Ok (Unwatched st)
course_from st (Some subtree) =
    cond (is_root subtree) (Err (Subtree RootSubtree)) (elim (row_at st subtree) [
      | None ↦ Err (Subtree NoSuchSubtree)
      | Some row ↦ Ok (Watched (record {
        subtree = subtree;
        original = row;
        told = map.get st.told subtree;
        state = st;
        steps = 0;
        verdict = verdict st [] subtree;
      }))
    ])

abbrev pub verdict_status : Verdict → ℕ
verdict_status Kept = 0
verdict_status (Broken steps clause) = 1

-- What is said at the end: the verdict, where a subtree is watched.
abbrev pub closing : Format → Course → Report
closing format (Unwatched st) = record { text = []; ending = Ok 0 }
closing format (Watched run) = record { text = verdict_in format run.verdict; ending = Ok (verdict_status run.verdict) }

-- what a call came to, as the model sees it
abbrev pub came_to : {A B : Type 0} → (A → B) → Result A CliFault → Result B CliFault
came_to view (Ok x) = Ok (view x)
came_to view (Err fault) = Err fault
