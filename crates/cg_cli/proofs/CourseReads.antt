-- The course of a replay, by what was read of its tree and its subtree.
use Rattle.std.proofs.Common.{◌≡◌, ◌≢◌, ℕ, Bool, false, cond, List, [], Option, Some, None, is_some, Result, Ok, Err}
use Rattle.std.proofs.Common.{refl, ap, ◌∙◌, true≢false}
use Rattle.std.specs.FinMap as map
use Rattle.cg_cgroup.specs.Paths.{Names}
use Rattle.cg_cgroup.specs.declared.cgroup.Cgroup.{Cgroup}
use Rattle.cg_model.specs.States.{State, row_at}
use Rattle.cg_model.specs.Verdicts.{verdict}
use Rattle.cg_model.specs.declared.fault.CheckFault.{CheckFault}
use Rattle.cg_model.specs.declared.fault.CheckFault.TheVariants.{RootSubtree, NoSuchSubtree, NoMemory as CheckNoMemory}
use Rattle.cg_runs.specs.Faults.{IsFaultOf}
use Rattle.cg_format.specs.Readings.{Reading}
use Rattle.cg_format.specs.declared.fault.TreeFault.{TreeFault}
use Rattle.cg_format.specs.declared.fault.TreeFault.TheVariants.{NoMemory as TreeNoMemory}
use Rattle.cg_cli.specs.Arguments.{path_read}
use Rattle.cg_cli.specs.Courses.{Course, Watched, course_from}
use Rattle.cg_faults.specs.Faults.{lifted, lifted_check}
use Rattle.cg_cli.specs.May.{tree_read}
use Rattle.cg_cli.specs.Replays.{course_read}
use Rattle.cg_faults.specs.declared.fault.CliFault.{CliFault}
use Rattle.cg_faults.specs.declared.fault.CliFault.TheVariants.{NoMemory, Subtree}

abbrev read_by : Result Names CliFault → Reading → Result Course CliFault
read_by named tree =
    elim named [
      | Ok path ↦ elim (tree_read tree) [ Ok st ↦ course_from st (Some path) | Err fault ↦ Err fault ]
      | Err fault ↦ Err fault
    ]

-- ---- a fault of the text

pub unwatched_fault : (read : Reading) (fault : TreeFault) → (fault ≢ TreeNoMemory → read ≡ Err fault)
    → lifted fault ≢ NoMemory → course_read None read ≡ Err (lifted fault)
unwatched_fault read TreeNoMemory is other = absurd (other refl)
unwatched_fault read fault is other = ap (course_read None) (is (λ same. cc))

module _ (named : List ℕ) (path : Names) (read : Reading) (of_path : path_read named ≡ Ok path) where
  pub watched_fault : (fault : TreeFault) → (fault ≢ TreeNoMemory → read ≡ Err fault)
      → lifted fault ≢ NoMemory → course_read (Some named) read ≡ Err (lifted fault)
  watched_fault TreeNoMemory is other = absurd (other refl)
  watched_fault fault is other = ap (λ p. read_by p read) of_path ∙ ap (read_by (Ok path)) (is (λ same. cc))

  -- ---- a fault of the subtree

  abbrev course_by : State → Bool → Option Cgroup → Result Course CliFault
  course_by st root found =
      cond root (Err (Subtree RootSubtree)) (elim found [
        | None ↦ Err (Subtree NoSuchSubtree)
        | Some row ↦ Ok (Watched (record {
          subtree = path;
          original = row;
          told = map.get st.told path;
          state = st;
          steps = 0;
          verdict = verdict st [] path;
        }))
      ])

  no_row : (found : Option Cgroup) → is_some found ≡ false → found ≡ None
  no_row None none = refl
  no_row (Some row) none = absurd (true≢false none)

  from_fault : (st : State) (fault : CheckFault) → IsFaultOf fault st path → lifted_check fault ≢ NoMemory
      → course_from st (Some path) ≡ Err (lifted_check fault)
  from_fault st RootSubtree root other = ap (λ (b : Bool). course_by st b (row_at st path)) root
  from_fault st NoSuchSubtree none other =
      ap (λ (b : Bool). course_by st b (row_at st path)) none.0 ∙ ap (course_by st false) (no_row (row_at st path) none.1)
  from_fault st CheckNoMemory wants other = absurd (other refl)

  pub start_fault : (st : State) (fault : CheckFault) → read ≡ Ok st → IsFaultOf fault st path
      → lifted_check fault ≢ NoMemory → course_read (Some named) read ≡ Err (lifted_check fault)
  start_fault st fault of_text is other =
      ap (λ p. read_by p read) of_path ∙ ap (read_by (Ok path)) of_text ∙ from_fault st fault is other
