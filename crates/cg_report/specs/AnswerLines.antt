-- The lines of an answer. Own.
use Rattle.std.specs.Prelude.{ℕ, ◌≤◌, List, [], ◌∷◌, ◌++◌, length, take, codes}
use Rattle.std.specs.List.{flat_map}
use Rattle.cg_cgroup.specs.Paths.{Names, path_text}
use Rattle.cg_cgroup.specs.Files.{entry_text}
use Rattle.cg_lines.specs.Outcomes.{spaced}
use Rattle.cg_lines.specs.OperationLines.{spelling}
use Rattle.cg_model.specs.declared.operation.Op.{Op}
use Rattle.cg_model.specs.declared.guard.Guard.{Guard}
use Rattle.cg_model.specs.declared.guard.Guard.TheVariants.{CommonAncestor, LimitFile, ParentControl, ParentDir, AlreadyOver}
use Rattle.cg_model.specs.declared.guard.Failed.{Failed}
use Rattle.cg_model.specs.declared.answer.Answer.{Answer}
use Rattle.cg_model.specs.declared.answer.Answer.TheVariants.{Contained, Escapes, Unsettled}

-- a guard that fails, and the cgroup at which it does; and the limit file, where it is one's
abbrev pub guard_text : Guard → List ℕ → List ℕ
guard_text CommonAncestor place = codes "common-ancestor " ++ place
guard_text (LimitFile entry) place = codes "limit-file " ++ spaced place (entry_text entry)
guard_text ParentControl place = codes "parent-control " ++ place
guard_text ParentDir place = codes "parent-dir " ++ place
guard_text AlreadyOver place = codes "already-over " ++ place

abbrev pub failed_text : Names → Failed → List ℕ
failed_text subtree failed = guard_text failed.guard (path_text (take failed.len subtree))

-- an operation's line and its newline
abbrev pub op_line : Op → List ℕ
op_line op = spelling op ++ 10 ∷ []

abbrev pub op_lines : List Op → List ℕ
op_lines ops = flat_map op_line ops

abbrev pub answer_text : Names → Answer → List ℕ
answer_text subtree Contained = codes "contained\n"
answer_text subtree (Escapes ops) = codes "escapes\n" ++ op_lines ops
answer_text subtree (Unsettled failed) = codes "unsettled " ++ failed_text subtree failed ++ codes "\n"

-- the cgroup at which a guard fails is one of those of the subtree's path
abbrev pub IsShown : Names → Answer → Type 0
IsShown subtree Contained = Unit {0}
IsShown subtree (Escapes ops) = Unit {0}
IsShown subtree (Unsettled failed) = failed.len ≤ length subtree
