-- Whether a user breaks a subtree by a list of operations, and the first of the tries by which they do.
use Rattle.std.specs.Prelude.{Bool, true, false, not, List, find, Option}
use Rattle.cg_cgroup.specs.Paths.{Names}
use Rattle.cg_cgroup.specs.Identity.{Identity}
use Rattle.cg_model.specs.States.{State}
use Rattle.cg_model.specs.declared.operation.Op.{Op}
use Rattle.cg_model.specs.Verdicts.{verdict}
use Rattle.cg_model.specs.Held.{by_user}
use Rattle.cg_model.specs.declared.verdict.Verdict.{Verdict}
use Rattle.cg_model.specs.declared.verdict.Verdict.TheVariants.{Kept, Broken}
use Rattle.cg_model.specs.Tries.{tries}

abbrev pub is_kept : Verdict → Bool
is_kept Kept = true
is_kept (Broken steps clause) = false

-- the subtree isn't held over these operations of the user, in turn
abbrev pub breaks : State → Identity → Names → List Op → Bool
breaks st user subtree ops = not (is_kept (verdict st (by_user user ops) subtree))

-- The first of the tries that breaks the subtree.
abbrev pub first_escape : State → Identity → Names → Option (List Op)
first_escape st user subtree = find (breaks st user subtree) (tries st user subtree)
