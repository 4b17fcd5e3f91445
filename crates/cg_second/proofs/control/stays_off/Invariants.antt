use Rattle.std.proofs.Common.{◌≡◌, length}
use Rattle.cg_second.specs.Exposed.{is_off_to}
use Rattle.cg_second.proofs.control.stays_off.Given as goal

-- it hangs on what is above what was passed
abbrev pub invariant-loop-len : goal.invariant-loop-len
invariant-loop-len g l =
    is_off_to (g.H.Hierarchy.state l.survey.tree.now) l.survey.users.now l.subtree l.controller l.len
    ≡ is_off_to (g.H.Hierarchy.state l.survey.tree.now) l.survey.users.now l.subtree l.controller (length l.subtree)
