use Rattle.std.proofs.Common.{◌≡◌, length}
use Rattle.cg_second.specs.Exposed.{is_passed_to}
use Rattle.cg_second.proofs.closed.is_passed.Given as goal

-- it is found, where it is, above what was passed
abbrev pub invariant-loop-len : goal.invariant-loop-len
invariant-loop-len g l =
    is_passed_to (g.H.Hierarchy.state l.survey.tree.now) l.survey.users.now l.subtree l.len
    ≡ is_passed_to (g.H.Hierarchy.state l.survey.tree.now) l.survey.users.now l.subtree (length l.subtree)
