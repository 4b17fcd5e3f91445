use Rattle.std.proofs.Common.{◌≡◌, false, ◌&&◌, take}
use Rattle.std.specs.List.{list_any}
use Rattle.cg_cgroup.specs.Paths.{inside}
use Rattle.cg_second.specs.Anchors.{is_fixed}
use Rattle.cg_second.proofs.control.stays_on.Given as goal

-- none of those that were passed holds it
abbrev pub invariant-loop-at : goal.invariant-loop-at
invariant-loop-at g l =
    list_any (λ q. inside (take l.len l.path) q
    && is_fixed (g.H.Hierarchy.state l.survey.tree.now) l.survey.users.now l.controller q) (take l.at l.survey.paths.items)
    ≡ false
