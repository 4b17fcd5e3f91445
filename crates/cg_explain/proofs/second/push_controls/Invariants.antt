use Rattle.std.proofs.Common.{◌≡◌, ◌++◌, map, take}
use Rattle.std.specs.List.{filter}
use Rattle.cg_cgroup.specs.Files.{all_controllers}
use Rattle.cg_model.specs.Tries.{is_told}
use Rattle.cg_explain.specs.SecondRow.{control_asked}
use Rattle.cg_explain.proofs.second.push_controls.Given as goal

-- those that were passed are told
abbrev pub invariant-loop-controller : goal.invariant-loop-controller
invariant-loop-controller g l =
    l.row.items
    ≡ l.fn.row.items
    ++ map (control_asked (g.H.Hierarchy.state l.survey.tree.now) l.survey.users.now l.subtree)
    (filter (is_told (g.H.Hierarchy.state l.survey.tree.now)) (take l.controller-index all_controllers))
