-- The changes of one write to a cgroup.subtree_control.
use Rattle.std.specs.Prelude.{Bool, List, reverse, find, Option, unwrap_or}
use Rattle.std.specs.Option.{option_map}
use Rattle.cg_cgroup.specs.Files.{same_controller, enables, set_by}
use Rattle.cg_cgroup.specs.declared.files.Controller.{Controller}
use Rattle.cg_cgroup.specs.declared.controllers.ControllerSet.{ControllerSet}
use Rattle.cg_model.specs.declared.changes.Change.{Change}

-- Enabling and Disabling: of several changes on one controller the last is effective.
abbrev pub effective : List Change → Controller → Option Bool
effective changes controller = option_map (λ change. change.on) (find (λ change. same_controller change.controller controller) (reverse changes))

-- what is enabled once the changes have taken effect
abbrev pub enabled_after : ControllerSet → List Change → ControllerSet
enabled_after enabled changes = set_by (λ controller. unwrap_or (effective changes controller) (enables enabled controller))
