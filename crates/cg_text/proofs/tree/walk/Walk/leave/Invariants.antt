use Rattle.std.proofs.Common.{◌≡◌, List, length}
use Rattle.cg_cgroup.specs.declared.controllers.ControllerSet.{ControllerSet}
use Rattle.cg_text.specs.Walk.{HasMet}
use Rattle.cg_text.specs.declared.tree.row.Row.{Row}
use Rattle.cg_text.proofs.WalkFronts.{AreFronts}
use Rattle.cg_text.proofs.tree.walk.Walk.leave.Given as goal

abbrev pub invariant-loop-self : goal.invariant-loop-self
invariant-loop-self l = record {
  entries : l.self.entries ≡ l.initial.self.entries;
  told : l.self.told ≡ l.initial.self.told;
  least : l.self.least ≡ l.initial.self.least;
  left : (controllers : ControllerSet) (met : List Row) → HasMet controllers met l.initial.self → AreFronts met l.path l.self.above.items;
}

abbrev pub decreases-loop-self : goal.decreases-loop-self
decreases-loop-self l = length l.self.above.items
