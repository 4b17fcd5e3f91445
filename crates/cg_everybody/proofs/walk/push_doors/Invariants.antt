use Rattle.std.proofs.Common.{◌≡◌, ◌≤◌, length}
use Rattle.cg_everybody.specs.Everybody.{everybody_of}
use Rattle.cg_everybody.specs.Entrances.{doors}
use Rattle.cg_everybody.proofs.walk.push_doors.Given as goal

abbrev pub invariant-loop-len : goal.invariant-loop-len
invariant-loop-len g l =
    (l.found.items ≡ doors (g.H.Hierarchy.state l.tree) (everybody_of l.asked) l.subtree l.len) × (l.len ≤ length l.subtree)
