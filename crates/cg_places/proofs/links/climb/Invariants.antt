use Rattle.std.proofs.Common.{◌≡◌, ◌-◌}
use Rattle.cg_places.specs.Links.{climbed}
use Rattle.cg_places.proofs.links.climb.Given as goal

abbrev pub invariant-loop-up : goal.invariant-loop-up
invariant-loop-up l = climbed l.links l.len l.at (l.len - l.up) ≡ climbed l.links l.len l.start l.len
