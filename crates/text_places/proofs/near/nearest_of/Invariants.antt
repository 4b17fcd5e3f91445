-- Of the names so far the nearest.
use Rattle.std.proofs.Common.{take}
use Rattle.text_places.specs.Nearest.{distance, farthest}
use Rattle.text_places.proofs.Least.{IsLeast}
use Rattle.text_places.proofs.near.nearest_of.Given as goal

abbrev pub invariant-loop-name : goal.invariant-loop-name
invariant-loop-name l = IsLeast (λ name. distance l.written name.now) (farthest l.written) (take l.name-index l.names) l.nearest l.below
