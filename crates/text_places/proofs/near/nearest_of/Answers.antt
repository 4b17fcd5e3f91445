use Rattle.text_places.specs.Nearest.{distance, farthest}
use Rattle.text_places.proofs.Least.{nearer_as, farther_as}
use Rattle.text_places.proofs.near.nearest_of.Goals.{then-distance-below, else-distance-below}
use Rattle.text_places.proofs.near.nearest_of.Goals as goal

pub loop-name-preserved : goal.loop-name-preserved
loop-name-preserved c = elim c.if-distance-below.branch [
  | then-distance-below w ↦ nearer_as (λ name. distance c.args.written.now name.now) (farthest c.args.written.now) c.args.names.now
      c.loop-name.name-index _ c.loop-name.nearest c.if-distance-below.nearest c.loop-name.below c.in_ok-distance.distance
      c.if-distance-below.below
      c.loop-name.invariant c.loop-name-test.true w.nearest-is w.below-is c.in_ok-distance.ensures w.if-distance-below.true
  | else-distance-below w ↦ farther_as (λ name. distance c.args.written.now name.now) (farthest c.args.written.now) c.args.names.now
      c.loop-name.name-index _ c.loop-name.nearest c.if-distance-below.nearest c.loop-name.below c.in_ok-distance.distance
      c.if-distance-below.below
      c.loop-name.invariant c.loop-name-test.true w.nearest-is w.below-is c.in_ok-distance.ensures w.if-distance-below.false
]
