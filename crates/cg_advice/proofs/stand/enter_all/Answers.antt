use Rattle.std.proofs.Common.{map, ◌<◌, length, get_or, arith}
use Rattle.std.proofs.lemmas.List.{get_or_default}
use Rattle.cg_advice.specs.Ways.{entering}
use Rattle.cg_advice.proofs.Thinning.{met_more}
use Rattle.cg_advice.proofs.stand.enter_all.Goals as goal

pub loop-place-preserved : goal.loop-place-preserved
loop-place-preserved c =
    let place = c.loop-place.place in
    let within : place < length c.loop-place.stands = omega arith in
    let stand = get_or c.loop-place.stands place c.index-stands-place.result in
    met_more c.args.user.now (map entering c.args.found.now.items) (map entering c.loop-place.found.items)
    (map entering c.enter.new.found.items) c.args.stands.now c.loop-place.stands place stand within
    (get_or_default c.loop-place.stands place c.index-stands-place.result stand within)
    c.loop-place.invariant c.in_ok-enter.ensures.found c.enter.new.stand c.in_ok-enter.ensures.spot c.in_ok-enter.ensures.ways
