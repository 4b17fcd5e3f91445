use Rattle.std.proofs.Common.{map}
use Rattle.cg_advice.proofs.Gathering.{one_more}
use Rattle.serde_json.specs.View.{view}
use Rattle.cg_advice.specs.Found.{stand_let}
use Rattle.cg_advice.specs.declared.pair.Stand.{Stand}
use Rattle.cg_json.specs.Advice.{stand_value}
use Rattle.cg_json.proofs.Pushed.{pushed}
use Rattle.cg_json.proofs.advice.push_stands.Goals as goal

pub loop-stand-preserved : goal.loop-stand-preserved
loop-stand-preserved c =
    let stands = c.args.stands.now in
    let place = c.loop-stand.stand-index in
    let more =
    one_more (λ (stand : Stand). stand_value (stand_let stand)) stands place c.stand-item.result c.loop-stand-test.true
    c.stand-item.is in
    pushed view (λ (stand : Stand). stand_value (stand_let stand)) (map view c.args.list.now.items) c.loop-stand.list.items
    c.push.new.self.items c.in_ok-value.value stands
    c.stand-item.result place c.in_ok-push.ensures.items c.loop-stand.invariant c.in_ok-value.ensures more
