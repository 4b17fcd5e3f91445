use Rattle.std.proofs.Common.{[]}
use Rattle.cg_advice.proofs.Gathering.{one_more}
use Rattle.cg_json.proofs.Pushed.{pushed}
use Rattle.serde_json.specs.View.{view}
use Rattle.cg_everybody.specs.Entrances.{entrance_spot}
use Rattle.cg_everybody.specs.Everybody.{everybody_of}
use Rattle.cg_everybody.specs.Objects.{entrance_value}
use Rattle.cg_everybody.specs.declared.entrance.Entrance.{Entrance}
use Rattle.cg_everybody.proofs.objects.audited.entrance_values.Goals as goal

pub loop-each-preserved : goal.loop-each-preserved
loop-each-preserved c =
    let value = λ (each : Entrance). entrance_value (everybody_of c.args.asked.now) (entrance_spot each) in
    let found = c.args.found.now in
    let place = c.loop-each.each-index in
    pushed view value [] c.loop-each.list.items c.push.new.self.items c.in_ok-value.value found c.each-item.result place
    c.in_ok-push.ensures.items c.loop-each.invariant c.in_ok-value.ensures
    (one_more value found place c.each-item.result c.loop-each-test.true c.each-item.is)
