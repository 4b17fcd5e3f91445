use Rattle.std.proofs.Common.{map}
use Rattle.serde_json.specs.View.{view}
use Rattle.cg_everybody.specs.Everybody.{everybody_of}
use Rattle.cg_everybody.proofs.ObjectLists.{three_pushed}
use Rattle.cg_everybody.proofs.objects.explained.push_entry.Goals as goal

pub returns : goal.returns
returns c =
    three_pushed (everybody_of c.args.asked.now) c.args.subtree.now c.args.at.now (map view c.args.list.now.items)
    (map view c.push_class.new.list.items) (map view c.push_class-2.new.list.items) (map view c.push_class-3.new.list.items)
    c.in_ok-push_class.ensures c.in_ok-push_class-2.ensures c.in_ok-push_class-3.ensures
