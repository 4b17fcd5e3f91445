use Rattle.cg_everybody.specs.Everybody.{everybody_of}
use Rattle.cg_everybody.proofs.Walked.{three_written}
use Rattle.cg_everybody.proofs.lines.push_entry.Goals as goal

pub returns : goal.returns
returns c =
    three_written (everybody_of c.args.asked.now) c.args.subtree.now c.args.at.now c.args.text.now.items c.push_class.new.text.items
    c.push_class-2.new.text.items
    c.push_class-3.new.text.items c.in_ok-push_class.ensures c.in_ok-push_class-2.ensures c.in_ok-push_class-3.ensures
