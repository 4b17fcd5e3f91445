use Rattle.cg_cli.specs.Strangers.{told_entry}
use Rattle.cg_cli.proofs.StrangerLaws.{added_more}
use Rattle.cg_cli.proofs.strangers.Known.add_told_files.Goals as goal

pub loop-told-preserved : goal.loop-told-preserved
loop-told-preserved c =
    added_more told_entry c.args.files.now c.loop-told.told-index c.told-item.result c.told-item.result c.loop-told-test.true
    c.told-item.is c.args.self.now c.loop-told.self c.add_told_file.new.self c.loop-told.invariant c.in_ok-add_told_file.ensures
