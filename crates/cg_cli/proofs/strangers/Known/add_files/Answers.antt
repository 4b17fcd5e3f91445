use Rattle.std.proofs.Common.{get_or, refl}
use Rattle.cg_cgroup.specs.Files.{all_files}
use Rattle.cg_cgroup.specs.declared.files.LimitFile.TheVariants.{MaxDescendants}
use Rattle.cg_cli.specs.Strangers.{file_entries}
use Rattle.cg_cli.proofs.StrangerLaws.{added_more}
use Rattle.cg_cli.proofs.strangers.Known.add_files.Goals as goal

pub loop-file-preserved : goal.loop-file-preserved
loop-file-preserved c =
    added_more (file_entries c.args.cgroup.now) all_files c.loop-file.file-index (get_or all_files c.loop-file.file-index MaxDescendants)
    MaxDescendants c.loop-file-test.true refl c.args.self.now c.loop-file.self c.add_file.new.self c.loop-file.invariant
    c.in_ok-add_file.ensures
