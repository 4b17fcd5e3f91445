use Rattle.std.proofs.Common.{take}
use Rattle.std.specs.List.{flat_map}
use Rattle.cg_cgroup.specs.Files.{all_files}
use Rattle.cg_cli.specs.Known.{AreAdded}
use Rattle.cg_cli.specs.Strangers.{file_entries}
use Rattle.cg_cli.proofs.strangers.Known.add_files.Given as goal

abbrev pub invariant-loop-file : goal.invariant-loop-file
invariant-loop-file l = AreAdded l.initial.self l.self (flat_map (file_entries l.cgroup) (take l.file-index all_files))
