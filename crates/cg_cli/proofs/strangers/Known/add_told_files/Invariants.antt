use Rattle.std.proofs.Common.{take}
use Rattle.std.specs.List.{flat_map}
use Rattle.cg_cli.specs.Known.{AreAdded}
use Rattle.cg_cli.specs.Strangers.{told_entry}
use Rattle.cg_cli.proofs.strangers.Known.add_told_files.Given as goal

abbrev pub invariant-loop-told : goal.invariant-loop-told
invariant-loop-told l = AreAdded l.initial.self l.self (flat_map told_entry (take l.told-index l.files))
