use Rattle.std.proofs.Common.{subst}
use Rattle.std.specs.Prelude.{OnOk}
use Rattle.std.specs.List.{flat_map}
use Rattle.cg_cli.specs.Known.{AreAdded}
use Rattle.cg_cli.specs.Strangers.{told_entry}
use Rattle.cg_cli.proofs.strangers.Known.add_told.Goals as goal

pub returns : goal.returns
returns c =
    subst (λ files. OnOk c.add_told_files.result (AreAdded c.args.self.now c.add_told_files.new.self (flat_map told_entry files)))
    c.entries.ensures c.add_told_files.ensures
