use Rattle.std.proofs.Common.{ap, ◌∙◌}
use Rattle.std.specs.List.{list_any}
use Rattle.cg_cli.specs.Known.{speaks_of}
use Rattle.cg_cli.specs.Strangers.{told_entry}
use Rattle.cg_cli.proofs.StrangerLaws.{in_told}
use Rattle.cg_cli.proofs.strangers.told_speaks.Goals as goal

pub returns : goal.returns
returns c =
    c.any_told_file_speaks.ensures
    ∙ ap (list_any (λ told. list_any (speaks_of c.args.user.now) (told_entry told))) c.entries.ensures
    ∙ in_told c.args.files.now c.args.user.now
