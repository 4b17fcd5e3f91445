use Rattle.std.proofs.Common.{sym, ◌∙◌}
use Rattle.cg_text.proofs.RowLaws.{owners_there}
use Rattle.cg_text.proofs.tree.row.Entries.are_owned.Goals as goal

pub returns-then-are_there : goal.returns-then-are_there
returns-then-are_there c = sym (owners_there c.args.self c.args.files.now c.requires (sym c.are_there.ensures ∙ c.if-are_there.true))
