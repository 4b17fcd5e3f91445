use Rattle.std.proofs.Common.{ap, sym, ◌∙◌}
use Rattle.toml.specs.View.{view, table_view}
use Rattle.toml.proofs.Views.{view-Table}
use Rattle.cg_format.specs.Form.{is_table, file_keys_of}
use Rattle.cg_text.proofs.TakesLaws.{files_allowed}
use Rattle.cg_text.proofs.tree.form.are_files.Goals as goal

pub returns-in-Table : goal.returns-in-Table
returns-in-Table c =
    c.files_fit.ensures ∙ files_allowed c.args.format (table_view c.in-Table.table)
    ∙ sym (ap (λ value. is_table (file_keys_of c.args.format) (view value)) c.in-Table.is
    ∙ ap (is_table (file_keys_of c.args.format)) (view-Table c.in-Table.table))
