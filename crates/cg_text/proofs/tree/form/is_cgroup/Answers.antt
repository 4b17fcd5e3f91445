use Rattle.std.proofs.Common.{codes, is_some, refl, ap, sym, ◌∙◌}
use Rattle.toml.specs.Data.{get_member}
use Rattle.toml.specs.View.{table_view}
use Rattle.std.specs.Prelude.{◌&&◌}
use Rattle.cg_text.proofs.TakesLaws.{cgroup_is}
use Rattle.cg_text.proofs.tree.form.is_cgroup.Goals as goal

pub returns-then-row_fits : goal.returns-then-row_fits
returns-then-row_fits c =
    sym (ap (λ fits. fits && c.has_key.result) c.if-row_fits.true)
    ∙ cgroup_is c.args.format _ c.in-Table.table _ _ c.in-Table.is c.row_fits.ensures c.has_key.ensures

pub returns-else-row_fits : goal.returns-else-row_fits
returns-else-row_fits c =
    let has = is_some (get_member (codes "path") (table_view c.in-Table.table)) in
    c.if-row_fits.false ∙ sym (ap (λ fits. fits && has) c.if-row_fits.false)
    ∙ cgroup_is c.args.format _ c.in-Table.table _ has c.in-Table.is c.row_fits.ensures refl
