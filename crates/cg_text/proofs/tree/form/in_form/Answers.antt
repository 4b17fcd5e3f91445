use Rattle.std.proofs.Common.{◌≡◌, Some, sym, ◌∙◌, arith}
use Rattle.toml.specs.View.{table_view}
use Rattle.cg_text.proofs.RowLaws.{passed_on}
use Rattle.cg_text.proofs.FormInTurn.{IsCounted, has_few_rows, at_cgroup, at_process, no_shape}
use Rattle.cg_text.proofs.tree.form.in_form.Goals as goal
use Rattle.cg_text.proofs.tree.form.in_form.Goals.{After-cgroups_in_form}

is_counted : (c : After-cgroups_in_form) → IsCounted (table_view c.args.document.now) c.in_ok-format.format
is_counted c =
    let document = table_view c.args.document.now in
    let found : c.format_at.result ≡ Some c.in_ok-format.format = grind arith in
    record {
      top = sym c.is_document.ensures ∙ c.if-not-is_document.false;
      said = sym c.format_at.ensures ∙ found;
      few =
          has_few_rows c.in_ok-format.format document c.elements_at-cgroups.result.now c.elements_at-processes.result.now
          c.elements_at-cgroups.ensures
          (omega (arith, c.most_rows-most.ensures.rows)) c.elements_at-processes.ensures (omega (arith, c.most_rows-most.ensures.rows));
    }

pub returns-in_err-cgroups_in_form : goal.returns-in_err-cgroups_in_form
returns-in_err-cgroups_in_form c =
    passed_on _ _ _ c.in_err-cgroups_in_form.field-0.0 c.from_residual-in_err-cgroups_in_form.ensures
    (λ memory.
    at_cgroup (table_view c.args.document.now) _ (is_counted (goal.at.returns-in_err-cgroups_in_form c).After-cgroups_in_form) _
    (rw c.elements_at-cgroups.ensures at (c.in_err-cgroups_in_form.ensures memory)))

pub returns-in_err-processes_in_form : goal.returns-in_err-processes_in_form
returns-in_err-processes_in_form c =
    passed_on _ _ _ c.in_err-processes_in_form.field-0.0 c.from_residual-in_err-processes_in_form.ensures
    (λ memory.
    at_process (table_view c.args.document.now) _ (is_counted (goal.at.returns-in_err-processes_in_form c).After-cgroups_in_form) _
    (rw c.elements_at-cgroups.ensures at c.in_ok-cgroups_in_form.ensures.0)
    (rw c.elements_at-processes.ensures at (c.in_err-processes_in_form.ensures memory)))

pub returns : goal.returns
returns c =
    no_shape (table_view c.args.document.now) _ (is_counted (goal.at.returns c).After-cgroups_in_form)
    (rw c.elements_at-cgroups.ensures at c.in_ok-cgroups_in_form.ensures.0)
    (rw c.elements_at-processes.ensures at c.in_ok-processes_in_form.ensures.0)
