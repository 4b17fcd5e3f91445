use Rattle.std.proofs.Common.{◌≡◌, ap, ◌∙◌, Ok, Err}
use Rattle.std.specs.Prelude.{IfOk, map, filter}
use Rattle.cg_cgroup.proofs.PathOrder.{path_cmp_total}
use Rattle.cg_model.specs.Receiving.{row_receives, receivers}
use Rattle.cg_model.proofs.MapLaws.{keys-filtered}
use Rattle.cg_rows.proofs.rows.RowsHierarchy.receivers.Goals as goal

pub returns : goal.returns
returns c =
    elim c.receiving.result as
    (λ r. IfOk r (λ paths. paths.items ≡ map (λ e. e.0) (filter (λ e. row_receives c.args.user.now e.0 e.1) c.entries.result.now))
    → IfOk r (λ paths. paths.items ≡ receivers c.args.self.now c.args.user.now)) [
      | Ok paths ↦ λ same. same ∙ ap (λ es. map (λ e. e.0) (filter (λ e. row_receives c.args.user.now e.0 e.1) es)) c.entries.ensures
          ∙ keys-filtered path_cmp_total (row_receives c.args.user.now) c.self.inside.rows
          ∙ ap (λ st. receivers st c.args.user.now) c.self.view_is
      | Err error ↦ λ none. tt
    ] c.receiving.ensures
