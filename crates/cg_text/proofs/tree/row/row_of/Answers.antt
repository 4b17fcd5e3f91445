-- A row without a path, without controllers, or with a fault of its entries or values; else it is read.
use Rattle.std.proofs.Common.{◌≡◌, Some, codes, is_some, refl, ap, sym, ◌∙◌}
use Rattle.toml.specs.View.{table_view}
use Rattle.cg_format.specs.Said.{path_said, known_said}
use Rattle.cg_text.specs.declared.tree.row.Entries.{Entries}
use Rattle.cg_format.specs.declared.fault.Place.TheVariants.{Cgroup as AtCgroup}
use Rattle.cg_format.specs.declared.fault.TreeFault.TheVariants.{BadController}
use Rattle.cg_text.proofs.RowLaws.{ok_of, err_of, passed_on, no_path, no_enabled, faults_behind, row_read}
use Rattle.cg_text.proofs.FurtherLaws.{not_owned, ten_failed, ten_passed}
use Rattle.cg_text.proofs.tree.row.row_of.Goals as goal
use Rattle.cg_text.proofs.tree.row.row_of.Goals.{In_ok-enabled}

enabled_is : (c : In_ok-enabled) → known_said c.args.format (codes "enabled") (table_view c.args.table.now) ≡ Some c.in_ok-enabled.enabled
enabled_is c =
    let fault = BadController (AtCgroup c.args.number) in
    sym c.known_at.ensures ∙ ok_of _ fault _ c.in_ok-enabled.ensures.value

pub returns-in_err-path : goal.returns-in_err-path
returns-in_err-path c =
    passed_on _ _ _ c.in_err-path.field-0.0 c.from_residual.ensures
    (λ memory. no_path (path_said (codes "path") (table_view c.args.table.now)) _ _ _ _ _ (c.in_err-path.ensures memory))

pub returns-in_err-enabled : goal.returns-in_err-enabled
returns-in_err-enabled c =
    let fault = BadController (AtCgroup c.args.number) in
    let found = c.known_at.result in
    let refused = err_of found fault _ c.in_err-enabled.ensures.value in
    let row = table_view c.args.table.now in
    passed_on _ _ _ c.in_err-enabled.field-0.0 c.from_residual-in_err-enabled.ensures
    (λ _.
    no_enabled (path_said (codes "path") row) (known_said c.args.format (codes "enabled") row) _ _ _ _
    (ap is_some c.in_ok-path.ensures.1) (sym c.known_at.ensures ∙ refused.0)
    ∙ ap (λ fault. Some fault) refused.1)

pub returns-then-not-others_are_owned : goal.returns-then-not-others_are_owned
returns-then-not-others_are_owned c =
    let enabled = enabled_is (goal.at.returns-then-not-others_are_owned c).In_ok-enabled in
    let said : Entries =
    record { place = AtCgroup c.args.number; format = c.args.format; dir = c.table_at.result; files = c.table_at-2.result } in
    λ _.
    faults_behind said (table_view c.args.table.now) c.table_at.ensures c.table_at-2.ensures _ _ c.in_ok-path.ensures.1 enabled
    ∙ not_owned _ _ _ _ _ (sym c.others_are_owned.ensures ∙ c.if-not-others_are_owned.true)

pub returns-in_err-cgroup : goal.returns-in_err-cgroup
returns-in_err-cgroup c =
    let enabled = enabled_is (goal.at.returns-in_err-cgroup c).In_ok-enabled in
    let said : Entries =
    record { place = AtCgroup c.args.number; format = c.args.format; dir = c.table_at.result; files = c.table_at-2.result } in
    passed_on _ _ _ c.in_err-cgroup.field-0.0 c.from_residual-in_err-cgroup.ensures
    (λ memory.
    faults_behind said (table_view c.args.table.now) c.table_at.ensures c.table_at-2.ensures _ _ c.in_ok-path.ensures.1 enabled
    ∙ ten_failed _ _ _ _ _ _ _ (sym c.others_are_owned.ensures ∙ c.if-not-others_are_owned.false) (c.in_err-cgroup.ensures memory))

pub returns-in_err-told : goal.returns-in_err-told
returns-in_err-told c =
    let enabled = enabled_is (goal.at.returns-in_err-told c).In_ok-enabled in
    let said : Entries =
    record { place = AtCgroup c.args.number; format = c.args.format; dir = c.table_at.result; files = c.table_at-2.result } in
    passed_on _ _ _ c.in_err-told.field-0.0 c.from_residual-in_err-told.ensures
    (λ memory.
    faults_behind said (table_view c.args.table.now) c.table_at.ensures c.table_at-2.ensures _ _ c.in_ok-path.ensures.1 enabled
    ∙ ten_passed _ _ _ _ _ _ (sym c.others_are_owned.ensures ∙ c.if-not-others_are_owned.false) c.in_ok-cgroup.ensures.0
    ∙ c.in_err-told.ensures memory)

pub returns : goal.returns
returns c =
    let row = table_view c.args.table.now in
    let enabled = enabled_is (goal.at.returns c).In_ok-enabled in
    let said : Entries =
    record { place = AtCgroup c.args.number; format = c.args.format; dir = c.table_at.result; files = c.table_at-2.result } in
    let path = c.in_ok-path.ensures.1 in (
      faults_behind said row c.table_at.ensures c.table_at-2.ensures _ _ path enabled
          ∙ ten_passed _ _ _ _ _ _ (sym c.others_are_owned.ensures ∙ c.if-not-others_are_owned.false) c.in_ok-cgroup.ensures.0
          ∙ c.in_ok-told.ensures.0,
      row_read said row c.table_at.ensures c.table_at-2.ensures c.args.number _ _ refl path
          enabled _ c.freeze_at.ensures c.in_ok-cgroup.ensures.1 c.needed.ensures c.in_ok-told.ensures.1,
    )
