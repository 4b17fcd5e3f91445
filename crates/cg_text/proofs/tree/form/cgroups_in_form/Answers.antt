use Rattle.toml.specs.View.{view}
use Rattle.std.proofs.Common.{map}
use Rattle.cg_format.specs.Form.{row_keys}
use Rattle.cg_format.specs.declared.fault.Place.TheVariants.{Cgroup}
use Rattle.cg_text.proofs.EachRow.{none_passed, more_shaped, misshapen, all_shaped}
use Rattle.cg_text.proofs.tree.form.cgroups_in_form.Goals as goal

pub loop-index-init : goal.loop-index-init
loop-index-init c = none_passed _ Cgroup (map view c.args.cgroups.now)

pub loop-index-preserved : goal.loop-index-preserved
loop-index-preserved c =
    more_shaped (row_keys c.args.format) Cgroup c.args.cgroups.now _ _ c.loop-index.invariant
    c.loop-index-test.true c.index-cgroups-index.is _
    c.is_cgroup.ensures c.if-not-is_cgroup.false

pub returns : goal.returns
returns c = (all_shaped (row_keys c.args.format) Cgroup c.args.cgroups.now _ c.loop-index.invariant c.loop-index-test.false, tt)

pub returns-then-not-is_cgroup : goal.returns-then-not-is_cgroup
returns-then-not-is_cgroup c = λ _.
    misshapen (row_keys c.args.format) Cgroup c.args.cgroups.now _ _ c.loop-index.invariant
    c.loop-index-test.true c.index-cgroups-index.is _
    c.is_cgroup.ensures _ c.row_number.ensures c.if-not-is_cgroup.true
