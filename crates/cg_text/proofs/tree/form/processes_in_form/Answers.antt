use Rattle.toml.specs.View.{view}
use Rattle.std.proofs.Common.{map}
use Rattle.cg_format.specs.Form.{live_keys}
use Rattle.cg_format.specs.declared.fault.Place.TheVariants.{Process}
use Rattle.cg_text.proofs.EachRow.{none_passed, more_shaped, misshapen, all_shaped}
use Rattle.cg_text.proofs.tree.form.processes_in_form.Goals as goal

pub loop-index-init : goal.loop-index-init
loop-index-init c = none_passed _ Process (map view c.args.processes.now)

pub loop-index-preserved : goal.loop-index-preserved
loop-index-preserved c =
    more_shaped live_keys Process c.args.processes.now _ _ c.loop-index.invariant c.loop-index-test.true c.index-processes-index.is _
    c.is_process.ensures c.if-not-is_process.false

pub returns : goal.returns
returns c = (all_shaped live_keys Process c.args.processes.now _ c.loop-index.invariant c.loop-index-test.false, tt)

pub returns-then-not-is_process : goal.returns-then-not-is_process
returns-then-not-is_process c = λ _.
    misshapen live_keys Process c.args.processes.now _ _ c.loop-index.invariant c.loop-index-test.true c.index-processes-index.is _
    c.is_process.ensures _ c.row_number.ensures c.if-not-is_process.true
