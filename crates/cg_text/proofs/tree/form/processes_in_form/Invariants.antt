use Rattle.cg_format.specs.Form.{live_keys}
use Rattle.cg_format.specs.declared.fault.Place.TheVariants.{Process}
use Rattle.cg_text.proofs.EachRow.{AreShaped}
use Rattle.cg_text.proofs.tree.form.processes_in_form.Given as goal

abbrev pub invariant-loop-index : goal.invariant-loop-index
invariant-loop-index l = AreShaped live_keys Process l.processes l.index
