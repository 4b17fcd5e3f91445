use Rattle.cg_format.specs.Form.{row_keys}
use Rattle.cg_format.specs.declared.fault.Place.TheVariants.{Cgroup}
use Rattle.cg_text.proofs.EachRow.{AreShaped}
use Rattle.cg_text.proofs.tree.form.cgroups_in_form.Given as goal

abbrev pub invariant-loop-index : goal.invariant-loop-index
invariant-loop-index l = AreShaped (row_keys l.format) Cgroup l.cgroups l.index
