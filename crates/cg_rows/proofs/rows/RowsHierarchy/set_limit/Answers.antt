use Rattle.std.proofs.Common.{sym, subst, arith}
use Rattle.std.proofs.lemmas.List.{take_all}
use Rattle.cg_cgroup.specs.Cgroups.{with_value_in}
use Rattle.cg_model.specs.WellFormed.{IsWellFormed}
use Rattle.cg_model.proofs.FormedLaws.{formed-with_value}
use Rattle.cg_rows.proofs.TablesState.{tables_changed}
use Rattle.cg_rows.proofs.rows.RowsHierarchy.set_limit.Goals as goal

pub invariant_of-self : goal.invariant_of-self
invariant_of-self c =
    let next = tables_changed c.args.self.now _ _ _ _ _ c.args.path.now _ (with_value_in c.args.file c.args.value) _ _
    c.self.view_is c.in-Some.ensures (take_all c.depth.result c.args.path.now (omega arith)) c.set_value.ensures c.set.ensures in
    subst IsWellFormed (sym next) (formed-with_value _ _ _ _ c.requires.accepted (subst IsWellFormed c.self.view_is c.self.invariant))
