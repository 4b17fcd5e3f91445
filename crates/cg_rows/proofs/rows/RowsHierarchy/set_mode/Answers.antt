use Rattle.std.proofs.Common.{◌≤◌, sym, subst, ◌∙◌, arith}
use Rattle.std.proofs.lemmas.List.{take_all}
use Rattle.cg_cgroup.specs.Cgroups.{with_mode_in}
use Rattle.cg_model.specs.WellFormed.{IsWellFormed}
use Rattle.cg_model.proofs.FormedLaws.{formed-with_mode}
use Rattle.cg_rows.proofs.TablesState.{tables_changed, row_with_mode}
use Rattle.cg_rows.proofs.rows.RowsHierarchy.set_mode.Goals as goal

pub returns : goal.returns
returns c =
    tables_changed c.args.self.now _ _ _ _ _ c.args.path.now _ (with_mode_in c.args.name c.args.mode) _ _
    c.self.view_is c.in-Some.ensures (take_all c.depth.result c.args.path.now (omega arith)) c.set_mode.ensures c.set.ensures
    ∙ row_with_mode c.args.self.now c.args.path.now c.args.name c.args.mode c.requires.listed

pub invariant_of-self : goal.invariant_of-self
invariant_of-self c =
    subst IsWellFormed (sym (returns c)) (formed-with_mode _ _ _ _ (subst (λ n. n ≤ 511) c.get-bits.ensures.value c.get-bits.ensures.range)
    (subst IsWellFormed c.self.view_is c.self.invariant))
