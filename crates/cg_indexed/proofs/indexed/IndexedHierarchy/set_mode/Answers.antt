use Rattle.std.proofs.Common.{◌≤◌, ap, sym, subst, is_some, ◌∙◌}
use Rattle.cg_cgroup.specs.Cgroups.{with_mode_in}
use Rattle.cg_cgroup.proofs.CgroupLaws.{enabled-with_mode_in}
use Rattle.cg_model.specs.States.{State, row_at}
use Rattle.cg_model.specs.WellFormed.{IsWellFormed}
use Rattle.cg_model.proofs.FormedLaws.{formed-with_mode}
use Rattle.cg_model.proofs.StateEntries.{entry_at-row}
use Rattle.cg_rows.proofs.TablesState.{row_with_mode}
use Rattle.cg_indexed.proofs.States.{enabled_there, there_by_part, put_shows, put_indexed}
use Rattle.cg_indexed.proofs.indexed.IndexedHierarchy.set_mode.Goals as goal

pub cgroup-requires : goal.cgroup-requires
cgroup-requires c =
    ap (λ (s : State). is_some (row_at s c.args.path.now)) c.self.view_is ∙ there_by_part c.args.self.now c.args.path.now _
    (ap is_some (sym (entry_at-row c.args.self.now c.args.path.now c.args.name c.requires.listed)) ∙ c.requires.there)

pub set-requires : goal.set-requires
set-requires c =
    enabled_there c.self.inside.cgroups c.args.path.now c.cgroup.result.now c.set_mode.new.self c.cgroup.ensures
    (ap (λ r. r.enabled) c.set_mode.ensures ∙ enabled-with_mode_in c.args.name c.args.mode c.cgroup.result.now)

pub invariant_of-self : goal.invariant_of-self
invariant_of-self c =
    put_indexed c.self.inside.cgroups c.self.inside.processes c.self.inside.told c.self.inside.controllers c.args.self.now c.self.view_is
    c.args.path.now (with_mode_in c.args.name c.args.mode) c.cgroup.result.now c.set_mode.new.self c.cgroup.ensures c.set_mode.ensures
    c.set.new.self c.set.ensures c.self.invariant
    (subst IsWellFormed (sym (row_with_mode c.args.self.now c.args.path.now c.args.name c.args.mode c.requires.listed))
    (formed-with_mode c.args.self.now c.args.path.now c.args.name c.args.mode
    (subst (λ n. n ≤ 511) c.get-bits.ensures.value c.get-bits.ensures.range)
    (subst IsWellFormed c.self.view_is c.self.invariant.formed)))

pub returns : goal.returns
returns c =
    put_shows c.self.inside.cgroups c.self.inside.processes c.self.inside.told c.self.inside.controllers c.args.self.now c.self.view_is
    c.args.path.now (with_mode_in c.args.name c.args.mode) c.cgroup.result.now c.set_mode.new.self c.cgroup.ensures c.set_mode.ensures
    c.set.new.self c.set.ensures
    ∙ row_with_mode c.args.self.now c.args.path.now c.args.name c.args.mode c.requires.listed
