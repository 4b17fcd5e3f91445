use Rattle.std.proofs.Common.{ap, ◌∙◌}
use Rattle.std.specs.Cmp.{nat_cmp_total}
use Rattle.std.specs.FinMap as map
use Rattle.std.specs.FinSet as set
use Rattle.cg_rows.specs.Processes.{with_new}
use Rattle.cg_rows.proofs.StdMaps.{shown-insert, set_shown-insert, set_shown-undone}
use Rattle.cg_rows.proofs.processes.Processes.insert.Goals as goal

pub returns-in-Ok-clause-ok : goal.returns-in-Ok-clause-ok
returns-in-Ok-clause-ok c =
    let live =
    shown-insert nat_cmp_total map.nat_cmp-IsAntisymmetric c.self.inside.live.entries c.insert-2.new.self.entries c.args.pid
    c.args.process c.in-Ok.ensures.updates.0 in
    let used =
    set_shown-insert nat_cmp_total map.nat_cmp-IsAntisymmetric c.self.inside.used.keys c.insert.new.self.keys c.args.pid
    c.in_ok-insert.ensures.updates.0 in
    (λ i. record { live = live i; used = used i }) ∙ ap (λ s. with_new s c.args.pid c.args.process) c.self.view_is

pub returns-clause-err : goal.returns-clause-err
returns-clause-err c =
    let unused = ap (λ s. set.contains s.used c.args.pid) c.self.view_is ∙ c.requires in
    let used =
    set_shown-undone nat_cmp_total map.nat_cmp-IsAntisymmetric c.self.inside.used.keys c.insert.new.self.keys c.remove.new.self.keys
    c.args.pid unused c.in_ok-insert.ensures.updates.0 c.remove.ensures.updates.0 in
    (λ i. record { live = map.from_entries (c.in-Err.ensures.err i); used = used i }) ∙ c.self.view_is
