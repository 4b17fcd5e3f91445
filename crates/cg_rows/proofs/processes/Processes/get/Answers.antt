use Rattle.std.proofs.Common.{ap, sym, ◌∙◌}
use Rattle.std.specs.Cmp.{nat_cmp_total}
use Rattle.std.specs.FinMap as map
use Rattle.cg_rows.proofs.StdMaps.{get-shown}
use Rattle.cg_rows.proofs.processes.Processes.get.Goals as goal

pub returns : goal.returns
returns c =
    c.get.ensures.value ∙ sym (get-shown nat_cmp_total c.self.inside.live.entries c.args.pid)
    ∙ ap (λ s. map.get s.live c.args.pid) c.self.view_is
