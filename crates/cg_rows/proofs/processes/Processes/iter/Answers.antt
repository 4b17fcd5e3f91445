use Rattle.std.proofs.Common.{ap, sym, ◌∙◌}
use Rattle.std.specs.Cmp.{nat_cmp_total}
use Rattle.std.specs.FinMap as map
use Rattle.cg_rows.proofs.StdMaps.{entries-shown}
use Rattle.cg_rows.proofs.processes.Processes.iter.Goals as goal

pub returns : goal.returns
returns c =
    c.iter.ensures.rest ∙ sym (entries-shown nat_cmp_total map.nat_cmp-IsAntisymmetric c.self.inside.live.entries c.iter.ensures.ordered)
    ∙ ap (λ s. map.entries s.live) c.self.view_is
