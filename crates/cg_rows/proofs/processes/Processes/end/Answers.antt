use Rattle.std.proofs.Common.{ap, ◌∙◌}
use Rattle.std.specs.Cmp.{nat_cmp_total}
use Rattle.std.specs.FinMap as map
use Rattle.std.specs.FinSet as set
use Rattle.cg_rows.specs.Processes.{without}
use Rattle.cg_rows.proofs.StdMaps.{shown-remove}
use Rattle.cg_rows.proofs.processes.Processes.end.Goals as goal

pub returns : goal.returns
returns c =
    (λ i. record {
      live =
          shown-remove nat_cmp_total map.nat_cmp-IsAntisymmetric c.self.inside.live.entries _ c.args.pid c.remove.ensures.updates.0 i;
      used = set.from_list c.self.inside.used.keys;
    }) ∙ ap (λ s. without s c.args.pid) c.self.view_is
