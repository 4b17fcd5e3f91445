use Rattle.std.proofs.Common.{◌≡◌, ap, sym, ◌∙◌, map as map_list, rules}
use Rattle.std.specs.BTreeMap.{keys}
use Rattle.std.specs.Cmp.{nat_cmp_total}
use Rattle.std.specs.FinMap as map
use Rattle.cg_rows.proofs.StdMaps.{entries-shown}
use Rattle.cg_rows.proofs.processes.Processes.pids.Goals as goal

pub returns : goal.returns
returns c =
    let collected : c.in_ok-collect.field-0.items ≡ keys c.self.inside.live = search rules in
    collected
    ∙ ap (map_list (λ e. e.0))
    (sym (entries-shown nat_cmp_total map.nat_cmp-IsAntisymmetric c.self.inside.live.entries c.keys.ensures.ordered))
    ∙ ap (λ s. map.keys s.live) c.self.view_is
