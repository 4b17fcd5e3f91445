use Rattle.std.proofs.Common.{take, ap, sym, ◌∙◌}
use Rattle.std.specs.FinMap as map
use Rattle.cg_cgroup.proofs.PathNames.{IsPath-take}
use Rattle.cg_places.proofs.TextKeys.{number_at, get-numbers}
use Rattle.cg_places.proofs.path_index.PathIndex.get.Goals as goal

pub returns : goal.returns
returns c =
    let q = take c.args.len c.args.path.now in
    let is = IsPath-take c.args.path.now c.args.len c.prefix.ensures.path in
    c.copied.ensures ∙ c.get.ensures.value ∙ ap (number_at c.self.inside.numbers.entries) c.prefix.ensures.text
    ∙ sym (get-numbers q c.self.inside.numbers.entries is c.self.invariant) ∙ ap (λ m. map.get m q) c.self.view_is
