use Rattle.std.proofs.Common.{◌≡◌, take, ap, ◌∙◌}
use Rattle.std.proofs.lemmas.List.{get_or_read}
use Rattle.cg_places.specs.Links.{no_link, link_at}
use Rattle.cg_counts.proofs.Read.{count_is}
use Rattle.cg_counts.proofs.cgroups.Cgroups.count_below.Goals as goal

pub returns : goal.returns
returns c =
    let q = take c.args.len c.args.path.now in
    let links = c.self.inside.links.items in
    let l = c.self.invariant.placed.within q c.number-place.result c.number-place.ensures in
    let link : c.index.result.now ≡ link_at links c.number-place.result =
    get_or_read links c.number-place.result c.index.result.now l c.index.ensures no_link in
    ap (λ n. n.below) link ∙ count_is c.self.inside.places c.self.inside.nodes c.args.self.now c.self.view_is c.self.inside.links.items
    c.self.invariant q c.number-place.result c.number-place.ensures
