use Rattle.std.proofs.Common.{◌≡◌, Bool, true, false, not, refl, sym, ap, ◌∙◌}
use Rattle.cg_text.specs.Walk.{is_past, noted}
use Rattle.cg_text.proofs.tree.walk.Walk.test.Goals as goal

turned : (some none : Bool) → some ≡ not none → none ≡ not some
turned some true is = sym (ap not is)
turned some false is = sym (ap not is)

pub returns-clause-tested : goal.returns-clause-tested
returns-clause-tested c met entries next =
    let row = c.args.row.now in
    let least = c.args.self.now.least in
    let met_is = c.noted.ensures ∙ ap (noted least.twice row.number) (c.has_met-twice.ensures met row entries next refl) in
    let alone = c.noted-2.ensures ∙ ap (noted least.orphan row.number) (turned _ _ c.is_none.ensures) in
    let past = c.noted-3.ensures ∙ ap (noted least.not_within row.number) (c.is_past.ensures
    ∙ ap (is_past row.cgroup.enabled) c.available-available.ensures) in
    let file = c.noted-4.ensures ∙ ap (noted least.no_file row.number) c.names_past.ensures in
    λ i. record { twice = met_is i; orphan = alone i; not_within = past i; no_file = file i }
