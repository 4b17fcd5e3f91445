use Rattle.std.proofs.Common.{ap, ◌∙◌, cond, map, Some, None}
use Rattle.std.specs.List.{flat_map}
use Rattle.cg_cgroup.specs.Paths.{same_path}
use Rattle.cg_model.specs.Once.{once}
use Rattle.cg_model.specs.Mends.{same_place}
use Rattle.cg_advice.specs.Found.{stand_let, let_gathered, over_raised, raised_of, parts_of}
use Rattle.cg_advice.specs.Ways.{pair_of, entering}
use Rattle.cg_advice.specs.Thinned.{table_path}
use Rattle.cg_advice.proofs.Founding.{all_found}
use Rattle.cg_advice.proofs.found.advice.Goals as goal

pub returns : goal.returns
returns g c =
    let st = g.H.Hierarchy.state c.args.tree.now in
    let pairs = map pair_of c.args.pairs.now in
    ap Some (all_found st pairs (map entering c.in_ok-met.met.entrants.items) c.in_ok-met.met.tables.items
    (map stand_let c.in_ok-stands.stands.items) (map over_raised c.in_ok-overs.overs.items) c.in_ok-met.ensures
    (c.in_ok-stands.ensures
    ∙ ap (λ those. map (let_gathered (map entering those)) (once same_place (map entering those))) c.as_slice.ensures.value)
    (c.in_ok-overs.ensures
    ∙ ap (λ tables. flat_map (raised_of st) (once same_path (map table_path tables))) c.as_slice-2.ensures.value))
    ∙ ap (λ guarded. cond guarded None (Some (parts_of st pairs))) c.if-are_guarded.ensures
