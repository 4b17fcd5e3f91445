use Rattle.std.proofs.Common.{◌∙◌, ◌++◌, ap, map, sym}
use Rattle.std.specs.List.{flat_map}
use Rattle.std.proofs.lemmas.List.Folds.{flat_map-map}
use Rattle.cg_cgroup.specs.Paths.{same_path}
use Rattle.cg_model.specs.Once.{once}
use Rattle.cg_advice.specs.AdviceLines.{over_lines}
use Rattle.cg_advice.specs.Found.{stand_let}
use Rattle.cg_advice.specs.declared.pair.Stand.{Stand}
use Rattle.cg_everybody.specs.Advice.{same_spot, let_into, let_lines, spots_met}
use Rattle.cg_everybody.specs.Entrances.{entrance_spot}
use Rattle.cg_everybody.specs.Everybody.{everybody_of}
use Rattle.cg_everybody.proofs.advice.everybody_advice.Goals as goal

pub returns : goal.returns
returns g c =
    let st = g.H.Hierarchy.state c.args.tree.now in
    let asked = everybody_of c.args.asked.now in
    let lines = λ (stand : Stand). let_lines (stand_let stand) in
    let last = flat_map (over_lines st) (once same_path c.args.subtrees.now) in
    let stands =
    ap (map stand_let) c.as_slice-2.ensures.value ∙ c.in_ok-stands.ensures
    ∙ ap (λ found. map (let_into asked) (once same_spot (map entrance_spot found))) c.as_slice.ensures.value
    ∙ ap (λ spots. map (let_into asked) (once same_spot spots)) c.in_ok-found.ensures in
    c.in_ok-push_all_limits.ensures
    ∙ ap (λ text. text ++ last)
    (c.in_ok-push_stands.ensures
    ∙ ap (λ text. text ++ flat_map lines c.as_slice-2.result.now) c.new-text.ensures.items
    ∙ sym (flat_map-map let_lines stand_let c.as_slice-2.result.now)
    ∙ ap (flat_map let_lines) stands
    ∙ flat_map-map let_lines (let_into asked) (spots_met st asked c.args.subtrees.now))
