use Rattle.std.proofs.Common.{◌∙◌, ◌++◌, ap, map}
use Rattle.cg_json.proofs.Pushed.{mapped_twice}
use Rattle.cg_everybody.specs.Entrances.{entrance_spot}
use Rattle.cg_everybody.specs.Everybody.{everybody_of, entrances}
use Rattle.cg_everybody.specs.Objects.{entrance_value, excess_values}
use Rattle.cg_everybody.specs.declared.entrance.Entrance.{Entrance}
use Rattle.cg_everybody.proofs.objects.audited.found_values.Goals as goal

pub returns-clause-values : goal.returns-clause-values
returns-clause-values g c =
    let st = g.H.Hierarchy.state c.args.tree.now in
    let asked = everybody_of c.args.asked.now in
    let subtree = c.args.subtree.now in
    c.in_ok-push_excess.ensures
    ∙ ap (λ values. values ++ excess_values st subtree)
    (c.in_ok-list.ensures
    ∙ ap (map (λ (each : Entrance). entrance_value asked (entrance_spot each))) c.as_slice.ensures.value
    ∙ mapped_twice (entrance_value asked) entrance_spot _
    ∙ ap (map (entrance_value asked))
    (c.in_ok-next.ensures.found ∙ ap (λ l. map entrance_spot l ++ entrances st asked subtree) c.new-found.ensures.items))
