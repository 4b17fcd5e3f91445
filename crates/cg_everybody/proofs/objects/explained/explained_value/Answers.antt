use Rattle.std.proofs.Common.{List, ◌∙◌, ◌++◌, ap, map, codes}
use Rattle.std.specs.List.{flat_map}
use Rattle.cg_explain.specs.Objects.{limits_values}
use Rattle.cg_model.specs.Guards.{guarded_entries}
use Rattle.serde_json.specs.View.{view}
use Rattle.serde_json.specs.declared.value.Value.{Value}
use Rattle.cg_everybody.specs.Everybody.{everybody_of}
use Rattle.cg_everybody.specs.Objects.{guarded_values, subtree_value}
use Rattle.cg_everybody.proofs.objects.explained.explained_value.Goals as goal

pub returns : goal.returns
returns g c =
    let st = g.H.Hierarchy.state c.args.tree.now in
    let subtree = c.args.subtree.now in
    let guards = flat_map (guarded_values st (everybody_of c.args.asked.now) subtree) (guarded_entries subtree) in
    c.in_ok-value.ensures
    ∙ ap (subtree_value (codes "guards") subtree)
    (c.in_ok-push_limits.ensures
    ∙ ap (λ values. values ++ limits_values st subtree)
    (c.in_ok-push_guarded.ensures ∙ ap (λ (begun : List Value). map view begun ++ guards) c.new-list.ensures.items))
