use Rattle.std.proofs.Common.{List, ◌++◌, ap, map, ◌∙◌}
use Rattle.serde_json.specs.Data.{array}
use Rattle.serde_json.specs.View.{items_of, view}
use Rattle.serde_json.specs.declared.value.Value.{Value}
use Rattle.cg_advice.specs.Found.{stand_let, over_raised}
use Rattle.cg_json.specs.Advice.{stand_value, over_value}
use Rattle.cg_json.proofs.Pushed.{mapped_twice}
use Rattle.cg_json.proofs.advice.fails_value.Goals as goal

pub returns : goal.returns
returns c =
    c.from.ensures ∙ ap (λ values. array (items_of values))
    (c.in_ok-push_overs.ensures
    ∙ ap (λ values. values ++ map (λ over. over_value (over_raised over)) c.args.overs.now) c.in_ok-push_stands.ensures
    ∙ ap (λ (begun : List Value). (map view begun ++ map (λ stand. stand_value (stand_let stand)) c.args.stands.now)
    ++ map (λ over. over_value (over_raised over)) c.args.overs.now) c.new-list.ensures.items
    ∙ (λ i. mapped_twice stand_value stand_let c.args.stands.now i ++ mapped_twice over_value over_raised c.args.overs.now i))
