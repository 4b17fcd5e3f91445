use Rattle.std.proofs.Common.{◌∙◌, ap, map}
use Rattle.cg_advice.specs.Found.{stand_let, over_raised}
use Rattle.cg_json.specs.Advice.{failing_members}
use Rattle.cg_model.specs.Once.{once}
use Rattle.cg_everybody.specs.Advice.{same_spot, let_into}
use Rattle.cg_everybody.specs.Entrances.{entrance_spot}
use Rattle.cg_everybody.specs.Everybody.{everybody_of}
use Rattle.cg_everybody.proofs.objects.advised.changes_members.Goals as goal

pub returns : goal.returns
returns g c =
    let into = let_into (everybody_of c.args.asked.now) in
    let lets =
    ap (map stand_let) c.as_slice-2.ensures.value ∙ c.in_ok-stands.ensures
    ∙ ap (λ found. map into (once same_spot (map entrance_spot found))) c.as_slice.ensures.value
    ∙ ap (λ spots. map into (once same_spot spots)) c.in_ok-found.ensures in
    let raised = ap (map over_raised) c.as_slice-3.ensures.value ∙ c.in_ok-overs.ensures in
    c.in_ok-members.ensures ∙ (λ i. failing_members (lets i) (raised i))
