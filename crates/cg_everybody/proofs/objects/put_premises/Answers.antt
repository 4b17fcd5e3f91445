use Rattle.std.proofs.Common.{◌∙◌, ap, codes}
use Rattle.serde_json.specs.Data.{array, put}
use Rattle.serde_json.specs.View.{items_of, members_view}
use Rattle.cg_json.proofs.Pushed.{mapped_twice}
use Rattle.cg_everybody.specs.Everybody.{members_of}
use Rattle.cg_everybody.specs.Objects.{group_value}
use Rattle.cg_everybody.proofs.objects.put_premises.Goals as goal

pub returns : goal.returns
returns c =
    let groups =
    c.from.ensures
    ∙ ap (λ values. array (items_of values)) (c.in_ok-groups.ensures ∙ mapped_twice group_value members_of c.args.asked.now.groups.now) in
    let before =
    c.in_ok-put.ensures.ok ∙ ap (λ but. put (codes "but") but (members_view c.args.members.now.entries)) c.in_ok-but.ensures in
    c.in_ok-put-2.ensures.ok ∙ (λ i. put (codes "groups") (groups i) (before i))
