use Rattle.std.proofs.Common.{ap, sym, ◌∙◌, ◌≡◌, ◌∷◌, ◌++◌, [], Bool, true, false, cond, get_or, append-nil}
use Rattle.cg_second.specs.Greatest.{greatest}
use Rattle.cg_second.specs.Judged.{grows_none}
use Rattle.cg_second.specs.Exposed.{is_exposed}
use Rattle.cg_second.proofs.Staying.{same_default}
use Rattle.cg_explain.specs.declared.second.Place.{Place}
use Rattle.cg_explain.specs.declared.second.Asked.TheVariants.{Shut}
use Rattle.cg_explain.specs.SecondRow.{place_with}
use Rattle.cg_explain.proofs.second.push_place.Goals as goal

pub returns-then-not-is_exposed : goal.returns-then-not-is_exposed
returns-then-not-is_exposed g c =
    let s = c.args.survey.now in
    let st = g.H.Hierarchy.state s.tree.now in
    let users = s.users.now in
    let q = get_or s.paths.items c.args.at [] in
    let row = c.args.row.now.items in
    let told : Place = place_with st users q (grows_none st users (greatest st users) q) in
    let named : q ≡ c.index.result.now =
    same_default s.paths.items c.args.at [] c.index.result.now c.requires.within ∙ sym c.index.ensures in
    let apart : is_exposed st users c.args.subtree.now q ≡ false =
    ap (is_exposed st users c.args.subtree.now) named ∙ sym c.is_exposed.ensures ∙ c.if-not-is_exposed.true in
    sym (ap (λ (b : Bool). row ++ cond b (Shut told ∷ []) []) apart ∙ append-nil row)

pub returns : goal.returns
returns g c =
    let s = c.args.survey.now in
    let st = g.H.Hierarchy.state s.tree.now in
    let users = s.users.now in
    let q = get_or s.paths.items c.args.at [] in
    let row = c.args.row.now.items in
    let told : Place = place_with st users q (grows_none st users (greatest st users) q) in
    let named : q ≡ c.index.result.now =
    same_default s.paths.items c.args.at [] c.index.result.now c.requires.within ∙ sym c.index.ensures in
    let exposed : is_exposed st users c.args.subtree.now q ≡ true =
    ap (is_exposed st users c.args.subtree.now) named ∙ sym c.is_exposed.ensures ∙ c.if-not-is_exposed.false in
    c.in_ok-push.ensures.items
    ∙ ap (λ (place : Place). row ++ Shut place ∷ []) c.in_ok-place.ensures
    ∙ sym (ap (λ (b : Bool). row ++ cond b (Shut told ∷ []) []) exposed)
