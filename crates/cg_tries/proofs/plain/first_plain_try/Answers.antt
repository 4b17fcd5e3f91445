use Rattle.std.proofs.Common.{◌≡◌, List, Option, subst, sym, ap, ◌∙◌}
use Rattle.std.specs.Option.{option_or}
use Rattle.std.specs.Result.{IfOk}
use Rattle.cg_model.specs.declared.operation.Op.{Op}
use Rattle.cg_tries.specs.Finding.{first_passage}
use Rattle.cg_tries.proofs.PlainTries.{plain-is, no_passage}
use Rattle.cg_tries.proofs.plain.first_plain_try.Goals as goal

pub returns-in-Some-2 : goal.returns-in-Some-2
returns-in-Some-2 g c =
    let st = g.H.Hierarchy.state c.args.tree.now in
    let user = c.args.user.now in
    let subtree = c.args.subtree.now in
    ap (λ o. option_or o (first_passage st user subtree)) (sym c.in-Some-2.is ∙ c.in_ok-found.ensures)
    ∙ sym (plain-is st user subtree c.requires.unbroken c.get.ensures.formed c.requires.subtree)

pub returns-then-not-passes_above : goal.returns-then-not-passes_above
returns-then-not-passes_above g c =
    let st = g.H.Hierarchy.state c.args.tree.now in
    let user = c.args.user.now in
    let subtree = c.args.subtree.now in
    sym (plain-is st user subtree c.requires.unbroken c.get.ensures.formed c.requires.subtree
    ∙ ap (λ o. option_or o (first_passage st user subtree)) (sym c.in_ok-found.ensures ∙ c.in_default-2.is)
    ∙ no_passage st user subtree (c.passes_above.ensures.none c.if-not-passes_above.true))

pub returns : goal.returns
returns g c =
    let st = g.H.Hierarchy.state c.args.tree.now in
    let user = c.args.user.now in
    let subtree = c.args.subtree.now in
    subst (λ (first : Option (List Op)). IfOk c.first_passage.result (λ found. found ≡ first))
    (sym (plain-is st user subtree c.requires.unbroken c.get.ensures.formed c.requires.subtree
    ∙ ap (λ o. option_or o (first_passage st user subtree)) (sym c.in_ok-found.ensures ∙ c.in_default-2.is)))
    c.first_passage.ensures
