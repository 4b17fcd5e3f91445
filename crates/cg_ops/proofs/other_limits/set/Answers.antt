use Rattle.std.proofs.Common.{◌≡◌, sym, subst}
use Rattle.std.specs.Prelude.{OnOk}
use Rattle.cg_model.specs.States.{with_text}
use Rattle.cg_ops.proofs.Tellings.{text_told, text_formed}
use Rattle.cg_ops.proofs.other_limits.set.Goals as goal

pub tell-requires : goal.tell-requires
tell-requires g c =
    text_formed (g.H.Hierarchy.state c.args.tree.now) c.args.at.now c.args.file c.in-Some.entry c.in-Some.ensures.entry
    c.in_ok-try_clone.field-0 c.in-Some.ensures.formed

pub returns-clause-ok : goal.returns-clause-ok
returns-clause-ok g c =
    let st = g.H.Hierarchy.state c.args.tree.now in
    subst (λ value. OnOk c.tell.result (g.H.Hierarchy.state c.tell.new.self ≡ with_text st c.args.at.now c.args.file value))
    c.in_ok-try_clone.ensures
    (subst (λ after. OnOk c.tell.result (g.H.Hierarchy.state c.tell.new.self ≡ after))
    (sym (text_told st c.args.at.now c.args.file c.in-Some.entry c.in-Some.ensures.entry c.in_ok-try_clone.field-0))
    c.tell.ensures.ok)
