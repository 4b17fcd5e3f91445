use Rattle.std.proofs.Common.{◌∷◌, [], ◌++◌, ◌∙◌}
use Rattle.cg_cli.proofs.Auditing.{other_more, other_passed}
use Rattle.cg_cli.proofs.answers.audited.others.Goals as goal

pub loop-place-preserved-then-contains : goal.loop-place-preserved-then-contains
loop-place-preserved-then-contains c =
    other_passed c.args.found.now c.args.users.now c.loop-place.place-counter c.index-users-place.result c.loop-place-test.true
    c.index-users-place.is
    c.requires c.loop-place.others.items c.contains.result c.loop-place.invariant
    (c.contains.ensures ∙ c.in_ok-listed.ensures c.loop-place.place-counter) c.if-contains.true

pub loop-place-preserved : goal.loop-place-preserved
loop-place-preserved c =
    other_more c.args.found.now c.args.users.now c.loop-place.place-counter c.index-users-place.result c.loop-place-test.true
    c.index-users-place.is
    c.requires c.loop-place.others.items c.push.new.self.items c.contains.result c.loop-place.invariant
    (c.contains.ensures ∙ c.in_ok-listed.ensures c.loop-place.place-counter) c.if-contains.false
    (c.in_ok-push.ensures.items ∙ (λ i. c.loop-place.others.items ++ c.copied.ensures i ∷ []))
