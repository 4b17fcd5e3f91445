use Rattle.std.proofs.Common.{ap, ◌∙◌, map, arith}
use Rattle.cg_advice.specs.Ways.{pair_of}
use Rattle.cg_advice.proofs.Gathering.{map-append}
use Rattle.cg_cli.proofs.NamedPairs.{paired_more, paired_past}
use Rattle.cg_cli.proofs.pairs.paired.Goals as goal

pub returns-then-place-subtrees : goal.returns-then-place-subtrees
returns-then-place-subtrees c =
    c.loop-place.invariant
    ∙ paired_past c.args.users.now c.args.subtrees.now c.loop-place.place (omega (arith, c.if-place-subtrees.true))

pub loop-place-preserved : goal.loop-place-preserved
loop-place-preserved c =
    paired_more c.args.users.now c.args.subtrees.now c.loop-place.place c.index-users-place.result c.index-subtrees-place.result
    (map pair_of c.loop-place.pairs.items) _ c.loop-place-test.true (omega (arith, c.if-place-subtrees.false))
    c.index-users-place.is c.index-subtrees-place.is c.loop-place.invariant
    (ap (map pair_of) c.in_ok-push.ensures.items ∙ map-append pair_of c.loop-place.pairs.items _)
