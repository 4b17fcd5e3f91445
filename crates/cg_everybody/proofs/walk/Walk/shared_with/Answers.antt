use Rattle.std.proofs.Common.{subst, arith}
use Rattle.cg_everybody.specs.Entrances.{AreDoorsAbove}
use Rattle.cg_everybody.proofs.Entering.{none-kept, some-kept, common-short_second}
use Rattle.cg_everybody.proofs.walk.Walk.shared_with.Goals as goal

pub returns-in-None-clause-doors : goal.returns-in-None-clause-doors
returns-in-None-clause-doors c = λ st asked walked.
    none-kept st asked c.args.self.now.doors.items c.args.subtree.now
    (subst (λ last. AreDoorsAbove st asked last c.args.self.now.doors.items) c.in-None.is walked)

pub returns-in-Some-clause-within : goal.returns-in-Some-clause-within
returns-in-Some-clause-within c = omega (arith, c.common_len.ensures, common-short_second c.in-Some.last.now c.args.subtree.now)

pub returns-in-Some-clause-doors : goal.returns-in-Some-clause-doors
returns-in-Some-clause-doors c = λ st asked walked.
    some-kept st asked c.args.self.now.doors.items c.in-Some.last.now c.args.subtree.now c.common_len.result c.common_len.ensures
    (subst (λ last. AreDoorsAbove st asked last c.args.self.now.doors.items) c.in-Some.is walked)
