use Rattle.std.proofs.Common.{take}
use Rattle.cg_guards.specs.Reach.{AreIdentitiesOf}
use Rattle.cg_guards.proofs.identities.Identities.of.Given as goal

abbrev pub invariant-loop-user : goal.invariant-loop-user
invariant-loop-user l = AreIdentitiesOf l.identities (take l.user-index l.users)
