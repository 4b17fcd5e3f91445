use Rattle.std.proofs.Common.{Some, sym, ap, ◌∙◌, not}
use Rattle.cg_guards.specs.GuardedUsers.{is_spared}
use Rattle.cg_guards.proofs.KeptOff.{one_passes, one_stops, none_stops}
use Rattle.cg_guards.proofs.users.off_entry.Goals as goal

pub returns-then-reaches : goal.returns-then-reaches
returns-then-reaches c =
    one_stops (is_spared (Some c.args.entry.now)) c.args.users.now c.loop-place.place c.index-users-place.result c.loop-place-test.true
    c.index-users-place.is c.loop-place.invariant
    (ap not (sym c.reaches.ensures ∙ c.if-reaches.true))

pub loop-place-preserved : goal.loop-place-preserved
loop-place-preserved c =
    one_passes (is_spared (Some c.args.entry.now)) c.args.users.now c.loop-place.place c.index-users-place.result c.loop-place-test.true
    c.index-users-place.is c.loop-place.invariant
    (ap not (sym c.reaches.ensures ∙ c.if-reaches.false))

pub returns : goal.returns
returns c =
    none_stops (is_spared (Some c.args.entry.now)) c.args.users.now c.loop-place.place c.loop-place.invariant c.loop-place-test.false
