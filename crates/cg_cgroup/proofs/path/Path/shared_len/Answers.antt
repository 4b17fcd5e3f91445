use Rattle.std.proofs.Common.{take, arith}
use Rattle.std.proofs.lemmas.List.{length-take-le}
use Rattle.cg_cgroup.proofs.PathSteps.{shared_front, shared_low, shared_high, shared_within}
use Rattle.cg_cgroup.proofs.path.Path.shared_len.Goals as goal

pub returns-then-shares : goal.returns-then-shares
returns-then-shares c =
    let p = take c.args.own c.args.self.now in
    let q = c.args.other.now in
    let n = length-take-le c.args.own c.args.self.now c.requires.own in
    let same = shared_front c.args.self.now q c.args.own c.min-high.result (omega arith) _ c.shares.ensures in
    let low = shared_low p q c.args.len c.min-high.result (omega arith) (omega arith) c.requires.others _ same c.if-shares.true in
    omega (arith, low, shared_within p q c.args.len c.requires.others, n)

pub loop-low-init : goal.loop-low-init
loop-low-init c =
    omega (
      arith,
      shared_within (take c.args.own c.args.self.now) c.args.other.now c.args.len c.requires.others,
      length-take-le c.args.own c.args.self.now c.requires.own,
    )

pub loop-low-preserved-then-shares-2 : goal.loop-low-preserved-then-shares-2
loop-low-preserved-then-shares-2 c =
    let kept = c.loop-low.invariant in
    let n = length-take-le c.args.own c.args.self.now c.requires.own in
    let same = shared_front c.args.self.now c.args.other.now c.args.own _ (omega arith) _ c.shares-in-loop-low.ensures in
    let low =
    shared_low (take c.args.own c.args.self.now) c.args.other.now c.args.len _ (omega arith) (omega arith) c.requires.others _ same
    c.if-shares-2.true in
    (kept.0, (low, kept.1.1))

pub loop-low-preserved : goal.loop-low-preserved
loop-low-preserved c =
    let kept = c.loop-low.invariant in
    let same = shared_front c.args.self.now c.args.other.now c.args.own _ (omega arith) _ c.shares-in-loop-low.ensures in
    let high = shared_high (take c.args.own c.args.self.now) c.args.other.now c.args.len _ (omega arith) _ same c.if-shares-2.false in
    omega arith
