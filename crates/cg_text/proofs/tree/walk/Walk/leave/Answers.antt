use Rattle.std.proofs.Common.{refl, ap, sym, ◌∙◌, is_some, true≢false, arith, eqb-true}
use Rattle.std.specs.Vec.{vec_len}
use Rattle.std.proofs.lemmas.List.{nil_from_length}
use Rattle.cg_text.specs.Walk.{is_front, last_of}
use Rattle.cg_text.proofs.WalkFronts.{paths_in, fronts_first, fronts_more, leaves}
use Rattle.cg_text.proofs.tree.walk.Walk.leave.Goals as goal

pub loop-self-init : goal.loop-self-init
loop-self-init c = record {
  entries = refl;
  told = refl;
  least = refl;
  left = λ controllers met has. fronts_first controllers met c.args.self.now c.args.path.now has;
}

pub loop-self-preserved : goal.loop-self-preserved
loop-self-preserved c =
    let path = c.args.path.now in
    let stays = c.loop-self.self.above.items in
    let kept = c.loop-self.invariant in
    let other = ap (λ v. is_front stays (paths_in v.items) path) (sym kept.entries) ∙ sym c.is_below.ensures ∙ c.if-not-is_below.true in
    record {
      entries = kept.entries;
      told = kept.told;
      least = kept.least;
      left = λ controllers met has.
          fronts_more controllers met path c.args.self.now has stays (kept.left controllers met has) c.pop.new.self.items c.pop.result other
          c.pop.ensures.items;
    }

pub returns-else-not-is_below-clause-left : goal.returns-else-not-is_below-clause-left
returns-else-not-is_below-clause-left c controllers met row has order is =
    let path = c.args.path.now in
    let stays = c.loop-self.self.above.items in
    let kept = c.loop-self.invariant in
    let front = ap (λ v. is_front stays (paths_in v.items) path) (sym kept.entries) ∙ sym c.is_below.ensures ∙ c.if-not-is_below.false in
    leaves controllers met path c.args.self.now has stays (kept.left controllers met has) row order is (λ top _. front)

pub returns-after-loop-self-clause-left : goal.returns-after-loop-self-clause-left
returns-after-loop-self-clause-left c controllers met row has order is =
    let stays = c.loop-self.self.above.items in
    let empty = eqb-true (vec_len c.loop-self.self.above) 0 (sym c.is_empty.ensures ∙ c.loop-self-test.false) in
    let none = nil_from_length stays (omega arith) in
    leaves controllers met c.args.path.now c.args.self.now has stays (c.loop-self.invariant.left controllers met has) row order is
    (λ top some. absurd (true≢false (ap is_some (sym some ∙ ap last_of none))))
