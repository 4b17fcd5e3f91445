use Rattle.std.proofs.Common.{ap, sym, ◌∙◌, ◌<◌, ◌≤◌, ◌++◌, length, take_all, arith, append-nil}
use Rattle.std.specs.List.{flat_map}
use Rattle.cg_second.proofs.Closing.{room-first}
use Rattle.cg_explain.specs.SecondRow.{place_asked}
use Rattle.cg_explain.proofs.Placing.{place-added}
use Rattle.cg_explain.proofs.second.push_places.Goals as goal

pub loop-at-init : goal.loop-at-init
loop-at-init g c =
    let s = c.args.survey.now in
    record {
      told = sym (append-nil c.args.row.now.items);
      room =
          room-first (g.H.Hierarchy.state s.tree.now) s.users.now s.paths.items s.ends.items s.kept.items s.fixed.items c.requires.survey
          _ _ c.in_ok-room.ensures.until c.in_ok-room.ensures.levels;
    }

pub loop-at-preserved : goal.loop-at-preserved
loop-at-preserved g c =
    let s = c.args.survey.now in
    let at = c.loop-at.at in
    let within : at < length s.paths.items =
    (let test = c.loop-at-test.true in let len = c.len-at-end.ensures in let ok = s.paths.ok in omega (arith, test, len, ok)) in
    record {
      told =
          place-added (g.H.Hierarchy.state s.tree.now) s.users.now c.args.subtree.now s.paths.items at within c.args.row.now.items
          c.loop-at.row.items c.push_place.new.row.items c.loop-at.invariant.told c.in_ok-push_place.ensures;
      room = c.in_ok-is_full.ensures.room;
    }

pub returns : goal.returns
returns g c =
    let s = c.args.survey.now in
    let asked = place_asked (g.H.Hierarchy.state s.tree.now) s.users.now c.args.subtree.now in
    let all : length s.paths.items ≤ c.loop-at.at =
    (let end = c.loop-at-test.false in let len = c.len-at-end.ensures in let ok = s.paths.ok in omega (arith, end, len, ok)) in
    c.loop-at.invariant.told ∙ ap (λ paths. c.args.row.now.items ++ flat_map asked paths) (take_all c.loop-at.at s.paths.items all)
