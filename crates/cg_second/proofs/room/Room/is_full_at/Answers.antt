use Rattle.std.proofs.Common.{◌||◌, sym, ap, ◌∙◌, arith, lt-ltb, le-ltb}
use Rattle.std.specs.Prelude.{nat_le}
use Rattle.std.proofs.lemmas.Bool.{or_left}
use Rattle.cg_second.proofs.Closing.{full-told, room-next}
use Rattle.cg_second.proofs.room.Room.is_full_at.Goals as goal

pub returns-then-at-self-clause-full : goal.returns-then-at-self-clause-full
returns-then-at-self-clause-full g c =
    let s = c.args.survey.now in
    let r = c.args.self.now in
    let path = c.index-path.result.now in
    let depth = c.depth-depth.result in
    let level = c.min-level.result in
    let is = lt-ltb c.args.at c.max-self.result c.if-at-self.true in
    is ∙ sym (or_left _ (nat_le level depth) is)
    ∙ full-told (g.H.Hierarchy.state s.tree.now) s.users.now s.paths.items s.ends.items s.kept.items s.fixed.items c.requires.survey
    c.args.at c.requires.within r.crowded_until c.crowded_end.result c.max-self.result c.requires.room.crowded c.crowded_end.ensures
    c.max-self.ensures r.levels.items c.requires.room path depth c.index.result.now c.own_level.result level
    c.index-path.ensures c.depth-depth.ensures.depth c.index.ensures c.own_level.ensures c.min-level.ensures
    (let ok = r.levels.ok in omega (arith, ok))

pub returns-then-at-self-clause-room : goal.returns-then-at-self-clause-room
returns-then-at-self-clause-room g c =
    let s = c.args.survey.now in
    let r = c.args.self.now in
    let path = c.index-path.result.now in
    let depth = c.depth-depth.result in
    room-next (g.H.Hierarchy.state s.tree.now) s.users.now s.paths.items s.ends.items s.kept.items s.fixed.items c.requires.survey
    c.args.at c.requires.within r.crowded_until c.crowded_end.result c.max-self.result c.requires.room.crowded c.crowded_end.ensures
    c.max-self.ensures r.levels.items c.requires.room path depth c.index.result.now c.own_level.result c.min-level.result
    c.index-path.ensures c.depth-depth.ensures.depth c.index.ensures c.own_level.ensures c.min-level.ensures
    c.truncate.new.self.items c.push.new.self.items c.truncate.ensures.items c.in_ok-push.ensures.items

pub returns-else-at-self-clause-full : goal.returns-else-at-self-clause-full
returns-else-at-self-clause-full g c =
    let s = c.args.survey.now in
    let r = c.args.self.now in
    let path = c.index-path.result.now in
    let depth = c.depth-depth.result in
    let level = c.min-level.result in
    ap (λ b. b || nat_le level depth) (sym (le-ltb c.args.at c.max-self.result c.if-at-self.false))
    ∙ full-told (g.H.Hierarchy.state s.tree.now) s.users.now s.paths.items s.ends.items s.kept.items s.fixed.items c.requires.survey
    c.args.at c.requires.within r.crowded_until c.crowded_end.result c.max-self.result c.requires.room.crowded c.crowded_end.ensures
    c.max-self.ensures r.levels.items c.requires.room path depth c.index.result.now c.own_level.result level
    c.index-path.ensures c.depth-depth.ensures.depth c.index.ensures c.own_level.ensures c.min-level.ensures
    (let ok = r.levels.ok in omega (arith, ok))

pub returns-else-at-self-clause-room : goal.returns-else-at-self-clause-room
returns-else-at-self-clause-room g c =
    let s = c.args.survey.now in
    let r = c.args.self.now in
    let path = c.index-path.result.now in
    let depth = c.depth-depth.result in
    room-next (g.H.Hierarchy.state s.tree.now) s.users.now s.paths.items s.ends.items s.kept.items s.fixed.items c.requires.survey
    c.args.at c.requires.within r.crowded_until c.crowded_end.result c.max-self.result c.requires.room.crowded c.crowded_end.ensures
    c.max-self.ensures r.levels.items c.requires.room path depth c.index.result.now c.own_level.result c.min-level.result
    c.index-path.ensures c.depth-depth.ensures.depth c.index.ensures c.own_level.ensures c.min-level.ensures
    c.truncate.new.self.items c.push.new.self.items c.truncate.ensures.items c.in_ok-push.ensures.items
