use Rattle.std.proofs.Common.{◌≡◌, ℕ, List, ◌∙◌, ◌++◌, ◌-◌, ◌+◌, ap, sym, get_or, map, take, take_all, length, arith, append_assoc, append-nil}
use Rattle.cg_model.specs.Guards.{ancestor}
use Rattle.cg_advice.specs.WayLines.{Spot}
use Rattle.cg_everybody.specs.Everybody.{everybody_of, entrance_of}
use Rattle.cg_everybody.specs.Entrances.{entrance_spot}
use Rattle.cg_everybody.proofs.Entering.{backwards, backwards-last, door-at, doors-entered}
use Rattle.cg_everybody.proofs.walk.enter_doors.Goals as goal

pub loop-turn-init : goal.loop-turn-init
loop-turn-init g c =
    let st = g.H.Hierarchy.state c.args.tree.now in
    let asked = everybody_of c.args.asked.now in
    let subtree = c.args.subtree.now in
    let each : ℕ → List Spot = λ len. entrance_of st asked subtree (ancestor len) in
    ap (λ lens. map entrance_spot c.args.found.now.items ++ backwards each lens)
    (take_all (length c.args.above.now - 0) c.args.above.now (omega arith) ∙ c.requires.above)
    ∙ ap (λ l. map entrance_spot c.args.found.now.items ++ l) (doors-entered st asked subtree (length subtree))

pub enter_door-requires-clause-above : goal.enter_door-requires-clause-above
enter_door-requires-clause-above g c =
    door-at (g.H.Hierarchy.state c.args.tree.now) (everybody_of c.args.asked.now) c.args.subtree.now (length c.args.subtree.now)
    c.args.above.now (length c.args.above.now - 1 - c.loop-turn.turn) 0 c.requires.above (omega (arith, c.loop-turn-test.true))

pub loop-turn-preserved : goal.loop-turn-preserved
loop-turn-preserved g c =
    let each : ℕ → List Spot =
    λ len. entrance_of (g.H.Hierarchy.state c.args.tree.now) (everybody_of c.args.asked.now) c.args.subtree.now (ancestor len) in
    let above = c.args.above.now in
    let turn = c.loop-turn.turn in
    let found = map entrance_spot c.loop-turn.found.items in
    let rest = backwards each (take (length above - (turn + 1)) above) in
    ap (λ l. l ++ rest) c.in_ok-enter_door.ensures
    ∙ append_assoc found (each (get_or above (length above - 1 - turn) 0)) rest
    ∙ ap (λ l. found ++ l) (sym (backwards-last each above turn 0 c.loop-turn-test.true))
    ∙ c.loop-turn.invariant

pub returns : goal.returns
returns g c =
    let st = g.H.Hierarchy.state c.args.tree.now in
    let asked = everybody_of c.args.asked.now in
    let subtree = c.args.subtree.now in
    let each : ℕ → List Spot = λ len. entrance_of st asked subtree (ancestor len) in
    let none : length c.args.above.now - c.loop-turn.turn ≡ 0 = omega (arith, c.loop-turn-test.false) in
    sym (ap (λ n. map entrance_spot c.loop-turn.found.items ++ backwards each (take n c.args.above.now)) none
    ∙ append-nil (map entrance_spot c.loop-turn.found.items))
    ∙ c.loop-turn.invariant
