use Rattle.std.proofs.Common.{◌∙◌, ◌++◌, ◌+◌, ap, sym, map, drop, append_assoc, append-nil, arith}
use Rattle.std.specs.List.{flat_map}
use Rattle.cg_guards.proofs.TableWalk.{drop_all}
use Rattle.cg_model.specs.Guards.{guarded_entries}
use Rattle.cg_everybody.specs.Everybody.{everybody_of, entrance_of}
use Rattle.cg_everybody.specs.Entrances.{entrance_at, entrance_spot}
use Rattle.cg_everybody.proofs.Entering.{place-next}
use Rattle.cg_everybody.proofs.walk.enter_others.Goals as goal

pub loop-place-init : goal.loop-place-init
loop-place-init g c =
    let st = g.H.Hierarchy.state c.args.tree.now in
    let asked = everybody_of c.args.asked.now in
    let subtree = c.args.subtree.now in
    ap (λ n. map entrance_spot c.args.found.now.items ++ flat_map (entrance_of st asked subtree) (drop n (guarded_entries subtree)))
    c.depth-depth.ensures.depth

pub loop-place-preserved : goal.loop-place-preserved
loop-place-preserved g c =
    let st = g.H.Hierarchy.state c.args.tree.now in
    let asked = everybody_of c.args.asked.now in
    let subtree = c.args.subtree.now in
    let place = c.loop-place.place in
    let rest = flat_map (entrance_of st asked subtree) (drop (place + 1) (guarded_entries subtree)) in
    ap (λ l. l ++ rest) c.in_ok-enter.ensures
    ∙ append_assoc (map entrance_spot c.loop-place.found.items) (entrance_at st asked subtree place) rest
    ∙ ap (λ l. map entrance_spot c.loop-place.found.items ++ l) (sym (place-next st asked subtree place))
    ∙ c.loop-place.invariant

pub returns : goal.returns
returns g c =
    let st = g.H.Hierarchy.state c.args.tree.now in
    let asked = everybody_of c.args.asked.now in
    let subtree = c.args.subtree.now in
    sym (ap (λ gs. map entrance_spot c.loop-place.found.items ++ flat_map (entrance_of st asked subtree) gs)
    (drop_all (guarded_entries subtree) c.loop-place.place (omega (arith, c.guarded_count-place-end.ensures, c.loop-place-test.false)))
    ∙ append-nil (map entrance_spot c.loop-place.found.items))
    ∙ c.loop-place.invariant
