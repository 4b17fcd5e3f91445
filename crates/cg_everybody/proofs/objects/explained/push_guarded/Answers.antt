use Rattle.std.proofs.Common.{◌∙◌, ◌++◌, ◌+◌, ap, sym, drop, map, None, Some, append_assoc, append-nil, arith}
use Rattle.std.specs.List.{flat_map}
use Rattle.cg_guards.proofs.TableWalk.{walk_turn, drop_all}
use Rattle.cg_model.specs.Guards.{guarded_entries}
use Rattle.serde_json.specs.View.{view}
use Rattle.cg_everybody.specs.Everybody.{everybody_of}
use Rattle.cg_everybody.specs.Objects.{entry_values, guarded_values}
use Rattle.cg_everybody.proofs.objects.explained.push_guarded.Goals as goal

pub loop-place-preserved-in_default : goal.loop-place-preserved-in_default
loop-place-preserved-in_default g c =
    let st = g.H.Hierarchy.state c.args.tree.now in
    let asked = everybody_of c.args.asked.now in
    let subtree = c.args.subtree.now in
    ap (λ rest. map view c.loop-place.list.items ++ rest)
    (sym (walk_turn st subtree (entry_values st asked subtree) (guarded_entries subtree) c.loop-place.place None
    c.in_default.ensures.entry))
    ∙ c.loop-place.invariant

pub loop-place-preserved : goal.loop-place-preserved
loop-place-preserved g c =
    let st = g.H.Hierarchy.state c.args.tree.now in
    let asked = everybody_of c.args.asked.now in
    let subtree = c.args.subtree.now in
    let rest = flat_map (guarded_values st asked subtree) (drop (c.loop-place.place + 1) (guarded_entries subtree)) in
    ap (λ values. values ++ rest) c.in_ok-push_explained.ensures
    ∙ append_assoc (map view c.loop-place.list.items) (entry_values st asked subtree c.in-Some.at) rest
    ∙ ap (λ l. map view c.loop-place.list.items ++ l)
    (sym (walk_turn st subtree (entry_values st asked subtree) (guarded_entries subtree) c.loop-place.place (Some c.in-Some.at)
    c.in-Some.ensures.entry))
    ∙ c.loop-place.invariant

pub returns : goal.returns
returns g c =
    let st = g.H.Hierarchy.state c.args.tree.now in
    let asked = everybody_of c.args.asked.now in
    let subtree = c.args.subtree.now in
    sym (ap (λ gs. map view c.loop-place.list.items ++ flat_map (guarded_values st asked subtree) gs)
    (drop_all (guarded_entries subtree) c.loop-place.place (omega (arith, c.guarded_count-place-end.ensures, c.loop-place-test.false)))
    ∙ append-nil (map view c.loop-place.list.items))
    ∙ c.loop-place.invariant
