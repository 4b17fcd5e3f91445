use Rattle.std.proofs.Common.{◌∙◌, ◌++◌, ◌+◌, ap, sym, drop, None, Some, append_assoc, append-nil, arith}
use Rattle.std.specs.List.{flat_map}
use Rattle.cg_guards.proofs.TableWalk.{walk_turn, drop_all}
use Rattle.cg_model.specs.Guards.{guarded_entries}
use Rattle.cg_everybody.specs.Everybody.{everybody_of}
use Rattle.cg_everybody.specs.Explained.{entry_explained, guarded_explained}
use Rattle.cg_everybody.proofs.explained.push_guarded.Goals as goal

pub loop-place-preserved-in_default : goal.loop-place-preserved-in_default
loop-place-preserved-in_default g c =
    let st = g.H.Hierarchy.state c.args.tree.now in
    let asked = everybody_of c.args.asked.now in
    let subtree = c.args.subtree.now in
    ap (λ rest. c.loop-place.text.items ++ rest)
    (sym (walk_turn st subtree (entry_explained st asked subtree) (guarded_entries subtree) c.loop-place.place None
    c.in_default.ensures.entry))
    ∙ c.loop-place.invariant

pub loop-place-preserved : goal.loop-place-preserved
loop-place-preserved g c =
    let st = g.H.Hierarchy.state c.args.tree.now in
    let asked = everybody_of c.args.asked.now in
    let subtree = c.args.subtree.now in
    let rest = flat_map (guarded_explained st asked subtree) (drop (c.loop-place.place + 1) (guarded_entries subtree)) in
    ap (λ text. text ++ rest) c.in_ok-push_explained.ensures
    ∙ append_assoc c.loop-place.text.items (entry_explained st asked subtree c.in-Some.at) rest
    ∙ ap (λ l. c.loop-place.text.items ++ l)
    (sym (walk_turn st subtree (entry_explained st asked subtree) (guarded_entries subtree) c.loop-place.place (Some c.in-Some.at)
    c.in-Some.ensures.entry))
    ∙ c.loop-place.invariant

pub returns : goal.returns
returns g c =
    let st = g.H.Hierarchy.state c.args.tree.now in
    let asked = everybody_of c.args.asked.now in
    let subtree = c.args.subtree.now in
    sym (ap (λ gs. c.loop-place.text.items ++ flat_map (guarded_explained st asked subtree) gs)
    (drop_all (guarded_entries subtree) c.loop-place.place (omega (arith, c.guarded_count-place-end.ensures, c.loop-place-test.false)))
    ∙ append-nil c.loop-place.text.items)
    ∙ c.loop-place.invariant
