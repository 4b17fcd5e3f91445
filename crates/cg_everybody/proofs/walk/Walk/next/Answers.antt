use Rattle.std.proofs.Common.{ap, sym, ◌∙◌, ◌++◌, map, length, drop, append_assoc}
use Rattle.std.specs.List.{flat_map}
use Rattle.cg_model.specs.Guards.{ancestors, guarded_entries}
use Rattle.cg_everybody.specs.Everybody.{everybody_of, entrance_of}
use Rattle.cg_everybody.specs.Entrances.{entrance_spot}
use Rattle.cg_everybody.proofs.Entering.{all-entered}
use Rattle.cg_everybody.proofs.walk.Walk.next.Goals as goal

pub returns-clause-found : goal.returns-clause-found
returns-clause-found g c =
    let st = g.H.Hierarchy.state c.args.tree.now in
    let asked = everybody_of c.args.asked.now in
    let subtree = c.args.subtree.now in
    let rest = flat_map (entrance_of st asked subtree) (drop (length subtree) (guarded_entries subtree)) in
    c.in_ok-enter_others.ensures ∙ ap (λ l. l ++ rest) c.in_ok-enter_doors.ensures
    ∙ append_assoc (map entrance_spot c.args.found.now.items) (flat_map (entrance_of st asked subtree) (ancestors (length subtree))) rest
    ∙ ap (λ l. map entrance_spot c.args.found.now.items ++ l) (sym (all-entered st asked subtree))
