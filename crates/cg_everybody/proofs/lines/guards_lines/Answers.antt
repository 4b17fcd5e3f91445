use Rattle.std.proofs.Common.{◌∙◌, ◌++◌, ap, map}
use Rattle.std.specs.List.{flat_map}
use Rattle.cg_everybody.specs.Everybody.{everybody_of, entrances}
use Rattle.cg_everybody.specs.Entrances.{class_lines, entrance_spot}
use Rattle.cg_everybody.proofs.Entering.{entrances-lines}
use Rattle.cg_everybody.proofs.lines.guards_lines.Goals as goal

pub returns-clause-lines : goal.returns-clause-lines
returns-clause-lines g c =
    let st = g.H.Hierarchy.state c.args.tree.now in
    let asked = everybody_of c.args.asked.now in
    let subtree = c.args.subtree.now in
    c.in_ok-text.ensures
    ∙ ap (λ l. flat_map (class_lines asked) (map entrance_spot l)) c.as_slice.ensures.value
    ∙ ap (flat_map (class_lines asked))
    (c.in_ok-next.ensures.found ∙ ap (λ l. map entrance_spot l ++ entrances st asked subtree) c.new-found.ensures.items)
    ∙ entrances-lines st asked subtree
