use Rattle.std.proofs.Common.{inr, ◌∙◌, ap}
use Rattle.cg_help.specs.Modes.{spelled_mode}
use Rattle.commands.proofs.RequestLaws.{unread_by, on_whole, noted_by}
use Rattle.commands.proofs.on_tree.on_tree.Goals as goal

pub returns-in_err-tree-clause-answer : goal.returns-in_err-tree-clause-answer
returns-in_err-tree-clause-answer g c =
    inr (unread_by (g.W.Write.contents c.args.out.now) c.in_err-tree.field-0.0 c.from_residual.result c.from_residual.ensures.1
    c.in_err-tree.ensures.fault)

pub returns-in_err-beside-clause-answer : goal.returns-in_err-beside-clause-answer
returns-in_err-beside-clause-answer g c =
    inr (unread_by (g.W.Write.contents c.args.out.now) c.in_err-beside.field-0.0 c.from_residual-in_err-beside.result
    c.from_residual-in_err-beside.ensures.1 (inr c.in_err-beside.ensures.fault))

pub returns-clause-answer : goal.returns-clause-answer
returns-clause-answer g c =
    let said = rw c.as_slice-2.ensures.value at c.answer.ensures.answer in
    let text = rw c.tree.ensures at c.in_ok-tree.ensures.text in
    on_whole _ c.in_ok-tree.tree.items (λ vocabulary read. g.C.OnTree.answers c.args.asked.now vocabulary read
    (g.W.Write.contents c.args.out.now) (g.W.Write.contents c.answer.new.out) c.answer.result) _ _ _ text said

pub returns-clause-noted : goal.returns-clause-noted
returns-clause-noted g c =
    let first = rw (c.as_slice-2.ensures.value, c.in_ok-beside.ensures.stranger) at c.answer.ensures.stranger in
    let absent = rw (c.as_slice-2.ensures.value, c.in_ok-beside.ensures.missing) at c.answer.ensures.missing in
    let text = rw c.tree.ensures at c.in_ok-tree.ensures.text in
    noted_by _ c.in_ok-tree.tree.items (g.C.OnTree.users c.args.asked.now) (g.C.OnTree.path c.args.asked.now) c.answer.new.beside text
    (c.answer.ensures.mode ∙ c.in_ok-beside.ensures.mode ∙ ap spelled_mode c.as_slice.ensures.value) _ first absent
