use Rattle.std.proofs.Common.{◌∙◌, ap, inl, inr}
use Rattle.cg_help.specs.Modes.{spelled_mode}
use Rattle.commands.proofs.RequestLaws.{unread_by, plain_on}
use Rattle.commands.proofs.both.replay.Goals as goal

pub returns-in_err-tree-in-Files-clause-answer : goal.returns-in_err-tree-in-Files-clause-answer
returns-in_err-tree-in-Files-clause-answer g c =
    inr (unread_by (g.W.Write.contents c.args.out.now) c.in_err-tree-in-Files.field-0.0 c.from_residual.result
    c.from_residual.ensures.1 c.in_err-tree-in-Files.ensures.fault)

pub returns-in_err-tree-in-TreeGiven-clause-answer : goal.returns-in_err-tree-in-TreeGiven-clause-answer
returns-in_err-tree-in-TreeGiven-clause-answer g c =
    inr (unread_by (g.W.Write.contents c.args.out.now) c.in_err-tree-in-TreeGiven.field-0.0
    c.from_residual-in_err-tree-in-TreeGiven.result c.from_residual-in_err-tree-in-TreeGiven.ensures.1
    c.in_err-tree-in-TreeGiven.ensures.fault)

pub returns-in_err-tree-in-OtherGiven-clause-answer : goal.returns-in_err-tree-in-OtherGiven-clause-answer
returns-in_err-tree-in-OtherGiven-clause-answer g c =
    inr (unread_by (g.W.Write.contents c.args.out.now) c.in_err-tree-in-OtherGiven.field-0.0
    c.from_residual-in_err-tree-in-OtherGiven.result c.from_residual-in_err-tree-in-OtherGiven.ensures.1
    c.in_err-tree-in-OtherGiven.ensures.fault)

pub returns-in_ok-noted-in-Files-clause-answer : goal.returns-in_ok-noted-in-Files-clause-answer
returns-in_ok-noted-in-Files-clause-answer g c =
    let said = rw c.as_slice-in-Files.ensures.value at c.replay_file.ensures in
    rw c.in-Files.is (inl (c.in_ok-tree-in-Files.tree.items, c.in_ok-tree-in-Files.ensures.text, said))

pub returns-in_ok-noted-in-TreeGiven-clause-answer : goal.returns-in_ok-noted-in-TreeGiven-clause-answer
returns-in_ok-noted-in-TreeGiven-clause-answer g c =
    let said = rw c.as_slice-in-TreeGiven-2.ensures.value at c.replay_file-in-TreeGiven.ensures in
    rw c.in-TreeGiven.is (inl (c.in_ok-tree-in-TreeGiven.tree.items, c.in_ok-tree-in-TreeGiven.ensures.text, said))

pub returns-in_ok-noted-in-OtherGiven-clause-answer : goal.returns-in_ok-noted-in-OtherGiven-clause-answer
returns-in_ok-noted-in-OtherGiven-clause-answer g c =
    let said = rw c.as_slice-in-OtherGiven-2.ensures.value at c.replayed.ensures in
    rw c.in-OtherGiven.is (inl (c.in_ok-tree-in-OtherGiven.tree.items, c.in_ok-tree-in-OtherGiven.ensures.text, said))

pub returns-in_ok-noted-in-Files-clause-noted : goal.returns-in_ok-noted-in-Files-clause-noted
returns-in_ok-noted-in-Files-clause-noted g c =
    rw c.in-Files.is
    (plain_on _ c.in_ok-tree-in-Files.tree.items _ c.in_ok-tree-in-Files.ensures.text
    (c.in_ok-noted-in-Files.ensures.mode ∙ ap spelled_mode c.as_slice.ensures.value) c.in_ok-noted-in-Files.ensures.stranger
    c.in_ok-noted-in-Files.ensures.missing _)

pub returns-in_ok-noted-in-TreeGiven-clause-noted : goal.returns-in_ok-noted-in-TreeGiven-clause-noted
returns-in_ok-noted-in-TreeGiven-clause-noted g c =
    rw c.in-TreeGiven.is
    (plain_on _ c.in_ok-tree-in-TreeGiven.tree.items _ c.in_ok-tree-in-TreeGiven.ensures.text
    (c.in_ok-noted-in-TreeGiven.ensures.mode ∙ ap spelled_mode c.as_slice-in-TreeGiven.ensures.value)
    c.in_ok-noted-in-TreeGiven.ensures.stranger c.in_ok-noted-in-TreeGiven.ensures.missing _)

pub returns-in_ok-noted-in-OtherGiven-clause-noted : goal.returns-in_ok-noted-in-OtherGiven-clause-noted
returns-in_ok-noted-in-OtherGiven-clause-noted g c =
    rw c.in-OtherGiven.is
    (plain_on _ c.in_ok-tree-in-OtherGiven.tree.items _ c.in_ok-tree-in-OtherGiven.ensures.text
    (c.in_ok-noted-in-OtherGiven.ensures.mode ∙ ap spelled_mode c.as_slice-in-OtherGiven.ensures.value)
    c.in_ok-noted-in-OtherGiven.ensures.stranger c.in_ok-noted-in-OtherGiven.ensures.missing _)

pub returns-in_err-noted-in-Files-clause-answer : goal.returns-in_err-noted-in-Files-clause-answer
returns-in_err-noted-in-Files-clause-answer g c =
    inr (unread_by (g.W.Write.contents c.args.out.now) c.in_err-noted-in-Files.field-0.0
    c.from_residual-in_err-noted-in-Files.result c.from_residual-in_err-noted-in-Files.ensures.1
    (inr c.in_err-noted-in-Files.ensures.fault))

pub returns-in_err-noted-in-TreeGiven-clause-answer : goal.returns-in_err-noted-in-TreeGiven-clause-answer
returns-in_err-noted-in-TreeGiven-clause-answer g c =
    inr (unread_by (g.W.Write.contents c.args.out.now) c.in_err-noted-in-TreeGiven.field-0.0
    c.from_residual-in_err-noted-in-TreeGiven.result c.from_residual-in_err-noted-in-TreeGiven.ensures.1
    (inr c.in_err-noted-in-TreeGiven.ensures.fault))

pub returns-in_err-noted-in-OtherGiven-clause-answer : goal.returns-in_err-noted-in-OtherGiven-clause-answer
returns-in_err-noted-in-OtherGiven-clause-answer g c =
    inr (unread_by (g.W.Write.contents c.args.out.now) c.in_err-noted-in-OtherGiven.field-0.0
    c.from_residual-in_err-noted-in-OtherGiven.result c.from_residual-in_err-noted-in-OtherGiven.ensures.1
    (inr c.in_err-noted-in-OtherGiven.ensures.fault))
