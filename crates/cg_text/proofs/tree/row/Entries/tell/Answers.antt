use Rattle.std.proofs.Common.{sym, ap, ◌∙◌}
use Rattle.cg_text.specs.Rows.{told_with}
use Rattle.cg_text.proofs.tree.row.Entries.tell.Goals as goal

pub returns-in-Some : goal.returns-in-Some
returns-in-Some c =
    let same = sym c.in-Some.is ∙ c.in_ok-told.ensures.1 in
    (c.in_ok-told.ensures.0, c.set.ensures ∙ ap (λ told. told_with told c.args.file c.args.files.now) same)
