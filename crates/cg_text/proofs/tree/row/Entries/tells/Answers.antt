use Rattle.std.proofs.Common.{sym, ap, ◌∙◌}
use Rattle.std.specs.List.{list_any}
use Rattle.cg_cgroup.specs.Files.{known_others}
use Rattle.cg_format.specs.Form.{vocabulary}
use Rattle.cg_text.specs.Rows.{names_other}
use Rattle.cg_text.proofs.FurtherLaws.{names_none}
use Rattle.cg_text.proofs.tree.row.Entries.tells.Goals as goal

pub returns-else-has_beyond : goal.returns-else-has_beyond
returns-else-has_beyond c =
    c.if-has_beyond.false
    ∙ sym (ap (λ format. list_any (names_other c.args.self) (known_others (vocabulary format))) c.in-Four.is
    ∙ names_none c.args.self (sym c.has_beyond.ensures ∙ c.if-has_beyond.false))
