use Rattle.std.proofs.Common.{◌∙◌, ap}
use Rattle.std.specs.List.{list_any}
use Rattle.cg_cli.specs.Known.{speaks_of}
use Rattle.cg_cli.specs.Strangers.{entries_of, told_entries}
use Rattle.cg_cli.proofs.StrangerLaws.{in_all, by_first, by_second}
use Rattle.cg_cli.proofs.strangers.any_entry_speaks.Goals as goal

pub returns-then-any_cgroup_speaks : goal.returns-then-any_cgroup_speaks
returns-then-any_cgroup_speaks c =
    by_first _ _ _ c.any_cgroup_speaks.result (in_all c.args.tree.now c.args.user.now)
    (c.any_cgroup_speaks.ensures ∙ ap (list_any (λ row. list_any (speaks_of c.args.user.now) (entries_of row.1))) c.entries.ensures)
    c.if-any_cgroup_speaks.true

pub returns-else-any_cgroup_speaks : goal.returns-else-any_cgroup_speaks
returns-else-any_cgroup_speaks c =
    by_second _ _ _ c.any_cgroup_speaks.result c.any_told_speaks.result (in_all c.args.tree.now c.args.user.now)
    (c.any_cgroup_speaks.ensures ∙ ap (list_any (λ row. list_any (speaks_of c.args.user.now) (entries_of row.1))) c.entries.ensures)
    c.if-any_cgroup_speaks.false
    (c.any_told_speaks.ensures
    ∙ ap (list_any (λ row. list_any (speaks_of c.args.user.now) (told_entries row.1))) c.told_entries.ensures)
