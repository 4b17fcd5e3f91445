use Rattle.std.proofs.Common.{◌∙◌, not, ap, nat_eq}
use Rattle.std.specs.FinMap as finmap
use Rattle.std.specs.List.{list_any}
use Rattle.cg_cli.proofs.StrangerLaws.{in_tree, by_first, by_second}
use Rattle.cg_cli.proofs.strangers.is_known.Goals as goal

pub returns-then-any_entry_speaks : goal.returns-then-any_entry_speaks
returns-then-any_entry_speaks c =
    ap not (by_first _ _ _ c.any_entry_speaks.result (in_tree c.args.tree.now c.args.user.now) c.any_entry_speaks.ensures
    c.if-any_entry_speaks.true)

pub returns-else-any_entry_speaks : goal.returns-else-any_entry_speaks
returns-else-any_entry_speaks c =
    ap not (by_second _ _ _ c.any_entry_speaks.result c.any_process_of.result (in_tree c.args.tree.now c.args.user.now)
    c.any_entry_speaks.ensures c.if-any_entry_speaks.false
    (c.any_process_of.ensures
    ∙ (λ i. list_any (λ row. nat_eq row.1.uid (c.uid.ensures.uid i)) (finmap.entries (c.processes.ensures.live i)))))
