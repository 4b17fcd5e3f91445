use Rattle.std.proofs.Common.{get_or, sym, ◌∙◌}
use Rattle.cg_model.specs.Checks.{subtree_faults}
use Rattle.cg_check.proofs.Checking.{no_fault}
use Rattle.cg_check.proofs.Pairs.{none-element}
use Rattle.cg_cli.proofs.everybody.found.Goals as goal

pub said-requires : goal.said-requires
said-requires g c = λ k d within.
    let st = g.H.Hierarchy.state c.args.tree.now in
    no_fault st (get_or c.args.subtrees.now k d)
    (sym (none-element (subtree_faults st) c.args.subtrees.now k d within (sym c.first_fault.ensures.fault ∙ c.in_default.is)))
