use Rattle.std.proofs.Common.{sym, ap, ◌∙◌, subst}
use Rattle.std.proofs.lemmas.Result.{err_from_is_err_and}
use Rattle.cg_model.specs.Clauses.{first}
use Rattle.cg_model.specs.Checks.{subtree_faults}
use Rattle.cg_check.proofs.Pairs.{none-element}
use Rattle.cg_cli.proofs.AllPairs.{Front, goes_on, stops, here_next}
use Rattle.cg_cli.proofs.audit_all.Listing.write_user.Goals as goal

pub write_pair-requires : goal.write_pair-requires
write_pair-requires g c = record {
  there =
      ap (λ path. first (subtree_faults (g.H.Hierarchy.state c.args.self.now.tree.now) path)) c.subtree-item.is
      ∙ none-element (subtree_faults (g.H.Hierarchy.state c.args.self.now.tree.now)) c.args.self.now.subtrees.now
      c.loop-subtree.subtree-index c.subtree-item.result c.loop-subtree-test.true c.requires.there;
}

pub returns-in_err-write_pair : goal.returns-in_err-write_pair
returns-in_err-write_pair g c =
    let p = err_from_is_err_and c.from_residual.result c.from_residual.ensures.1 in
    let st = g.H.Hierarchy.state c.args.self.now.tree.now in
    let far =
    here_next _ st c.args.user.now c.args.self.now.subtrees.now c.loop-subtree.subtree-index c.subtree-item.result _ _ _ _
    c.loop-subtree-test.true c.subtree-item.is c.loop-subtree.invariant in
    rw (p.1, p.2) (stops _ _ _ _ _ _ _ _ far c.in_err-write_pair.field-0.0 c.in_err-write_pair.ensures)

pub loop-subtree-preserved : goal.loop-subtree-preserved
loop-subtree-preserved g c =
    let st = g.H.Hierarchy.state c.args.self.now.tree.now in
    let far =
    here_next _ st c.args.user.now c.args.self.now.subtrees.now c.loop-subtree.subtree-index c.subtree-item.result _ _ _ _
    c.loop-subtree-test.true c.subtree-item.is c.loop-subtree.invariant in
    subst (Front _ _ _ _ _) (sym c.worse-worst.ensures) (goes_on _ _ _ _ _ _ _ _ far c.in_ok-write_pair.field-0 c.in_ok-write_pair.ensures)
