use Rattle.std.proofs.Common.{refl, ap, ◌∙◌, drop, option_copied}
use Rattle.cg_model.specs.Guards.{is_guarded}
use Rattle.cg_guards.proofs.KeptOff.{none_spared}
use Rattle.cg_guards.proofs.OutOfReach.{front_covered}
use Rattle.cg_check.proofs.ListedLaws.{guarded_turn, guarded_end, guarded_count, guarded_within}
use Rattle.cg_check.proofs.Pairs.{subtree_at}
use Rattle.cg_check.proofs.from_first_unguarded.Goals as goal

pub loop-subtree-init : goal.loop-subtree-init
loop-subtree-init g c = record { left = refl; covered = c.requires.covered; asked = none_spared c.args.users.now }

pub guarded_users-left-requires-clause-subtree : goal.guarded_users-left-requires-clause-subtree
guarded_users-left-requires-clause-subtree g c =
    subtree_at (g.H.Hierarchy.state c.args.tree.now) c.args.subtrees.now c.loop-subtree.subtree-index c.subtree-item.result
    c.loop-subtree-test.true c.subtree-item.is c.requires.there

pub loop-subtree-preserved : goal.loop-subtree-preserved
loop-subtree-preserved g c = record {
  left =
      guarded_turn (g.H.Hierarchy.state c.args.tree.now) c.args.subtrees.now c.loop-subtree.subtree-index c.subtree-item.result
      c.loop-subtree.left.now c.guarded_users-left.result.now
      c.loop-subtree-test.true c.subtree-item.is c.guarded_users-left.ensures.users
      ∙ c.loop-subtree.invariant.left;
  covered =
      front_covered (option_copied c.args.identities) (is_guarded (g.H.Hierarchy.state c.args.tree.now) c.subtree-item.result)
      c.loop-subtree.left.now c.guarded_users-left.result.now c.guarded_users-left.ensures.users
      c.loop-subtree.invariant.covered;
  asked = c.guarded_users-left.ensures.asked;
}

pub split_at-requires : goal.split_at-requires
split_at-requires g c =
    guarded_within (g.H.Hierarchy.state c.args.tree.now) c.args.subtrees.now c.args.users.now c.loop-subtree.left.now
    (guarded_end (g.H.Hierarchy.state c.args.tree.now) c.args.subtrees.now c.loop-subtree.subtree-index c.loop-subtree.left.now
    c.loop-subtree-test.false ∙ c.loop-subtree.invariant.left)

pub returns : goal.returns
returns g c =
    c.split_at.ensures.back
    ∙ ap (λ n. drop n c.args.users.now)
    (guarded_count (g.H.Hierarchy.state c.args.tree.now) c.args.subtrees.now c.args.users.now c.loop-subtree.left.now
    (guarded_end (g.H.Hierarchy.state c.args.tree.now) c.args.subtrees.now c.loop-subtree.subtree-index c.loop-subtree.left.now
    c.loop-subtree-test.false ∙ c.loop-subtree.invariant.left))
