use Rattle.std.proofs.Common.{option_copied}
use Rattle.cg_model.specs.Guards.{is_guarded}
use Rattle.cg_guards.proofs.KeptOff.{none_spared}
use Rattle.cg_guards.proofs.OutOfReach.{front_covered}
use Rattle.cg_check.proofs.FirstUnguarded.{below_start, below_end, below_found, below_kept, all_left}
use Rattle.cg_check.proofs.Pairs.{subtree_at}
use Rattle.cg_check.proofs.first_unguarded.Goals as goal

pub loop-place-init : goal.loop-place-init
loop-place-init g c = record {
  below = below_start (g.H.Hierarchy.state c.args.tree.now) c.args.users.now c.args.subtrees.now;
  covered = c.requires.covered;
  asked = none_spared c.args.users.now;
}

pub guarded_users-left-requires-clause-subtree : goal.guarded_users-left-requires-clause-subtree
guarded_users-left-requires-clause-subtree g c =
    subtree_at (g.H.Hierarchy.state c.args.tree.now) c.args.subtrees.now c.loop-place.place c.index-subtrees-place.result
    c.loop-place-test.true c.index-subtrees-place.is c.requires.there

pub loop-place-preserved-then-left-guarded : goal.loop-place-preserved-then-left-guarded
loop-place-preserved-then-left-guarded g c = record {
  below =
      below_kept (g.H.Hierarchy.state c.args.tree.now) c.args.users.now c.args.subtrees.now c.loop-place.place c.index-subtrees-place.result
      c.loop-place.guarded.now c.guarded_users-left.result.now c.loop-place.found
      c.loop-place-test.true c.index-subtrees-place.is c.guarded_users-left.ensures.users c.loop-place.invariant.below
      c.if-left-guarded.true;
  covered = c.loop-place.invariant.covered;
  asked =
      all_left (is_guarded (g.H.Hierarchy.state c.args.tree.now) c.index-subtrees-place.result) c.guarded_users-left.new.asked
      c.loop-place.guarded.now c.guarded_users-left.result.now
      c.guarded_users-left.ensures.users c.if-left-guarded.true c.guarded_users-left.ensures.asked;
}

pub loop-place-preserved : goal.loop-place-preserved
loop-place-preserved g c = record {
  below =
      below_found (g.H.Hierarchy.state c.args.tree.now) c.args.users.now c.args.subtrees.now c.loop-place.place
      c.index-subtrees-place.result c.loop-place.guarded.now c.guarded_users-left.result.now c.loop-place.found
      c.loop-place-test.true c.index-subtrees-place.is c.guarded_users-left.ensures.users c.loop-place.invariant.below
      c.if-left-guarded.false;
  covered =
      front_covered (option_copied c.args.identities) (is_guarded (g.H.Hierarchy.state c.args.tree.now) c.index-subtrees-place.result)
      c.loop-place.guarded.now c.guarded_users-left.result.now c.guarded_users-left.ensures.users
      c.loop-place.invariant.covered;
  asked = c.guarded_users-left.ensures.asked;
}

pub returns : goal.returns
returns g c =
    below_end (g.H.Hierarchy.state c.args.tree.now) c.args.users.now c.args.subtrees.now c.loop-place.place c.loop-place.guarded.now
    c.loop-place.found c.loop-place.auto.place-end c.loop-place-test.false c.loop-place.invariant.below
