use Rattle.std.proofs.Common.{◌-◌, List, length, take, drop, sym, subst}
use Rattle.std.specs.Prelude.{Option, option_copied}
use Rattle.std.proofs.lemmas.List.{take_rest}
use Rattle.cg_cgroup.specs.Identity.{Identity}
use Rattle.cg_guards.specs.Reach.{AreCovered}
use Rattle.cg_guards.specs.declared.identities.Identities.{Identities}
use Rattle.cg_guards.proofs.OutOfReach.{drop_covered}
use Rattle.cg_cli.proofs.FoundPlaces.{IsReached, reached_first, reached_next}
use Rattle.cg_cli.proofs.answers.audited.alone.Goals as goal

-- those behind the first
others_covered : (identities : Option Identities) (left : List Identity) → AreCovered identities left
    → AreCovered identities (take (length left - 1) (drop 1 left))
others_covered identities left covered = subst (AreCovered identities) (sym (take_rest left 1)) (drop_covered identities 1 left covered)

pub users-init : goal.users-init
users-init g c = record {
  reached =
      subst (IsReached (g.H.Hierarchy.state c.args.tree.now) c.args.users.now c.args.subtree.now c.from_first-left.result.now)
      (sym c.new-found.ensures.items)
      (reached_first (g.H.Hierarchy.state c.args.tree.now) c.args.users.now c.args.subtree.now c.from_first-left.result.now
      c.from_first-left.ensures);
  covered =
      subst (AreCovered (option_copied c.args.identities)) (sym c.from_first-left.ensures)
      (drop_covered (option_copied c.args.identities) _ c.args.users.now c.requires.covered);
}

pub from_first-left-requires-in-len1-up-clause-covered : goal.from_first-left-requires-in-len1-up-clause-covered
from_first-left-requires-in-len1-up-clause-covered g c =
    others_covered (option_copied c.args.identities) c.users.left.now c.users.invariant.covered

pub users-preserved : goal.users-preserved
users-preserved g c =
    let st = g.H.Hierarchy.state c.args.tree.now in
    let others = take (length c.users.left.now - 1) (drop 1 c.users.left.now) in
    record {
      reached =
          subst (IsReached st c.args.users.now c.args.subtree.now c.from_first-left-in-len1-up.result.now)
          (sym c.in_ok-add.ensures)
          (reached_next st c.args.users.now c.args.subtree.now c.users.left.now others c.from_first-left-in-len1-up.result.now
          c.users.found.items c.user-item.result c.in_ok-answer.answer c.users.invariant.reached c.in-len1-up.len_at_least
          c.user-item.is c.in_ok-answer.ensures (take_rest c.users.left.now 1) c.from_first-left-in-len1-up.ensures);
      covered =
          subst (AreCovered (option_copied c.args.identities)) (sym c.from_first-left-in-len1-up.ensures)
          (drop_covered (option_copied c.args.identities) _ others
          (others_covered (option_copied c.args.identities) c.users.left.now c.users.invariant.covered));
    }
