use Rattle.std.proofs.Common.{◌-◌, List, length, take, drop, Some, sym, ap, ◌∙◌, subst}
use Rattle.std.proofs.lemmas.List.{take_rest}
use Rattle.std.proofs.lemmas.Result.{err_from_is_err_and}
use Rattle.cg_model.specs.Listed.{listed_of, listed}
use Rattle.cg_cgroup.specs.Identity.{Identity}
use Rattle.cg_guards.specs.Reach.{AreCovered}
use Rattle.cg_guards.specs.declared.identities.Identities.{Identities}
use Rattle.cg_guards.proofs.OutOfReach.{drop_covered}
use Rattle.cg_check.proofs.ListedLaws.{listed_past}
use Rattle.cg_cli.specs.Formats.{listing_in}
use Rattle.cg_cli.proofs.AllPairs.{begins, goes_on, stops, passes_on, user_next, wants}
use Rattle.cg_cli.proofs.audit_all.Listing.write_pairs.Goals as goal

-- those behind the first
others_covered : (identities : Identities) (left : List Identity) → AreCovered (Some identities) left
    → AreCovered (Some identities) (take (length left - 1) (drop 1 left))
others_covered identities left covered =
    subst (AreCovered (Some identities)) (sym (take_rest left 1)) (drop_covered (Some identities) 1 left covered)

pub users-init : goal.users-init
users-init g c = record {
  front =
      begins _ (listed (g.H.Hierarchy.state c.args.self.now.tree.now) c.args.users.now c.args.self.now.subtrees.now)
      (listed (g.H.Hierarchy.state c.args.self.now.tree.now) c.from_first_unguarded-left.result.now c.args.self.now.subtrees.now)
      (g.W.Write.contents c.args.out.now)
      (listed_past (g.H.Hierarchy.state c.args.self.now.tree.now) c.args.self.now.subtrees.now c.args.users.now
      c.from_first_unguarded-left.result.now c.from_first_unguarded-left.ensures);
  covered =
      subst (AreCovered (Some c.in_ok-identities.identities)) (sym c.from_first_unguarded-left.ensures)
      (drop_covered (Some c.in_ok-identities.identities) _ c.args.users.now c.in_ok-identities.ensures.covered);
}

pub returns-in_err-identities : goal.returns-in_err-identities
returns-in_err-identities g c =
    let p = err_from_is_err_and c.from_residual.result c.from_residual.ensures.1 in
    rw (p.1, p.2)
    (wants (listing_in c.args.self.now.format) (listed (g.H.Hierarchy.state c.args.self.now.tree.now) c.args.users.now
    c.args.self.now.subtrees.now) (g.W.Write.contents c.args.out.now))

pub from_first_unguarded-left-requires-in-len1-up-clause-covered : goal.from_first_unguarded-left-requires-in-len1-up-clause-covered
from_first_unguarded-left-requires-in-len1-up-clause-covered g c =
    others_covered c.in_ok-identities.identities c.users.left.now c.users.invariant.covered

pub returns-in_err-write_user : goal.returns-in_err-write_user
returns-in_err-write_user g c =
    let p = err_from_is_err_and c.from_residual-in_err-write_user.result c.from_residual-in_err-write_user.ensures.1 in
    let st = g.H.Hierarchy.state c.args.self.now.tree.now in
    let far =
    user_next _ st c.args.self.now.subtrees.now c.users.left.now c.user-item.result
    (listed st c.args.users.now c.args.self.now.subtrees.now)
    (g.W.Write.contents c.args.out.now) (g.W.Write.contents c.users.out) c.users.worst c.in-len1-up.len_at_least c.user-item.is
    c.users.invariant.front in
    rw (p.1, p.2)
    (stops _ (listed st c.args.users.now c.args.self.now.subtrees.now) (listed_of st c.args.self.now.subtrees.now c.user-item.result)
    (listed st (drop 1 c.users.left.now) c.args.self.now.subtrees.now)
    (g.W.Write.contents c.args.out.now) (g.W.Write.contents c.users.out) (g.W.Write.contents c.write_user.new.out) c.users.worst far
    c.in_err-write_user.field-0.0 c.in_err-write_user.ensures)

pub users-preserved : goal.users-preserved
users-preserved g c =
    let st = g.H.Hierarchy.state c.args.self.now.tree.now in
    let far =
    user_next _ st c.args.self.now.subtrees.now c.users.left.now c.user-item.result
    (listed st c.args.users.now c.args.self.now.subtrees.now)
    (g.W.Write.contents c.args.out.now) (g.W.Write.contents c.users.out) c.users.worst c.in-len1-up.len_at_least c.user-item.is
    c.users.invariant.front in
    record {
      front =
          passes_on _ (listed st c.args.users.now c.args.self.now.subtrees.now)
          (listed st (drop 1 c.users.left.now) c.args.self.now.subtrees.now)
          (listed st c.from_first_unguarded-left-in-len1-up.result.now c.args.self.now.subtrees.now)
          (g.W.Write.contents c.args.out.now) (g.W.Write.contents c.write_user.new.out) _ c.worse-worst.result
          (listed_past st c.args.self.now.subtrees.now (take (length c.users.left.now - 1) (drop 1 c.users.left.now))
          c.from_first_unguarded-left-in-len1-up.result.now c.from_first_unguarded-left-in-len1-up.ensures
          ∙ ap (λ rest. listed st rest c.args.self.now.subtrees.now) (take_rest c.users.left.now 1))
          c.worse-worst.ensures
          (goes_on _ (listed st c.args.users.now c.args.self.now.subtrees.now)
          (listed_of st c.args.self.now.subtrees.now c.user-item.result)
          (listed st (drop 1 c.users.left.now) c.args.self.now.subtrees.now)
          (g.W.Write.contents c.args.out.now) (g.W.Write.contents c.users.out) (g.W.Write.contents c.write_user.new.out) c.users.worst far
          c.in_ok-write_user.field-0 c.in_ok-write_user.ensures);
      covered =
          subst (AreCovered (Some c.in_ok-identities.identities)) (sym c.from_first_unguarded-left-in-len1-up.ensures)
          (drop_covered (Some c.in_ok-identities.identities) _ (take (length c.users.left.now - 1) (drop 1 c.users.left.now))
          (others_covered c.in_ok-identities.identities c.users.left.now c.users.invariant.covered));
    }
