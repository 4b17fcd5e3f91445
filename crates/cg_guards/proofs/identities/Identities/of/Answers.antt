use Rattle.std.proofs.Common.{◌≡◌, ℕ, ◌||◌, ap, ◌∙◌, subst, cond, true, OnOk, take_all}
use Rattle.std.specs.List.{list_any}
use Rattle.std.specs.Ordering.{nat_cmp, eq_by_cmp}
use Rattle.std.specs.BTreeSet.{contains}
use Rattle.std.proofs.lemmas.Iterator.Adapters.{fact_from_extend}
use Rattle.std.proofs.lemmas.Iterator.{YieldsList-from_slice}
use Rattle.cg_guards.specs.Reach.{AreIdentitiesOf}
use Rattle.cg_guards.proofs.OutOfReach.{of_none, of_more, are_covered}
use Rattle.cg_guards.proofs.identities.Identities.of.Goals as goal

pub loop-user-init : goal.loop-user-init
loop-user-init c = of_none _ c.new.ensures.empty c.new-2.ensures.empty

pub loop-user-preserved : goal.loop-user-preserved
loop-user-preserved c =
    of_more c.loop-user.identities _ c.args.users.now c.loop-user.user-index c.user-item.result c.loop-user-test.true c.user-item.is
    c.loop-user.invariant
    (λ uid. c.in_ok-insert.ensures.updates.0 uid
    ∙ ap (λ n. cond (eq_by_cmp nat_cmp n uid) true (contains nat_cmp c.loop-user.identities.uids uid)) c.uid.ensures.uid)
    (λ gid. added gid
    ∙ ap (λ gids. contains nat_cmp c.loop-user.identities.gids gid || list_any (eq_by_cmp nat_cmp gid) gids) c.gids.ensures.gids)
  where
    Added : Type 0
    Added =
        (gid : ℕ) → contains nat_cmp c.extend.new.self gid
        ≡ (contains nat_cmp c.loop-user.identities.gids gid || list_any (eq_by_cmp nat_cmp gid) c.gids.result.now)

    added : Added
    added =
        subst (λ r. OnOk r Added) c.in_ok-extend.was
        (fact_from_extend (λ y. y.now) c.extend.result c.extend.ensures.ran (λ it b. YieldsList-from_slice _ b.0)
        (λ xs e h gid. h.0 gid
        ∙ ap (λ gids. contains nat_cmp c.loop-user.identities.gids gid || list_any (eq_by_cmp nat_cmp gid) gids) e))

pub returns-clause-of : goal.returns-clause-of
returns-clause-of c =
    subst (AreIdentitiesOf c.loop-user.identities) (take_all c.loop-user.user-index c.args.users.now c.loop-user-test.false)
    c.loop-user.invariant

pub returns-clause-covered : goal.returns-clause-covered
returns-clause-covered c = are_covered c.loop-user.identities c.args.users.now (returns-clause-of c)
