use Rattle.std.proofs.Common.{subst, sym, ap}
use Rattle.cg_cgroup.specs.ToldList.{ToldList}
use Rattle.cg_cgroup.proofs.ToldLaws.{AreKept, kept_none, kept_more, kept_all}
use Rattle.cg_cgroup.proofs.told.ToldFiles.keep.Goals as goal

pub loop-at-init : goal.loop-at-init
loop-at-init c = kept_none c.args.enabled c.args.self.now _ (ap (λ (files : ToldList). files.entries) c.self.view_is)

pub loop-at-preserved : goal.loop-at-preserved
loop-at-preserved c =
    let so_far = subst (AreKept c.args.enabled c.args.self.now c.loop-at.at) (sym c.deref_mut.ensures.value) c.loop-at.invariant in
    kept_more c.args.enabled c.args.self.now c.loop-at.at c.deref_mut.result.now _ _ _ so_far c.loop-at-test.true c.keep_one.ensures

pub returns : goal.returns
returns c = kept_all c.args.enabled c.args.self.now c.loop-at.at _ c.loop-at.invariant c.loop-at-test.false
