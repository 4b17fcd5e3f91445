use Rattle.std.proofs.Common.{length, get_or, subst, sym, ap, refl, ◌∙◌}
use Rattle.cg_cgroup.specs.ToldList.{ToldList}
use Rattle.cg_cgroup.proofs.ToldLaws.{AreCopied, copied_more, copied_all}
use Rattle.cg_cgroup.proofs.told.ToldFiles.try_clone.Goals as goal

pub loop-at-init : goal.loop-at-init
loop-at-init c = record { long = ap length (c.in_ok-entries.ensures.ok ∙ c.none_told.ensures); front = refl }

pub loop-at-preserved : goal.loop-at-preserved
loop-at-preserved c =
    let so_far = subst (AreCopied c.args.self.now c.loop-at.at) (sym c.deref_mut.ensures.value) c.loop-at.invariant in
    copied_more c.args.self.now c.loop-at.at c.deref_mut.result.now c.index-deref-at.result _ so_far c.loop-at-test.true
    (c.in_ok-copy.ensures ∙ ap (λ entries. get_or entries c.loop-at.at c.index-deref-at.result)
    (c.deref.ensures ∙ ap (λ (files : ToldList). files.entries) c.self.view_is))

pub invariant_of-result : goal.invariant_of-result
invariant_of-result c = (c.loop-at.invariant.long, tt)

pub returns : goal.returns
returns c = copied_all c.args.self.now c.loop-at.at _ c.loop-at.invariant c.loop-at-test.false
