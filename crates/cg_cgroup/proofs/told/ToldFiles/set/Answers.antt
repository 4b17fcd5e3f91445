use Rattle.std.proofs.Common.{Some, set, ap, ◌∙◌}
use Rattle.cg_cgroup.specs.Told.{telling}
use Rattle.cg_cgroup.specs.ToldList.{ToldList}
use Rattle.cg_cgroup.proofs.ToldLaws.{same_told}
use Rattle.cg_cgroup.proofs.told.ToldFiles.set.Goals as goal

pub returns : goal.returns
returns c =
    let same = c.deref_mut.ensures.value ∙ ap (λ (files : ToldList). files.entries) c.self.view_is in
    same_told (telling c.args.file (Some c.args.told) c.args.self.now) _ (λ i. set (same i) (c.number.ensures.number i) (Some c.args.told))
