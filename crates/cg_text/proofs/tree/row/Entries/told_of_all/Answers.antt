use Rattle.std.proofs.Common.{refl, sym, subst}
use Rattle.cg_cgroup.specs.declared.told.ToldFiles.{ToldFiles}
use Rattle.cg_format.specs.declared.fault.TreeFault.TheVariants.{NoMemory}
use Rattle.cg_text.proofs.RowLaws.{passed_on}
use Rattle.cg_text.proofs.FurtherLaws.{AreTold, nothing_yet, told_more, text_failed, told_all}
use Rattle.cg_text.proofs.tree.row.Entries.told_of_all.Goals as goal

pub loop-at-init : goal.loop-at-init
loop-at-init c =
    subst (λ (files : ToldFiles). AreTold c.args.self 0 files.entries) (sym c.in_ok-files.ensures) (nothing_yet c.args.self)

pub returns-in_err-files : goal.returns-in_err-files
returns-in_err-files c = passed_on _ _ _ NoMemory c.from_residual.ensures (λ memory. absurd (memory refl))

pub loop-at-preserved : goal.loop-at-preserved
loop-at-preserved c =
    told_more c.args.self c.loop-at.at c.loop-at.files _ c.loop-at.invariant c.loop-at-test.true _ _ c.in_ok-tell.ensures.0
    c.in_ok-tell.ensures.1

pub returns-in_err-tell : goal.returns-in_err-tell
returns-in_err-tell c =
    passed_on _ _ _ c.in_err-tell.field-0.0 c.from_residual-in_err-tell.ensures
    (λ memory.
    text_failed c.args.self c.loop-at.at c.loop-at.files _ c.loop-at.invariant c.loop-at-test.true _ _ (c.in_err-tell.ensures memory))

pub returns : goal.returns
returns c = told_all c.args.self c.loop-at.at c.loop-at.files _ c.loop-at.invariant c.loop-at-test.false
