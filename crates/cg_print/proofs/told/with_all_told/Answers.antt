use Rattle.std.proofs.Common.{◌≡◌, get_or, sym, ap, subst, ◌∙◌, fold, take, arith}
use Rattle.std.proofs.lemmas.List.{take_all}
use Rattle.std.proofs.lemmas.List.Sums.{fold_more}
use Rattle.std.specs.List.{AllByRecursion}
use Rattle.toml.specs.View.{table_view}
use Rattle.cg_cgroup.specs.Files.{all_others}
use Rattle.cg_cgroup.specs.declared.other_file.OtherFile.TheVariants.{Freeze}
use Rattle.cg_print.specs.Carried.{ToldHasIds}
use Rattle.cg_print.specs.Documents.{with_told}
use Rattle.cg_print.proofs.Entries.{all_more}
use Rattle.cg_print.proofs.told.with_all_told.Goals as goal

pub loop-file-preserved : goal.loop-file-preserved
loop-file-preserved c =
    let files = c.args.files.now in
    let i = c.loop-file.file-index in
    record {
      written = c.in_ok-put_told.ensures.written
          ∙ ap (λ keys. with_told files keys (get_or all_others i Freeze)) c.loop-file.invariant.written
          ∙ sym (fold_more (with_told files) (table_view c.args.keys) all_others i Freeze c.loop-file-test.true);
      ids =
          all_more (ToldHasIds files) all_others i Freeze c.loop-file-test.true c.loop-file.invariant.ids c.in_ok-put_told.ensures.ids;
    }

pub returns-clause-written : goal.returns-clause-written
returns-clause-written c =
    let all : take c.loop-file.file-index all_others ≡ all_others =
    take_all c.loop-file.file-index all_others (omega (arith, c.loop-file-test.false)) in
    c.loop-file.invariant.written ∙ ap (fold (with_told c.args.files.now) (table_view c.args.keys)) all

pub returns-clause-ids : goal.returns-clause-ids
returns-clause-ids c =
    let all : take c.loop-file.file-index all_others ≡ all_others =
    take_all c.loop-file.file-index all_others (omega (arith, c.loop-file-test.false)) in
    subst (AllByRecursion (ToldHasIds c.args.files.now)) all c.loop-file.invariant.ids
