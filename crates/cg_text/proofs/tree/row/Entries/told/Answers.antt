use Rattle.std.proofs.Common.{cond, Some, None, sym, ap, ◌∙◌}
use Rattle.std.specs.List.{list_all}
use Rattle.cg_model.specs.Clauses.{first, unless}
use Rattle.cg_cgroup.specs.Told.{told_by}
use Rattle.cg_cgroup.specs.declared.told.ToldFiles.{ToldFiles}
use Rattle.cg_format.specs.Form.{vocabulary}
use Rattle.cg_format.specs.declared.fault.TreeFault.TheVariants.{BadValue}
use Rattle.cg_text.specs.Rows.{has_text, others_of, told_at}
use Rattle.cg_text.proofs.RowLaws.{passed_on}
use Rattle.cg_text.proofs.FurtherLaws.{unnamed_texts, named_in_all}
use Rattle.cg_text.proofs.tree.row.Entries.told.Goals as goal

pub returns-then-not-tells : goal.returns-then-not-tells
returns-then-not-tells c =
    let none = sym c.requires ∙ c.if-not-tells.true in (
      ap (λ b. first (unless b (BadValue c.args.self.place))) (unnamed_texts c.args.self (others_of c.args.self) none),
      sym (ap (λ b. cond b (Some (told_by (told_at c.args.self))) None) none),
    )

pub returns-in_err-files : goal.returns-in_err-files
returns-in_err-files c =
    passed_on _ _ _ c.in_err-files.field-0.0 c.from_residual.ensures
    (λ memory.
    ap (λ files. first (unless (list_all (has_text c.args.self) files) (BadValue c.args.self.place)))
    (named_in_all c.args.self (vocabulary c.args.self.format) (sym c.requires ∙ c.if-not-tells.false))
    ∙ c.in_err-files.ensures memory)

pub returns : goal.returns
returns c =
    let some = sym c.requires ∙ c.if-not-tells.false in (
      ap (λ files. first (unless (list_all (has_text c.args.self) files) (BadValue c.args.self.place)))
          (named_in_all c.args.self (vocabulary c.args.self.format) some)
          ∙ c.in_ok-files.ensures.0,
      ap (λ (files : ToldFiles). Some files) c.in_ok-files.ensures.1
          ∙ sym (ap (λ b. cond b (Some (told_by (told_at c.args.self))) None) some),
    )
