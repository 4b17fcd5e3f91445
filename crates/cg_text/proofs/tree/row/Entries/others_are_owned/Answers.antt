use Rattle.std.proofs.Common.{not, sym, ap, ◌∙◌}
use Rattle.std.specs.List.{list_all}
use Rattle.cg_format.specs.Form.{vocabulary}
use Rattle.cg_text.specs.Rows.{is_owned, others_of}
use Rattle.cg_text.proofs.FurtherLaws.{unnamed_owned, named_in_all}
use Rattle.cg_text.proofs.tree.row.Entries.others_are_owned.Goals as goal

pub returns-then-not-tells : goal.returns-then-not-tells
returns-then-not-tells c =
    ap not c.if-not-tells.true ∙ sym (unnamed_owned c.args.self (others_of c.args.self) (sym c.requires ∙ c.if-not-tells.true))

pub returns-else-not-tells : goal.returns-else-not-tells
returns-else-not-tells c =
    c.has_other_owners.ensures
    ∙ sym (ap (list_all (is_owned c.args.self))
    (named_in_all c.args.self (vocabulary c.args.self.format) (sym c.requires ∙ c.if-not-tells.false)))
