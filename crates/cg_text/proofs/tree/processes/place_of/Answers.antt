use Rattle.std.proofs.Common.{sym, ap, ◌∙◌}
use Rattle.std.specs.Option.{option_copied}
use Rattle.toml.specs.View.{table_view}
use Rattle.cg_text.proofs.RowLaws.{passed_on}
use Rattle.cg_text.proofs.LiveLaws.{place_fault, without_path, at_place, barred_place, got_whole}
use Rattle.cg_text.proofs.tree.processes.place_of.Goals as goal

pub returns-in_err-at : goal.returns-in_err-at
returns-in_err-at c = λ tables among.
    passed_on _ _ _ c.in_err-at.field-0.0 c.from_residual.ensures (λ memory.
    without_path tables c.args.cgroups.now among c.args.place (table_view c.args.row.now) c.in_err-at.field-0.0
    (c.in_err-at.ensures memory))

pub returns-in_default : goal.returns-in_default
returns-in_default c = λ tables among other.
    at_place tables c.args.cgroups.now among c.args.place (table_view c.args.row.now) c.in_ok-at.at c.in_ok-at.ensures.1
    ∙ ap (place_fault c.args.place c.in_ok-at.at) (got_whole c.args.cgroups.now c.in_ok-at.at c.depth.result
    (option_copied c.get.result) c.get.ensures c.depth.ensures.depth ∙ ap option_copied c.in_default.is)

pub returns-then-not-is_empty : goal.returns-then-not-is_empty
returns-then-not-is_empty c = λ tables among other.
    at_place tables c.args.cgroups.now among c.args.place (table_view c.args.row.now) c.in_ok-at.at c.in_ok-at.ensures.1
    ∙ ap (place_fault c.args.place c.in_ok-at.at) (got_whole c.args.cgroups.now c.in_ok-at.at c.depth.result
    (option_copied c.get.result) c.get.ensures c.depth.ensures.depth ∙ ap option_copied c.in-Some.is)
    ∙ barred_place _ _ c.args.place (sym c.is_root.ensures ∙ c.if-not-is_root.true) (sym c.is_empty.ensures ∙ c.if-not-is_empty.true)
