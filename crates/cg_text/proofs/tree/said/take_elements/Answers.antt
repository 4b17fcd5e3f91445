use Rattle.std.proofs.Common.{None, Some, map, sym, ap, ◌∙◌}
use Rattle.toml.specs.Data.{get_member}
use Rattle.toml.specs.View.{view, members_view}
use Rattle.cg_text.proofs.TakenLaws.{others_stay, found_at, elements_of}
use Rattle.cg_text.proofs.tree.said.take_elements.Goals as goal

pub returns-in-None-clause-taken : goal.returns-in-None-clause-taken
returns-in-None-clause-taken c =
    ap (map view) c.new.ensures.items ∙ sym (found_at c.args.key.now c.args.table.now.entries None c.in-None.ensures.value)

pub returns-in-Some-clause-taken : goal.returns-in-Some-clause-taken
returns-in-Some-clause-taken c =
    ap (λ held. map view held.items) c.unwrap_or.ensures
    ∙ elements_of c.array_of.result c.new-in-Some.result _ c.array_of.ensures c.new-in-Some.ensures.items
    ∙ sym (found_at c.args.key.now c.args.table.now.entries (Some c.in-Some.value) c.in-Some.ensures.value)

pub returns-in-Some-clause-others : goal.returns-in-Some-clause-others
returns-in-Some-clause-others c = λ other differ.
    ap (λ entries. get_member other (members_view entries)) c.in-Some.ensures.entries
    ∙ others_stay c.args.key.now other differ c.args.table.now.entries
