-- Each element is a table, which is read into the next row or has the first fault.
use Rattle.std.proofs.Common.{◌≡◌, ◌+◌, ◌<◌, ◌≤◌, is_some, ◌∷◌, List, [], length, get_or, take, refl, sym, ap, subst, ◌∙◌, map, filter_map, Some, rules, arith}
use Rattle.std.proofs.lemmas.List.{length-append}
use Rattle.std.proofs.lemmas.Iterator.Consumers.{YieldsList-turn, YieldsList-end}
use Rattle.std.proofs.lemmas.Iterator.Adapters.{YieldsList-from_vec}
use Rattle.toml.specs.Data.{Members, as_table}
use Rattle.toml.specs.View.{view}
use Rattle.cg_text.specs.Rows.{AreReadAs}
use Rattle.cg_format.specs.TextFaults.{row_faults}
use Rattle.cg_format.specs.declared.fault.Place.{Place}
use Rattle.cg_format.specs.declared.fault.Place.TheVariants.{Cgroup}
use Rattle.cg_format.specs.declared.fault.TreeFault.{TreeFault}
use Rattle.cg_format.specs.declared.fault.TreeFault.TheVariants.{NoMemory}
use Rattle.cg_text.proofs.EachRow.{none_passed, HavePassed, IsNextTable, table_at, table_passed, table_found, tables_passed, tables_taken}
use Rattle.cg_text.proofs.RowLaws.{passed_on, row_added}
use Rattle.cg_text.proofs.tree.row.rows_of.Goals as goal
use Rattle.cg_text.proofs.tree.row.rows_of.Goals.{After-row_number-number}

-- ---- the element that is next

turn : (c : After-row_number-number) → (length c.loop-element.yielded < length c.args.elements.items)
    × (c.in-Some.element ≡ get_or c.args.elements.items (length c.loop-element.yielded) c.in-Some.element)
turn c =
    let yields = YieldsList-from_vec {s = c.into_iter-element-iterator.result} c.args.elements.items (search rules) (search rules) in
    YieldsList-turn yields c.loop-element.yielded c.loop-element.element-iterator c.loop-element.yielded_by c.next.result c.next.new.self
    c.in-Some.element c.in-Some.is c.next.ensures.steps

here : (c : After-row_number-number) → (table : Members) × (Some table ≡ as_table (view c.in-Some.element))
here c =
    table_at (λ _. row_faults c.args.format) Cgroup c.args.elements.items c.requires.tables _ c.in-Some.element (turn c).0 (turn c).1

next : (c : After-row_number-number)
    → IsNextTable c.args.elements.items (length c.loop-element.yielded) (here c).0 c.row_number-number.result
next c = record {
  element = c.in-Some.element;
  within = (turn c).0;
  there = (turn c).1;
  held = (here c).1;
  counted = omega arith;
}

-- ---- the goals

pub returns-in_err-rows : goal.returns-in_err-rows
returns-in_err-rows c = passed_on _ _ _ NoMemory c.from_residual.ensures (λ memory. absurd (memory refl))

pub loop-element-init : goal.loop-element-init
loop-element-init c = record {
  count = ap length c.in_ok-rows.ensures.items;
  passed = none_passed (λ _. row_faults c.args.format) Cgroup (filter_map as_table (map view c.args.elements.items));
  read = subst (AreReadAs c.args.format 1 []) (sym c.in_ok-rows.ensures.items) tt;
}

pub row_in-requires : goal.row_in-requires
row_in-requires c = ap is_some (sym (here (goal.at.row_in-requires c).After-row_number-number).1)

pub returns-in_err-row_in : goal.returns-in_err-row_in
returns-in_err-row_in c =
    let at = (goal.at.returns-in_err-row_in c).After-row_number-number in
    passed_on _ _ _ c.in_err-row_in.field-0.0 c.from_residual-in_err-row_in.ensures
    (λ memory.
    table_found (λ _. row_faults c.args.format) Cgroup c.args.elements.items c.requires.tables _ _ _ (next at)
    c.loop-element.invariant.passed _ (c.in_err-row_in.ensures (here at).0 (here at).1 memory))

pub returns-in_err-push : goal.returns-in_err-push
returns-in_err-push c = passed_on _ _ _ NoMemory c.from_residual-in_err-push.ensures (λ memory. absurd (memory refl))

pub loop-element-preserved : goal.loop-element-preserved
loop-element-preserved c =
    let elements = c.args.elements.items in
    let tables : List Members = filter_map as_table (map view elements) in
    let clauses : List Members → Place → Members → List TreeFault = λ _. row_faults c.args.format in
    let at = (goal.at.loop-element-preserved c).After-row_number-number in
    let row = c.in_ok-row_in.ensures (here at).0 (here at).1 in
    let more = sym (length-append c.loop-element.yielded (c.in-Some.element ∷ [])) in
    record {
      count =
          ap length c.in_ok-push.ensures.items ∙ length-append c.loop-element.rows.items _
          ∙ ap (λ n. n + 1) c.loop-element.invariant.count ∙ more;
      passed =
          subst (HavePassed clauses Cgroup tables) more
          (table_passed clauses Cgroup elements c.requires.tables _ _ _ (next at) c.loop-element.invariant.passed row.0);
      read =
          subst (λ n. AreReadAs c.args.format 1 (take n tables) c.push.new.self.items) more
          (subst (AreReadAs c.args.format 1 (take (length c.loop-element.yielded + 1) tables)) (sym c.in_ok-push.ensures.items)
          (row_added c.args.format elements c.requires.tables _ _ _ (next at) _ _ c.loop-element.invariant.read row.1));
    }

pub returns : goal.returns
returns c =
    let elements = c.args.elements.items in
    let clauses : List Members → Place → Members → List TreeFault = λ _. row_faults c.args.format in
    let yields = YieldsList-from_vec {s = c.into_iter-element-iterator.result} elements (search rules) (search rules) in
    let all = YieldsList-end yields c.loop-element.yielded c.loop-element.element-iterator c.loop-element.yielded_by c.next.result
    c.next.new.self c.in-None.is c.next.ensures.steps in
    let past : length elements ≤ length c.loop-element.yielded = omega (arith, all.1) in (
      tables_passed clauses Cgroup elements c.requires.tables _ past c.loop-element.invariant.passed,
      subst (λ tables. AreReadAs c.args.format 1 tables c.loop-element.rows.items)
          (tables_taken clauses Cgroup elements c.requires.tables _ past) c.loop-element.invariant.read,
    )
