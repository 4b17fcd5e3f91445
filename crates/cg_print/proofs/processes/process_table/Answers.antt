use Rattle.std.proofs.Common.{◌≡◌, ℕ, List, ap, ◌∙◌, arith}
use Rattle.std.proofs.lemmas.Bool.{and_from, le-leb}
use Rattle.toml.specs.Data.{Data, Members, no_members}
use Rattle.toml.specs.View.{members_view}
use Rattle.cg_print.specs.Keys.{with_key}
use Rattle.cg_print.specs.Documents.{number, process_table}
use Rattle.cg_print.proofs.processes.process_table.Goals as goal

three_keys : (a b d : List ℕ) (va vb vd wa wb wd : Data) (t0 t1 t2 t3 : Members) → t0 ≡ no_members → t1 ≡ with_key a va t0
    → t2 ≡ with_key b vb t1 → t3 ≡ with_key d vd t2 → va ≡ wa → vb ≡ wb → vd ≡ wd
    → t3 ≡ with_key d wd (with_key b wb (with_key a wa no_members))
three_keys a b d va vb vd wa wb wd t0 t1 t2 t3 none first second third is_a is_b is_d = cc

pub returns-clause-written : goal.returns-clause-written
unfolding process_table
returns-clause-written c =
    let none = ap members_view c.new-keys.ensures.empty in
    three_keys _ _ _ _ _ _ _ _ _ _ _ _ _ none c.in_ok-put.ensures c.in_ok-put-2.ensures c.in_ok-put-3.ensures
    (c.from.ensures ∙ ap number c.get.ensures.value) c.id_value.ensures.written c.in_ok-path_value.ensures.written

pub returns-clause-named : goal.returns-clause-named
returns-clause-named c = record {
  pid = and_from _ _ (le-leb 1 c.args.pid (omega arith)) (le-leb c.args.pid 4194303 (omega arith));
  uid = c.id_value.ensures.id;
}
