use Rattle.std.proofs.Common.{ap, sym, ◌∙◌, map, length, arith}
use Rattle.cg_advice.specs.Thinned.{table_path, is_table_of}
use Rattle.cg_advice.proofs.Thinning.{is_table_at, named_again, pushed_at, formed_pushed, named_pushed}
use Rattle.cg_advice.proofs.table.place_of.Goals as goal

pub returns-then-is_table_of-clause-place : goal.returns-then-is_table_of-clause-place
returns-then-is_table_of-clause-place g c =
    is_table_at c.args.tables.now.items c.args.guess c.args.subtree.now
    (ap (λ tables. is_table_of tables c.args.guess c.args.subtree.now) (sym c.as_slice.ensures.value)
    ∙ sym c.is_table_of.ensures ∙ c.if-is_table_of.true)

pub returns-then-is_table_of-clause-named : goal.returns-then-is_table_of-clause-named
returns-then-is_table_of-clause-named g c = λ paths named.
    named_again (map table_path c.args.tables.now.items) paths c.args.subtree.now c.args.guess
    (returns-then-is_table_of-clause-place g c) named

pub returns-then-is_table_of-2-clause-place : goal.returns-then-is_table_of-2-clause-place
returns-then-is_table_of-2-clause-place g c =
    is_table_at c.args.tables.now.items c.unwrap_or-known.result c.args.subtree.now
    (ap (λ tables. is_table_of tables c.unwrap_or-known.result c.args.subtree.now) (sym c.as_slice-2.ensures.value)
    ∙ sym c.is_table_of-2.ensures ∙ c.if-is_table_of-2.true)

pub returns-then-is_table_of-2-clause-named : goal.returns-then-is_table_of-2-clause-named
returns-then-is_table_of-2-clause-named g c = λ paths named.
    named_again (map table_path c.args.tables.now.items) paths c.args.subtree.now c.unwrap_or-known.result
    (returns-then-is_table_of-2-clause-place g c) named

pub returns-clause-place : goal.returns-clause-place
returns-clause-place g c =
    pushed_at c.args.tables.now.items c.push.new.self.items _ c.len-place.result
    (omega (arith, c.len-place.ensures, c.as_slice.ensures.len, ap length c.as_slice.ensures.value)) c.in_ok-push.ensures.items

pub returns-clause-tables : goal.returns-clause-tables
returns-clause-tables g c =
    formed_pushed (g.H.Hierarchy.state c.args.tree.now) c.args.tables.now.items c.push.new.self.items _ c.in_ok-push.ensures.items
    c.requires c.in_ok-stands.ensures.spots c.in_ok-stands.ensures.ways

pub returns-clause-named : goal.returns-clause-named
returns-clause-named g c = λ paths named.
    named_pushed c.args.tables.now.items c.push.new.self.items _ paths c.in_ok-push.ensures.items named
