use Rattle.std.proofs.Common.{List, map, filter_map, take, refl}
use Rattle.toml.specs.Data.{Members, as_table}
use Rattle.toml.specs.View.{view, table_view}
use Rattle.cg_format.specs.declared.fault.TreeFault.TheVariants.{NoMemory}
use Rattle.cg_text.proofs.EachRow.{IsNextTable}
use Rattle.cg_text.proofs.RowLaws.{passed_on}
use Rattle.cg_text.proofs.LiveLaws.{none_read, read_more, read_fails, all_read}
use Rattle.cg_text.proofs.tree.processes.live_of.Goals as goal
use Rattle.cg_text.proofs.tree.processes.live_of.Goals.{After-row_number}

next : (c : After-row_number) → IsNextTable c.args.elements.now c.loop-index.index (table_view c.in-Some.row.now) c.row_number.result
next c = record {
  element = c.index-elements-index.result;
  within = c.loop-index-test.true;
  there = c.index-elements-index.is;
  held = c.in-Some.ensures;
  counted = c.row_number.ensures;
}

pub loop-index-init : goal.loop-index-init
loop-index-init c = λ tables among. none_read tables (filter_map as_table (map view c.args.elements.now)) c.new-live.result
    c.new-live.ensures.empty

pub loop-index-preserved : goal.loop-index-preserved
loop-index-preserved c = λ tables among.
    let had = c.loop-index.invariant tables among in
    let read = c.in_ok-pid.ensures tables (take c.loop-index.index (filter_map as_table (map view c.args.elements.now))) among
    had.are.pids in
    read_more tables c.args.elements.now c.requires.tables _ _ _ (next (goal.at.loop-index-preserved c).After-row_number) c.loop-index.live
    had c.insert.new.self c.in_ok-pid.pid c.in_ok-pid.process read.0 read.1 c.in_ok-insert.ensures.updates.0

pub returns : goal.returns
returns c = λ tables among. all_read tables c.args.elements.now c.requires.tables c.loop-index.index c.loop-index.live
    c.loop-index-test.false (c.loop-index.invariant tables among)

pub returns-in_err-pid : goal.returns-in_err-pid
returns-in_err-pid c = λ tables among.
    let had = c.loop-index.invariant tables among in
    let rows : List Members = filter_map as_table (map view c.args.elements.now) in
    passed_on _ _ _ c.in_err-pid.field-0.0 c.from_residual.ensures (λ memory.
    read_fails tables c.args.elements.now c.requires.tables _ _ _ (next (goal.at.returns-in_err-pid c).After-row_number) c.loop-index.live
    had c.in_err-pid.field-0.0 (c.in_err-pid.ensures tables (take c.loop-index.index rows) among had.are.pids memory))

pub returns-in_err-insert : goal.returns-in_err-insert
returns-in_err-insert c = λ tables among. passed_on _ _ _ NoMemory c.from_residual-in_err-insert.ensures (λ memory. absurd (memory refl))
