-- Each row is stepped to once, in order, and the walk's end is the law of its entries and that of its faults.
use Rattle.std.proofs.Common.{◌≡◌, List, map-id, sym, subst, ◌∙◌, rules}
use Rattle.std.proofs.lemmas.Iterator.Consumers.{YieldsList-so_far, YieldsList-turn, YieldsList-end}
use Rattle.std.proofs.lemmas.Iterator.Adapters.{YieldsList-from_vec}
use Rattle.cg_text.specs.Walk.{HasMet}
use Rattle.cg_text.specs.declared.tree.row.Row.{Row}
use Rattle.cg_text.proofs.EntriesLaws.{next_in_order}
use Rattle.cg_text.proofs.WalkEnd.{walked_is}
use Rattle.cg_text.proofs.tree.walk.walked.Goals as goal

pub loop-row-preserved : goal.loop-row-preserved
loop-row-preserved c =
    let rows : List Row = c.sort.new.rows.items in
    let met : List Row = c.loop-row.yielded in
    let at = c.loop-row.row-iterator in
    let yields = YieldsList-from_vec {s = c.into_iter-row-iterator.result} rows (search rules) (search rules) in
    let turn =
    YieldsList-turn yields met at c.loop-row.yielded_by c.next.result c.next.new.self c.in-Some.row c.in-Some.is c.next.ensures.steps in
    let front = sym (map-id met) ∙ YieldsList-so_far yields met at c.loop-row.yielded_by in
    c.in_ok-step.ensures met c.loop-row.invariant (next_in_order rows met c.in-Some.row c.in_ok-sort.ensures.order front turn.0 turn.1)

pub returns : goal.returns
returns c = λ format tables read.
    let rows : List Row = c.sort.new.rows.items in
    let some : List Row = c.loop-row.yielded in
    let at = c.loop-row.row-iterator in
    let yields = YieldsList-from_vec {s = c.into_iter-row-iterator.result} rows (search rules) (search rules) in
    let all = YieldsList-end yields some at c.loop-row.yielded_by c.next.result c.next.new.self c.in-None.is c.next.ensures.steps in
    let whole : some ≡ rows = sym (map-id some) ∙ all.0 in
    let met = subst (λ (some : List Row). HasMet c.args.controllers some c.loop-row.walk) whole c.loop-row.invariant in
    walked_is format c.args.controllers tables c.args.rows.items rows c.loop-row.walk c.end.result read
    c.in_ok-sort.ensures.order c.sort.ensures.stable met c.end.ensures
