use Rattle.std.proofs.Common.{ap, sym, ◌∙◌, ◌++◌, append-nil}
use Rattle.std.proofs.lemmas.List.Elements.{same_from_all_zip}
use Rattle.std.specs.Cmp.{nat_cmp_total}
use Rattle.std.specs.FinMap as map
use Rattle.std.specs.FinSet as set
use Rattle.std.specs.Map.Iter.{deref_pair}
use Rattle.std.specs.BTreeMap.{insert_entry}
use Rattle.std.specs.Ordering.{nat_cmp}
use Rattle.std.proofs.lemmas.Map.Iter.{rest_more, rest_all}
use Rattle.cg_rows.proofs.StdMaps.{copied_more}
use Rattle.cg_rows.proofs.processes.Processes.try_clone.Goals as goal

pub loop-pid-preserved-in_ok-insert : goal.loop-pid-preserved-in_ok-insert
loop-pid-preserved-in_ok-insert c =
    copied_more nat_cmp_total c.loop-pid.live.entries _ c.loop-pid.pid-iterator c.next.new.self c.in-Some.pid.now c.in-Some.process.now _
    c.loop-pid.invariant
    (rest_more deref_pair _ _ _ (c.in-Some.pid, c.in-Some.process) c.in-Some.is c.next.ensures.steps)
    c.into_iter-pid-iterator.ensures.into_iter_gives.5
    (c.in_ok-insert.ensures.entries ∙ ap (insert_entry nat_cmp c.loop-pid.live.entries c.in-Some.pid.now) c.in_ok-try_clone.ensures)

pub loop-pid-preserved : goal.loop-pid-preserved
loop-pid-preserved c =
    copied_more nat_cmp_total c.loop-pid.live.entries _ c.loop-pid.pid-iterator c.next.new.self c.in-Some.pid.now c.in-Some.process.now _
    c.loop-pid.invariant
    (rest_more deref_pair _ _ _ (c.in-Some.pid, c.in-Some.process) c.in-Some.is c.next.ensures.steps)
    c.into_iter-pid-iterator.ensures.into_iter_gives.5
    (c.in_ok-insert.ensures.entries ∙ ap (insert_entry nat_cmp c.loop-pid.live.entries c.in-Some.pid.now) c.in_ok-try_clone.ensures)

pub returns : goal.returns
returns c =
    let live =
    sym (append-nil c.loop-pid.live.entries)
    ∙ ap (λ rest. c.loop-pid.live.entries ++ rest) (sym (rest_all deref_pair _ _ _ c.in-None.is c.next.ensures.steps))
    ∙ c.loop-pid.invariant in
    let used = same_from_all_zip _ _ _ c.in_ok-clone.ensures.cases (λ x y h. h) in
    (λ i. record { live = map.from_entries (live i); used = set.from_list (used i) }) ∙ c.self.view_is
