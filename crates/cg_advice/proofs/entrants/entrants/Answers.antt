use Rattle.std.proofs.Common.{sym, subst, refl, map, take, length, slice_set, arith, ◌<◌}
use Rattle.std.specs.Vec.{with_items}
use Rattle.cg_advice.specs.Ways.{pair_of, entering}
use Rattle.std.proofs.lemmas.List.{length-map}
use Rattle.std.proofs.lemmas.Option.{slice_get_within}
use Rattle.cg_advice.specs.Thinned.{table_path, HaveEntered}
use Rattle.cg_advice.specs.declared.table.Table.{Table}
use Rattle.cg_advice.proofs.Gathering.{one_more}
use Rattle.cg_advice.proofs.Thinning.{path_at, length_met, met_written, pair_met}
use Rattle.cg_advice.proofs.entrants.entrants.Goals as goal

pub loop-pair-preserved : goal.loop-pair-preserved
loop-pair-preserved g c =
    let st = g.H.Hierarchy.state c.args.tree.now in
    let pairs = map pair_of (take c.loop-pair.pair-index c.args.pairs.now) in
    let pair = pair_of c.pair-item.result in
    let found = map entering c.loop-pair.entrants.items in
    let more = map entering c.enter_all.new.found.items in
    let tables = c.place_of.new.tables.items in
    let table = c.index_mut-table.result.now in
    let stands = c.enter_all.new.stands in
    let after : Table = record { subtree = table.subtree; stands = with_items table.stands stands } in
    let old = c.as_mut_slice.result.now in
    let longer = length_met pair.user found more old stands _ c.in_ok-enter_all.ensures in
    let there = slice_get_within (map table_path tables) c.in_ok-place.place pair.subtree c.in_ok-place.ensures.place in
    let within : c.in_ok-place.place < length tables = omega (arith, there, length-map tables table_path) in
    subst (λ named. HaveEntered st named more (slice_set tables c.in_ok-place.place after))
    (sym (one_more pair_of c.args.pairs.now c.loop-pair.pair-index c.pair-item.result c.loop-pair-test.true c.pair-item.is))
    (pair_met st pairs pair found more tables c.in_ok-place.place table after within c.index_mut-table.ensures.value
    (path_at tables c.in_ok-place.place pair.subtree c.in_ok-place.ensures.place table c.index_mut-table.ensures.value) refl
    c.loop-pair.invariant.thinned (c.in_ok-place.ensures.tables found c.loop-pair.invariant.formed)
    (c.in_ok-place.ensures.named (map (λ pair. pair.subtree) pairs) c.loop-pair.invariant.named)
    (met_written pair.user found more table old stands c.as_mut_slice.ensures.value
    (omega (arith, longer, c.as_mut_slice.ensures.len)) c.in_ok-enter_all.ensures))
