use Rattle.std.proofs.Common.{map, filter_map}
use Rattle.std.specs.BTreeMap.{keys}
use Rattle.std.specs.BTreeSet.{IsFromIterResult}
use Rattle.std.specs.Ordering.{nat_cmp}
use Rattle.std.proofs.lemmas.Iterator.Consumers.{YieldsList-from_copied, YieldsList-from_rest}
use Rattle.std.proofs.lemmas.Iterator.Adapters.{fact_from_collect}
use Rattle.std.proofs.lemmas.Result.{IfOk-at_ok}
use Rattle.toml.specs.Data.{as_table}
use Rattle.toml.specs.View.{view}
use Rattle.cg_text.proofs.LiveLaws.{are_processes}
use Rattle.cg_text.proofs.tree.processes.processes_of.Goals as goal

pub returns : goal.returns
returns c = λ tables among.
    let live = c.in_ok-live.live in
    let read = c.in_ok-live.ensures tables among in
    let of_keys = fact_from_collect (λ items made. IsFromIterResult nat_cmp items made) c.collect.result c.collect.ensures.ran
    (YieldsList-from_copied (YieldsList-from_rest (keys live) cc)) in
    let made : IsFromIterResult nat_cmp (keys live) c.in_ok-used.used =
    IfOk-at_ok (λ made. IsFromIterResult nat_cmp (keys live) made) c.in_ok-used.was of_keys in (
      read.0,
      are_processes (filter_map as_table (map view c.args.elements.now)) live c.in_ok-used.used c.from_maps.result read.1
          c.from_maps.ensures.live c.from_maps.ensures.used made,
    )
