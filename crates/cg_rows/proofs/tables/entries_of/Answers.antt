use Rattle.std.proofs.Common.{◌≡◌, IfOk, subst}
use Rattle.std.proofs.lemmas.Iterator.{items_from_collect}
use Rattle.std.proofs.lemmas.Iterator.Consumers.{YieldsList-from_rest}
use Rattle.cg_rows.proofs.Changed.{sorted_map}
use Rattle.cg_rows.proofs.tables.entries_of.Goals as goal

pub returns-clause-sorted : goal.returns-clause-sorted
returns-clause-sorted g c =
    let items =
    items_from_collect c.collect.result c.collect.ensures.ran
    (YieldsList-from_rest c.args.map.entries c.into_iter.ensures.into_iter_gives.0) in
    let same = subst (λ r. IfOk r (λ v. v.items ≡ c.args.map.entries)) c.in_ok-collect.was items in
    sorted_map _ _ _ same c.into_iter.ensures.into_iter_gives.5
