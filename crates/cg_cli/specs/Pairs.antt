-- A pair of a user and a subtree, as a call is given it. Own.
use Rattle.std.specs.Prelude.{ℕ, List}
use Rattle.cg_cli.specs.declared.pairs.PairIds.{PairIds}

abbrev pub pair_given : PairIds → (ℕ × List ℕ) × List ℕ
pair_given pair = ((pair.user.uid, pair.user.gids.now), pair.subtree.now)
