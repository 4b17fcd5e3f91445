use Rattle.std.proofs.Common.{◌≡◌, ◌++◌, map, take}
use Rattle.cg_advice.specs.Ways.{pair_of}
use Rattle.cg_cli.specs.Advising.{pair_with}
use Rattle.cg_cli.proofs.advise.push_pairs.Given as goal

abbrev pub invariant-loop-subtree : goal.invariant-loop-subtree
invariant-loop-subtree l =
    map pair_of l.pairs.items ≡ map pair_of l.fn.pairs.items ++ map (pair_with l.user) (take l.subtree-index l.subtrees)
