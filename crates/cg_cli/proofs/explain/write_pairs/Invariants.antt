use Rattle.std.proofs.Common.{map, take}
use Rattle.cg_advice.specs.Ways.{pair_of}
use Rattle.cg_cli.specs.Formats.{told_in}
use Rattle.cg_cli.proofs.Explaining.{Told}
use Rattle.cg_cli.proofs.explain.write_pairs.Given as goal

-- the pairs before this one are told
abbrev pub invariant-loop-pair : goal.invariant-loop-pair
invariant-loop-pair g l =
    Told (told_in l.format) (g.H.Hierarchy.state l.tree) (map pair_of (take l.pair-index l.pairs)) (g.W.Write.contents l.initial.out)
    (g.W.Write.contents l.out) l.worst
