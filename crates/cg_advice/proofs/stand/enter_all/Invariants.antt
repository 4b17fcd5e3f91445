use Rattle.std.proofs.Common.{map, take}
use Rattle.cg_advice.specs.Ways.{entering}
use Rattle.cg_advice.specs.Thinned.{AreMet, spot_of}
use Rattle.cg_advice.proofs.stand.enter_all.Given as goal

abbrev pub invariant-loop-place : goal.invariant-loop-place
invariant-loop-place l =
    AreMet l.user (map entering l.fn.found.items) (map entering l.found.items) l.fn.stands l.stands
    (take l.place (map spot_of l.fn.stands))
