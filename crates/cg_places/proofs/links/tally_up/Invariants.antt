use Rattle.std.proofs.Common.{◌≡◌, ◌-◌}
use Rattle.cg_places.specs.Links.{tallied_up}
use Rattle.cg_places.proofs.links.tally_up.Given as goal

abbrev pub invariant-loop-done : goal.invariant-loop-done
invariant-loop-done l = tallied_up l.tally l.links l.at (l.count - l.done) ≡ tallied_up l.tally l.fn.links l.fn.start l.fn.count
