use Rattle.std.proofs.Common.{◌≡◌, map}
use Rattle.toml.specs.Data.{string}
use Rattle.toml.specs.View.{view}
use Rattle.cg_print.proofs.told.line_values.Given as goal

abbrev pub invariant-loop-line : goal.invariant-loop-line
invariant-loop-line l = map view l.values.items ≡ map string (map (λ line. line.now) l.yielded)
