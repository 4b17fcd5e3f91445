use Rattle.std.proofs.Common.{◌≡◌, ◌++◌, take}
use Rattle.std.specs.List.{flat_map}
use Rattle.std.specs.Prelude.{string_bytes}
use Rattle.cg_report.specs.PairLines.{next_gid}
use Rattle.cg_report.proofs.pair.push_others.Given as goal

abbrev pub invariant-loop-gid : goal.invariant-loop-gid
invariant-loop-gid l = string_bytes l.text ≡ string_bytes l.fn.text ++ flat_map next_gid (take l.gid-index l.gids)
