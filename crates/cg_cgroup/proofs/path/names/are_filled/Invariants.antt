use Rattle.std.proofs.Common.{◌≡◌, ◌==◌, ◌&&◌, false, drop}
use Rattle.std.specs.Prelude.{not}
use Rattle.cg_cgroup.proofs.Words.{filled_from}
use Rattle.cg_cgroup.proofs.path.names.are_filled.Given as goal

abbrev pub invariant-loop-byte : goal.invariant-loop-byte
invariant-loop-byte l = (l.good && filled_from (not (l.before == 47)) (drop l.byte-index l.text)) ≡ filled_from false l.text
