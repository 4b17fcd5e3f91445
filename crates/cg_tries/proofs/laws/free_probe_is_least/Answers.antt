use Rattle.cg_tries.proofs.FreeProbes.{probe-found, probe-free, probe-least}
use Rattle.cg_tries.proofs.laws.free_probe_is_least.Goals as goal

pub returns : goal.returns
returns c = record { found = probe-found; free = probe-free; least = probe-least }
