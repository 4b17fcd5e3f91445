use Rattle.std.proofs.Common.{arith}
use Rattle.cg_cgroup.proofs.path.names.after_last_slash.Goals as goal

pub loop-len-init : goal.loop-len-init
loop-len-init c = ((omega arith, omega arith), λ k above near inside. absurd (omega arith))
