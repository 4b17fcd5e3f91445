use Rattle.std.proofs.Common.{ap}
use Rattle.std.specs.Prelude.{slice_set}
use Rattle.cg_cgroup.proofs.ControllerLaws.{flag_set}
use Rattle.cg_cgroup.proofs.controllers.ControllerSet.with.Goals as goal

pub returns : goal.returns
returns c =
    flag_set c.args.self _ c.args.controller c.args.on
    (ap (λ number. slice_set c.args.self.flags number c.args.on) c.number.ensures.number)
