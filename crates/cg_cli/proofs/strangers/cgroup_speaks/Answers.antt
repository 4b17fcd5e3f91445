use Rattle.cg_cli.proofs.StrangerLaws.{in_cgroup, by_first, by_second}
use Rattle.cg_cli.proofs.strangers.cgroup_speaks.Goals as goal

pub returns-then-any_standing_speaks : goal.returns-then-any_standing_speaks
returns-then-any_standing_speaks c =
    by_first _ _ _ c.any_standing_speaks.result (in_cgroup c.args.cgroup.now c.args.user.now) c.any_standing_speaks.ensures
    c.if-any_standing_speaks.true

pub returns-else-any_standing_speaks : goal.returns-else-any_standing_speaks
returns-else-any_standing_speaks c =
    by_second _ _ _ c.any_standing_speaks.result c.any_file_speaks.result (in_cgroup c.args.cgroup.now c.args.user.now)
    c.any_standing_speaks.ensures c.if-any_standing_speaks.false c.any_file_speaks.ensures
