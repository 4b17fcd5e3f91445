use Rattle.std.proofs.Common.{sym}
use Rattle.cg_lines.proofs.OutcomeLaws.{bars_shown}
use Rattle.cg_cli.proofs.may.permission.Goals as goal

pub outcome_text-requires : goal.outcome_text-requires
outcome_text-requires g c =
    bars_shown (g.H.Hierarchy.state c.args.tree.now) c.args.user.now c.args.op.now c.in-Some.refusal (sym c.in-Some.ensures)
