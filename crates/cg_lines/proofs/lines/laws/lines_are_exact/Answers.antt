use Rattle.std.proofs.Common.{ap, ◌∙◌}
use Rattle.cg_lines.specs.LineReading.{operation_at}
use Rattle.cg_lines.proofs.LineLaws.{line_takes, line_again}
use Rattle.cg_lines.proofs.lines.laws.lines_are_exact.Goals as goal

pub returns : goal.returns
returns c =
    λ vocabulary line op.
    (line_takes vocabulary line op, λ held. ap (operation_at vocabulary) held.1 ∙ line_again vocabulary op held.0)
