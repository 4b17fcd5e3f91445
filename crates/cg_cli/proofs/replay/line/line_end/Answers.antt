use Rattle.std.proofs.Common.{◌≡◌, false, rules, arith}
use Rattle.std.proofs.lemmas.Bool.Decides.{nat_tests}
use Rattle.std.proofs.lemmas.List.Elements.{All-more}
use Rattle.cg_cli.specs.Replays.{is_newline}
use Rattle.cg_cli.proofs.replay.line.line_end.Goals as goal

pub loop-i-preserved : goal.loop-i-preserved
loop-i-preserved c =
    All-more (λ b. is_newline b ≡ false) _ _ 0 (search rules) c.loop-i.invariant (grind (arith, nat_tests))
