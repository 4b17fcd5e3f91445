use Rattle.std.proofs.Common.{◌∙◌, length, ap, arith}
use Rattle.std.proofs.lemmas.List.{take_rest}
use Rattle.cg_help.specs.Modes.{is_written}
use Rattle.cg_help.proofs.MarkLaws.{unwritten}
use Rattle.cg_help.proofs.modes.from_letter.Goals as goal

pub returns-in-Some-clause-same : goal.returns-in-Some-clause-same
returns-in-Some-clause-same c =
    ap is_written (take_rest c.args.text.now c.in-Some.at)
    ∙ unwritten c.args.text.now c.in-Some.at (λ k less. c.in-Some.ensures.0.before k (omega arith) less)

pub returns-in-None-clause-same : goal.returns-in-None-clause-same
returns-in-None-clause-same c =
    ap is_written (take_rest c.args.text.now (length c.args.text.now))
    ∙ unwritten c.args.text.now (length c.args.text.now) (λ k less. c.in-None.ensures k (omega arith) less)
