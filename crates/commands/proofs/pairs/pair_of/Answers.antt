use Rattle.commands.proofs.PairLaws.{no_text, pair_read}
use Rattle.arguments.specs.Given.{ids_of_pair}
use Rattle.commands.proofs.pairs.pair_of.Goals as goal

pub returns-in_default : goal.returns-in_default
returns-in_default c = λ _. no_text c.args.words.now c.in_default.ensures.cases.0

pub returns-in-Ok-parse : goal.returns-in-Ok-parse
returns-in-Ok-parse c =
    pair_read c.args.words.now c.in-Ok.words.now (ids_of_pair c.in_ok-pair.pair) c.in-Ok-parse.field-0 c.in-Ok.ensures.cases.0
    c.in-Ok.ensures.cases.1 c.in_ok-pair.ensures c.in-Ok-parse.ensures.value
