use Rattle.std.proofs.Common.{◌∙◌, ap, map, [], ◌∷◌}
use Rattle.std.proofs.lemmas.List.{map-append}
use Rattle.arguments.specs.Given.{ids_of_pair}
use Rattle.commands.proofs.PairLaws.{line_pair}
use Rattle.commands.proofs.pairs.push_line.Goals as goal

pub returns-clause-pairs : goal.returns-clause-pairs
returns-clause-pairs c =
    let pair = c.in_ok-pair_at.field-0 in (
      ids_of_pair pair ∷ [],
      line_pair c.args.done c.args.line.now c.in-Some.words.now (ids_of_pair pair) c.in-Some.ensures.cases.0
          c.in-Some.ensures.cases.1 c.in_ok-pair_at.ensures.pair,
      ap (map ids_of_pair) c.in_ok-push.ensures.items ∙ map-append ids_of_pair c.args.pairs.now.items (pair ∷ []),
    )
