use Rattle.std.proofs.Common.{Ok, map, ap, sym, ◌∙◌}
use Rattle.std.proofs.lemmas.Result.{err_from_is_err_and}
use Rattle.arguments.specs.Given.{ids_of_pair}
use Rattle.commands.proofs.PairLaws.{mapped_none, pairs_asked, nobody_asked}
use Rattle.commands.proofs.pairs.read_pairs.Goals as goal

pub returns-in_err-test_asked-clause-pairs : goal.returns-in_err-test_asked-clause-pairs
returns-in_err-test_asked-clause-pairs c =
    let p = err_from_is_err_and c.from_residual-in_err-test_asked.result c.from_residual-in_err-test_asked.ensures.1 in
    let told = c.in_err-test_asked.ensures.asked in
    let none = ap (λ pairs. Ok (map ids_of_pair pairs)) (sym c.as_slice.ensures.value ∙ told.1) in
    rw (p.1, p.2, told.0) (λ _. nobody_asked c.args.text.now (c.in_ok-pairs.ensures.pairs ∙ none) told.2)

pub returns-clause-pairs : goal.returns-clause-pairs
returns-clause-pairs c =
    pairs_asked c.args.text.now (map ids_of_pair c.in_ok-pairs.pairs.items) c.in_ok-pairs.ensures.pairs
    (λ none. c.in_ok-test_asked.ensures.asked (mapped_none ids_of_pair c.as_slice.result.now
    (ap (map ids_of_pair) c.as_slice.ensures.value ∙ none)))
