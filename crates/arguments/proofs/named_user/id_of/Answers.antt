-- A plus sign is seen at the first byte, and is in no id; of what is left `parse` gives the id.
use Rattle.std.proofs.Common.{◌≡◌, refl, lit<}
use Rattle.std.specs.Result.{result_ok}
use Rattle.std.proofs.lemmas.Bool.{both_ways}
use Rattle.std.proofs.lemmas.Str.Pattern.{starts_char}
use Rattle.arguments.specs.UserWords.{id_at}
use Rattle.arguments.proofs.UserWordLaws.{id_plus, id_parsed}
use Rattle.arguments.proofs.named_user.id_of.Goals.{After-parse}
use Rattle.arguments.proofs.named_user.id_of.Goals as goal

pub returns-then-starts_with : goal.returns-then-starts_with
returns-then-starts_with c =
    let first = starts_char 43 c.args.word.now c.starts_with.result c.starts_with.ensures.cases (lit< tt) (lit< tt) in
    rw (id_plus c.args.word.now (first.0 c.if-starts_with.true)) refl

parsed : (c : After-parse) → result_ok c.parse.result ≡ id_at c.args.word.now
parsed c =
    let first = starts_char 43 c.args.word.now c.starts_with.result c.starts_with.ensures.cases (lit< tt) (lit< tt) in
    id_parsed c.args.word.now c.parse.result (λ e. both_ways c.starts_with.result c.if-starts_with.false (first.1 e))
    c.parse.ensures.value.0

pub returns-in-Ok : goal.returns-in-Ok
returns-in-Ok c = rw (← parsed (goal.at.returns-in-Ok c).After-parse, c.in-Ok.is) refl

pub returns-in-Err : goal.returns-in-Err
returns-in-Err c = rw (← parsed (goal.at.returns-in-Err c).After-parse, c.in-Err.is) refl
