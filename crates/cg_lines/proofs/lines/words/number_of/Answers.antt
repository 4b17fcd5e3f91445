-- A sign or a leading zero is seen at the first byte, and is in no number's text; what is left is what `parse` reads.
use Rattle.std.proofs.Common.{sym, ◌∙◌, arith, lit<}
use Rattle.std.proofs.lemmas.Bool.{both_ways}
use Rattle.std.proofs.lemmas.Str.Pattern.{starts_char}
use Rattle.cg_lines.proofs.LineNumbers.{number_plus, number_zero, number_parsed}
use Rattle.cg_lines.proofs.lines.words.number_of.Goals as goal
use Rattle.cg_lines.proofs.lines.words.number_of.Goals.{else-word-gt1-via-then-word-gt1+else-starts_with-2, else-word-gt1-via-else-word-gt1}

pub returns-then-starts_with : goal.returns-then-starts_with
returns-then-starts_with c =
    let first = starts_char 43 c.args.word.now c.starts_with.result c.starts_with.ensures.cases (lit< tt) (lit< tt) in
    sym (number_plus c.args.word.now (first.0 c.if-starts_with.true))

pub returns-then-starts_with-2 : goal.returns-then-starts_with-2
returns-then-starts_with-2 c =
    let first =
    starts_char 48 c.args.word.now c.starts_with-then-word-gt1.result c.starts_with-then-word-gt1.ensures.cases (lit< tt) (lit< tt) in
    sym (number_zero c.args.word.now (first.0 c.if-starts_with-2.true) (omega arith))

pub returns : goal.returns
returns c =
    let first = starts_char 43 c.args.word.now c.starts_with.result c.starts_with.ensures.cases (lit< tt) (lit< tt) in
    c.ok.ensures.value
    ∙ number_parsed c.args.word.now c.parse.result (λ e. both_ways c.starts_with.result c.if-starts_with.false (first.1 e))
    (λ e. elim c.else-word-gt1.branch [
      | else-word-gt1-via-then-word-gt1+else-starts_with-2 w ↦
          let zero =
          starts_char 48 c.args.word.now w.starts_with-then-word-gt1.result w.starts_with-then-word-gt1.ensures.cases (lit< tt)
          (lit< tt) in
          absurd (both_ways w.starts_with-then-word-gt1.result w.if-starts_with-2.false (zero.1 e))
      | else-word-gt1-via-else-word-gt1 w ↦ omega arith
    ]) c.parse.ensures.value.0
