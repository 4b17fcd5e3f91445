-- A word that begins with neither sign is no change.
use Rattle.std.proofs.Common.{List, ℕ, ◌++◌, sym, ap, ◌∙◌, lit<}
use Rattle.std.proofs.lemmas.Str.{encode_ascii}
use Rattle.cg_lines.proofs.LineChanges.{change_none}
use Rattle.cg_lines.proofs.lines.words.change_of.Goals as goal

pub returns-in_err-strip_prefix-in-None : goal.returns-in_err-strip_prefix-in-None
returns-in_err-strip_prefix-in-None c =
    let plus = λ (rest : List ℕ). sym (ap (λ (sign : List ℕ). sign ++ rest) (encode_ascii 43 (lit< tt))) in
    let minus = λ (rest : List ℕ). sym (ap (λ (sign : List ℕ). sign ++ rest) (encode_ascii 45 (lit< tt))) in
    c.from_residual.ensures
    ∙ sym (change_none c.args.vocabulary c.args.word.now
    (λ rest e. c.in-None.ensures.cases rest (e ∙ plus rest))
    (λ rest e. c.in_err-strip_prefix-in-None.ensures.cases rest (e ∙ minus rest)))
