use Rattle.std.proofs.Common.{◌≡◌, ◌≤◌, length, option_and_then, Some, Ok, Err, sym, ap, subst, ◌∙◌}
use Rattle.std.specs.Option.{option_map_or}
use Rattle.std.proofs.lemmas.Result.{err_from_is_err_and}
use Rattle.toml.specs.View.{table_view}
use Rattle.cg_cgroup.specs.declared.files.Vocabulary.TheVariants.{Format2}
use Rattle.cg_format.specs.Form.{vocabulary}
use Rattle.cg_format.specs.Said.{format_said}
use Rattle.cg_format.specs.TreeTexts.{longest_text, document_of}
use Rattle.cg_text.proofs.DocumentInTurn.{document_read, text_read}
use Rattle.cg_text.proofs.tree.read_text.Goals as goal
use Rattle.cg_text.proofs.tree.read_text.Goals.{In_ok-document}

short : (c : In_ok-document) → length c.args.bytes.now ≤ longest_text c.args.bytes.now
short c = subst (λ most. length c.args.bytes.now ≤ most) c.longest_text.ensures c.if-bytes-longest_text.false

parsed : (c : In_ok-document) → document_of c.args.bytes.now ≡ Some (table_view c.in_ok-document.document)
parsed c = document_read _ (table_view c.in_ok-document.document) c.in_ok-document.ensures

pub returns-in_err-rows-clause-read : goal.returns-in_err-rows-clause-read
returns-in_err-rows-clause-read c =
    let at = (goal.at.returns-in_err-rows-clause-read c).In_ok-document in
    let p = err_from_is_err_and c.from_residual-in_err-rows.result c.from_residual-in_err-rows.ensures.1 in
    rw (p.1, p.2)
    (text_read c.args.bytes.now (table_view c.in_ok-document.document) (Err c.in_err-rows.field-0.0) (short at) (parsed at)
    c.in_err-rows.ensures)

pub returns-clause-read : goal.returns-clause-read
returns-clause-read c =
    let at = (goal.at.returns-clause-read c).In_ok-document in
    text_read c.args.bytes.now (table_view c.in_ok-document.document) (Ok c.in_ok-rows.rows) (short at) (parsed at) c.in_ok-rows.ensures

pub returns-clause-vocabulary : goal.returns-clause-vocabulary
returns-clause-vocabulary c =
    let at = (goal.at.returns-clause-vocabulary c).In_ok-document in
    c.vocabulary_at-vocabulary.ensures
    ∙ ap (λ found. option_map_or vocabulary (option_and_then format_said found) Format2) (sym (parsed at))
