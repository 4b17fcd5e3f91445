use Rattle.std.proofs.Common.{◌≡◌, ◌≤◌, false, cond, Some, None, string_bytes, ap, sym, subst, ◌∙◌}
use Rattle.std.proofs.lemmas.Str.{IsUtf8-string_bytes, is_utf8-from_IsUtf8}
use Rattle.toml.specs.Data.{Members, members_depth}
use Rattle.toml.specs.Parse.{parse_document}
use Rattle.toml.specs.Text.{IsDocumentText}
use Rattle.cg_format.specs.TreeTexts.{document_of}
use Rattle.cg_print.specs.Documents.{tree_document, IsSpelled}
use Rattle.cg_print.proofs.LowDocuments.{tree_depth}
use Rattle.cg_print.proofs.DocumentBack.{text_back}
use Rattle.cg_print.proofs.tree.tree_text.Goals as goal

pub returns-in-Ok : goal.returns-in-Ok
returns-in-Ok g c =
    let st = g.H.Hierarchy.state c.args.tree.now in
    let vocabulary = c.args.vocabulary in
    let text = string_bytes c.in-Ok.text in
    let written = c.in_ok-document.ensures.written in
    let low : members_depth (tree_document vocabulary st) ≤ 80 = tree_depth vocabulary st in
    let read : parse_document text ≡ Some (tree_document vocabulary st) =
    c.in-Ok.ensures.reads_back (subst (λ (keys : Members). members_depth keys ≤ 80) (sym written) low) ∙ ap Some written in
    let same = ap (λ bytes. bytes.items) c.into_bytes.ensures.value in
    let parsed : document_of c.into_bytes.result.items ≡ Some (tree_document vocabulary st) =
    ap document_of same ∙ ap (λ b. cond b (parse_document text) None) (is_utf8-from_IsUtf8 text (IsUtf8-string_bytes c.in-Ok.text))
    ∙ read in
    let spelled : IsSpelled vocabulary st text = subst (λ (keys : Members). IsDocumentText false keys text) written c.in-Ok.ensures.text in
    record {
      document = parsed;
      spelled = subst (IsSpelled vocabulary st) (sym same) spelled;
      state = λ carried short. text_back c.into_bytes.result.items vocabulary st parsed c.in_ok-document.ensures.kept carried short;
    }
