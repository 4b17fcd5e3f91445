-- Bytes and the documents that they are.
use Rattle.std.proofs.Common.{◌≡◌, ℕ, true, false, cond, List, refl, ap, ◌∙◌, Some, None}
use Rattle.std.proofs.lemmas.Str.{IsUtf8-from_is_utf8, is_utf8-from_IsUtf8}
use Rattle.std.specs.Str.{IsUtf8, is_utf8}
use Rattle.toml.specs.Data.{Members}
use Rattle.toml.specs.Parse.{parse_document}
use Rattle.cg_format.specs.TreeTexts.{document_of}

pub document_is : (bytes : List ℕ) (document : Members) → IsUtf8 bytes × (parse_document bytes ≡ Some document)
    → document_of bytes ≡ Some document
document_is bytes document is = ap (λ b. cond b (parse_document bytes) None) (is_utf8-from_IsUtf8 bytes is.0) ∙ is.1

pub no_document : (bytes : List ℕ) → (IsUtf8 bytes → parse_document bytes ≡ None) → document_of bytes ≡ None
no_document bytes refused =
    elim (is_utf8 bytes) as (λ b. is_utf8 bytes ≡ b → cond b (parse_document bytes) None ≡ None) [
      | true ↦ λ is. refused (IsUtf8-from_is_utf8 bytes is)
      | false ↦ λ is. refl
    ] refl
