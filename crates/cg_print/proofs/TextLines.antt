-- The lines of a further limit file's value are said as they are written.
use Rattle.std.proofs.Common.{◌≡◌, ℕ, true, List, [], ◌∷◌, map, Some, refl, ap, ◌∙◌}
use Rattle.std.specs.Prelude.{◌==◌, filter_map}
use Rattle.std.specs.List.{slice_split}
use Rattle.toml.specs.Data.{string, as_str}
use Rattle.toml.specs.View.{items_of}
use Rattle.cg_cgroup.specs.declared.told.FileText.{FileText}
use Rattle.cg_format.specs.Form.{elements}
use Rattle.cg_format.specs.Said.{lines_text, text_of}
use Rattle.cg_format.proofs.ValueLines.{lines_again}
use Rattle.cg_print.specs.Documents.{lines_written, text_written}
use Rattle.cg_print.specs.Carried.{is_value_text}

pub texts_again : (texts : List (List ℕ)) → filter_map as_str (elements (items_of (map string texts))) ≡ texts
texts_again [] = refl
texts_again (text ∷ texts) = ap (λ rest. text ∷ rest) (texts_again texts)

said_again : (lines : List (List ℕ)) → text_of (lines_written lines) ≡ lines_text lines
said_again [] = refl
said_again (line ∷ []) = refl
said_again (line ∷ next ∷ lines) = ap lines_text (texts_again (line ∷ next ∷ lines))

pub text_again : (text : FileText) → is_value_text text ≡ true → text_of (text_written text) ≡ Some text
text_again text may = said_again (slice_split (λ b. b == 10) text) ∙ lines_again text may
