-- The lines of a value of a limit file beyond `LimitFile`, as a loop over elements puts them together.
use Rattle.std.proofs.Common.{◌≡◌, ℕ, ◌+◌, ◌<◌, Bool, true, false, ◌&&◌, cond, List, [], ◌∷◌, ◌++◌, length, get_or, drop, drop-cons, add-one, append_assoc, map, filter_map, Option, Some, None, refl, sym, ap, ◌∙◌}
use Rattle.std.specs.List.{list_all, cons_option, join_with_byte}
use Rattle.toml.specs.Data.{as_str}
use Rattle.toml.specs.View.{view}
use Rattle.toml.specs.declared.value.Value.{Value}
use Rattle.cg_cgroup.specs.declared.told.FileText.{FileText}
use Rattle.cg_format.specs.Said.{is_text_line, lines_text}
use Rattle.cg_text.specs.Rows.{line_added}

-- the texts of elements from one on, by whether it is one
pub texts_from : (elements : List Value) (i : ℕ) (item : Value) → i < length elements → item ≡ get_or elements i item
    → (text : Option (List ℕ)) → as_str (view item) ≡ text
    → filter_map as_str (map view (drop i elements)) ≡ cons_option text (filter_map as_str (map view (drop (i + 1) elements)))
texts_from elements i item within is text so =
    ap (λ rest. filter_map as_str (map view rest))
    (drop-cons elements i item within ∙ (λ j. sym is j ∷ drop (sym (add-one i) j) elements))
    ∙ ap (λ found. cons_option found (filter_map as_str (map view (drop (i + 1) elements)))) so

-- a text so far, and the lines that are left
abbrev pub lines_from : Bool → List ℕ → List (List ℕ) → Option FileText
lines_from true text [] = None
lines_from false text [] = Some text
lines_from is_first text (line ∷ lines) = cond (is_text_line line) (lines_from false (line_added is_first text line) lines) None

moved : (text line : List ℕ) (lines : List (List ℕ))
    → join_with_byte 10 ((text ++ 10 ∷ line) ∷ lines) ≡ join_with_byte 10 (text ∷ line ∷ lines)
moved text line [] = refl
moved text line (next ∷ lines) = append_assoc text (10 ∷ line) (10 ∷ join_with_byte 10 (next ∷ lines))

behind : (text : List ℕ) (lines : List (List ℕ))
    → lines_from false text lines ≡ cond (list_all is_text_line lines) (Some (join_with_byte 10 (text ∷ lines))) None
behind text [] = refl
behind text (line ∷ lines) =
    elim (is_text_line line) as
    (λ b. cond b (lines_from false (text ++ 10 ∷ line) lines) None
    ≡ cond (b && list_all is_text_line lines) (Some (join_with_byte 10 (text ∷ line ∷ lines))) None) [
      | true ↦
          behind (text ++ 10 ∷ line) lines
          ∙ ap (λ joined. cond (list_all is_text_line lines) (Some joined) None) (moved text line lines)
      | false ↦ refl
    ]

pub all_lines : (lines : List (List ℕ)) → lines_from true [] lines ≡ lines_text lines
all_lines [] = refl
all_lines (line ∷ lines) =
    elim (is_text_line line) as
    (λ b. cond b (lines_from false line lines) None
    ≡ cond (b && list_all is_text_line lines) (Some (join_with_byte 10 (line ∷ lines))) None) [
      | true ↦ behind line lines
      | false ↦ refl
    ]

-- ---- at the next element

module _ (elements : List Value) (i : ℕ) (item : Value) (within : i < length elements) (is : item ≡ get_or elements i item)
    (is_first : Bool) (text : List ℕ) (said : Option FileText)
    (had : lines_from is_first text (filter_map as_str (map view (drop i elements))) ≡ said) where
  abbrev left : List (List ℕ)
  left = filter_map as_str (map view (drop (i + 1) elements))

  -- it is no text
  pub line_skipped : (first : Bool) (new : List ℕ) → first ≡ is_first → new ≡ text → as_str (view item) ≡ None
      → lines_from first new left ≡ said
  line_skipped first new same same_text so =
      (λ j. lines_from (same j) (same_text j) left)
      ∙ (ap (lines_from is_first text) (sym (texts_from elements i item within is None so)) ∙ had)

  -- it is a line
  module _ (line : List ℕ) (so : as_str (view item) ≡ Some line) where
    pub line_taken : (first : Bool) (new : List ℕ) → first ≡ false → new ≡ line_added is_first text line → is_text_line line ≡ true
        → lines_from first new left ≡ said
    line_taken first new same more fits =
        (λ j. lines_from (same j) (more j) left)
        ∙ sym (ap (λ b. cond b (lines_from false (line_added is_first text line) left) None) fits)
        ∙ opened is_first ∙ ap (lines_from is_first text) (sym (texts_from elements i item within is (Some line) so)) ∙ had
      where
        opened : (first : Bool)
            → cond (is_text_line line) (lines_from false (line_added first text line) left) None ≡ lines_from first text (line ∷ left)
        opened true = refl
        opened false = refl

    -- or one that isn't so
    pub line_refused : is_text_line line ≡ false → None ≡ said
    line_refused unfit =
        sym (ap (λ b. cond b (lines_from false (line_added is_first text line) left) None) unfit)
        ∙ opened is_first ∙ ap (lines_from is_first text) (sym (texts_from elements i item within is (Some line) so)) ∙ had
      where
        opened : (first : Bool)
            → cond (is_text_line line) (lines_from false (line_added first text line) left) None ≡ lines_from first text (line ∷ left)
        opened true = refl
        opened false = refl

-- ---- at the end

pub lines_end : (first : Bool) (text : List ℕ) (rest : List (List ℕ)) (said : Option FileText) → lines_from first text rest ≡ said
    → rest ≡ [] → said ≡ cond first None (Some text)
lines_end first text rest said had none = sym had ∙ ap (lines_from first text) none ∙ at_end first
  where
    at_end : (first : Bool) → lines_from first text [] ≡ cond first None (Some text)
    at_end true = refl
    at_end false = refl
