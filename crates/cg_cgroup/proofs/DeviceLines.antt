-- A line of words is one line, and behind a device still one of words.
use Rattle.std.proofs.Common.{◌≡◌, ℕ, ◌≤◌, Bool, true, false, ◌&&◌, cond, List, [], ◌∷◌, ◌++◌, length, Some, None, nat_le, nat_lt, ◌==◌, refl, ap, ◌∙◌, subst, arith}
use Rattle.std.specs.List.{list_all, list_any, slice_split, onto_first, All}
use Rattle.std.proofs.lemmas.Bool.{and_parts, and_from, eqb-true, leb-true, ltb-true, false_from_ne_true}
use Rattle.std.proofs.lemmas.List.Elements.{All-nil, All-cons}
use Rattle.std.proofs.lemmas.List.Splits.{slice_split_none, slice_split_at}
use Rattle.std.proofs.Math.Bool.{or-false}
use Rattle.cg_cgroup.specs.Paths.{same_name}
use Rattle.cg_cgroup.specs.Values.{is_graphic, is_value_word, is_one_line, has_value_line, first_word, device_in}
use Rattle.cg_cgroup.proofs.Options.{same_some}

no_space : (word : List ℕ) → list_all is_graphic word ≡ true → All (λ (b : ℕ). (b == 32) ≡ false) word
no_space [] h = All-nil (λ (b : ℕ). (b == 32) ≡ false)
no_space (b ∷ word) h =
    let parts = and_parts (is_graphic b) (list_all is_graphic word) h in
    let above = ltb-true 32 b (and_parts (nat_lt 32 b) (nat_lt b 127) parts.0).0 in
    All-cons (λ (b : ℕ). (b == 32) ≡ false) b word
    (false_from_ne_true (b == 32) (λ is. absurd (omega (arith, above, eqb-true b 32 is)))) (no_space word parts.1)

-- the byte of a newline is no other
no_newline_at : (b : ℕ) → 11 ≤ b → (b == 10) ≡ false
no_newline_at b above = false_from_ne_true (b == 10) (λ is. absurd (omega (arith, above, eqb-true b 10 is)))

first_graphic : (b : ℕ) (words : List (List ℕ)) → list_all (list_all is_graphic) (onto_first b words) ≡ true
    → (is_graphic b ≡ true) × (list_all (list_all is_graphic) words ≡ true)
first_graphic b [] all = ((and_parts (is_graphic b) true (and_parts (is_graphic b && true) true all).0).0, refl)
first_graphic b (word ∷ words) all =
    let parts = and_parts (is_graphic b && list_all is_graphic word) (list_all (list_all is_graphic) words) all in
    let front = and_parts (is_graphic b) (list_all is_graphic word) parts.0 in
    (front.0, and_from (list_all is_graphic word) (list_all (list_all is_graphic) words) front.1 parts.1)

abbrev IsOtherByte : ℕ → Type 0
IsOtherByte b = (b == 10) ≡ false

no_newline : (text : List ℕ) → list_all (list_all is_graphic) (slice_split (λ b. b == 32) text) ≡ true → All IsOtherByte text
no_newline [] all = All-nil IsOtherByte
no_newline (b ∷ text) all =
    elim (b == 32) as (λ space. (b == 32) ≡ space
    → list_all (list_all is_graphic) (cond space ([] ∷ words) (onto_first b words)) ≡ true → All IsOtherByte (b ∷ text)) [
      | true ↦ λ is all. All-cons IsOtherByte b text (no_newline_at b (omega (arith, eqb-true b 32 is))) (no_newline text all)
      | false ↦
          λ _ all.
          let parts = first_graphic b words all in
          let above = ltb-true 32 b (and_parts (nat_lt 32 b) (nat_lt b 127) parts.0).0 in
          All-cons IsOtherByte b text (no_newline_at b (omega (arith, above))) (no_newline text parts.1)
    ] refl all
  where
    words : List (List ℕ)
    words = slice_split (λ b. b == 32) text

graphic_words : (words : List (List ℕ)) → list_all is_value_word words ≡ true → list_all (list_all is_graphic) words ≡ true
graphic_words [] all = refl
graphic_words (word ∷ words) all =
    let parts = and_parts (is_value_word word) (list_all is_value_word words) all in
    and_from (list_all is_graphic word) (list_all (list_all is_graphic) words)
    (and_parts (nat_lt 0 (length word)) (list_all is_graphic word) parts.0).1 (graphic_words words parts.1)

pub unbroken : (line : List ℕ) → is_one_line line ≡ true → All (λ (b : ℕ). (b == 10) ≡ false) line
unbroken line one = no_newline line (graphic_words (slice_split (λ b. b == 32) line) one)

-- a value of one line has no other
pub only_line : (value line : List ℕ) → is_one_line value ≡ true → has_value_line value line ≡ same_name line value
only_line value line one =
    ap (list_any (same_name line)) (slice_split_none (λ b. b == 10) value (unbroken value one))
    ∙ or-false (same_name line value)

pub one_line_behind : (device line : List ℕ) → is_value_word device ≡ true → is_one_line line ≡ true
    → is_one_line (device ++ 32 ∷ line) ≡ true
one_line_behind device line word one =
    let graphic = (and_parts (nat_lt 0 (length device)) (list_all is_graphic device) word).1 in
    ap (list_all is_value_word) (slice_split_at (λ b. b == 32) device 32 line (no_space device graphic) refl)
    ∙ and_from (is_value_word device) (is_one_line line) word one

pub device_word : (value device : List ℕ) → device_in value ≡ Some device → (is_value_word device ≡ true) × (length device ≤ 255)
device_word value device is =
    elim behind as (λ b. behind ≡ b → cond b (Some word) None ≡ Some device → (is_value_word device ≡ true) × (length device ≤ 255)) [
      | false ↦ λ _ is. cc
      | true ↦ λ passes is.
          let both = (and_parts (nat_lt (length word) (length value)) (is_value_word word && nat_le (length word) 255) passes).1 in
          let parts = and_parts (is_value_word word) (nat_le (length word) 255) both in
          subst (λ w. (is_value_word w ≡ true) × (length w ≤ 255)) (same_some word device is) (parts.0, leb-true (length word) 255 parts.1)
    ] refl is
  where
    word : List ℕ
    word = first_word value

    behind : Bool
    behind = nat_lt (length word) (length value) && (is_value_word word && nat_le (length word) 255)
