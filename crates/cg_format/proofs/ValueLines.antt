-- The lines of a value that a text tells: cut at the newlines they are lines again, and make the same value.
use Rattle.std.proofs.Common.{◌≡◌, ℕ, zero, suc, ◌+◌, ◌<◌, ◌≤◌, ◌/◌, ◌%◌, ℤ, pos, negsuc, Bool, true, false, not, cond, List, [], ◌∷◌, ◌++◌, length, Option, Some, None, is_some, option_map, option_and_then, refl, sym, ap, ◌∙◌, true≢false, eqb-true, eq-eqb, ltb-true, lt-ltb, le-leb, arith}
use Rattle.std.specs.Prelude.{◌==◌, nat_lt, nat_le, if◌then◌else◌, filter_map, codes}
use Rattle.std.specs.List.{list_all, slice_split, onto_first, join_with_byte, All}
use Rattle.std.specs.Fmt.{digit_glyph, digits_onto, digits, decimal, signed_decimal}
use Rattle.std.proofs.lemmas.Bool.{and_from, and_parts, not-true}
use Rattle.std.proofs.lemmas.List.Elements.{All-head, All-tail}
use Rattle.std.proofs.lemmas.List.Splits.{slice_split-cons_yes, slice_split-cons_no, length-slice_split, join_with_byte-slice_split}
use Rattle.toml.specs.Data.{Data, string, integer, array, Members, get_member, as_str}
use Rattle.cg_cgroup.specs.Values.{is_graphic, is_value_word, is_one_line}
use Rattle.cg_cgroup.specs.declared.told.FileText.{FileText}
use Rattle.cg_cgroup.specs.declared.told.ToldFile.{ToldFile}
use Rattle.cg_cgroup.specs.declared.user.Entry.{Entry}
use Rattle.cg_cgroup.specs.declared.files.EntryName.TheVariants.{Other}
use Rattle.cg_cgroup.specs.declared.other_file.OtherFile.{OtherFile}
use Rattle.std.proofs.lemmas.Option.{cond_some}
use Rattle.cg_cgroup.proofs.DeviceLines.{unbroken}
use Rattle.cg_cgroup.proofs.Options.{same_some, mapped_from}
use Rattle.cg_format.specs.Form.{elements}
use Rattle.cg_format.specs.Said.{is_text_line, lines_text, text_of, text_said, owner_said, file_said, told_said, table_of}
use Rattle.cg_format.specs.declared.format.Format.{Format}

-- ---- lists cut where no element is a byte, and joined by it

abbrev is_byte : ℕ → ℕ → Bool
is_byte c b = b == c

abbrev is_other : ℕ → ℕ → Bool
is_other c b = not (b == c)

module _ (c : ℕ) where
  cut_none : (line : List ℕ) → list_all (is_other c) line ≡ true → slice_split (is_byte c) line ≡ line ∷ []
  cut_none [] free = refl
  cut_none (b ∷ line) free =
      let parts = and_parts (is_other c b) (list_all (is_other c) line) free in
      slice_split-cons_no (is_byte c) b line (not-true (b == c) parts.0) ∙ ap (onto_first b) (cut_none line parts.1)

  cut_at : (line rest : List ℕ) → list_all (is_other c) line ≡ true
      → slice_split (is_byte c) (line ++ c ∷ rest) ≡ line ∷ slice_split (is_byte c) rest
  cut_at [] rest free = slice_split-cons_yes (is_byte c) c rest (eq-eqb c c refl)
  cut_at (b ∷ line) rest free =
      let parts = and_parts (is_other c b) (list_all (is_other c) line) free in
      slice_split-cons_no (is_byte c) b (line ++ c ∷ rest) (not-true (b == c) parts.0) ∙ ap (onto_first b) (cut_at line rest parts.1)

  -- joined lines are cut into those lines
  cut_joined : (line : List ℕ) (lines : List (List ℕ)) → list_all (list_all (is_other c)) (line ∷ lines) ≡ true
      → slice_split (is_byte c) (join_with_byte c (line ∷ lines)) ≡ line ∷ lines
  cut_joined line [] free = cut_none line (and_parts (list_all (is_other c) line) true free).0
  cut_joined line (next ∷ lines) free =
      let parts = and_parts (list_all (is_other c) line) (list_all (list_all (is_other c)) (next ∷ lines)) free in
      cut_at line (join_with_byte c (next ∷ lines)) parts.0 ∙ ap (λ lines. line ∷ lines) (cut_joined next lines parts.1)

-- ---- a line has no newline

all_as : (p q : ℕ → Bool) → ((b : ℕ) → p b ≡ true → q b ≡ true) → (bs : List ℕ) → list_all p bs ≡ true → list_all q bs ≡ true
all_as p q each [] all = refl
all_as p q each (b ∷ bs) all =
    let parts = and_parts (p b) (list_all p bs) all in
    and_from (q b) (list_all q bs) (each b parts.0) (all_as p q each bs parts.1)

other_bytes : (line : List ℕ) → All (λ (b : ℕ). (b == 10) ≡ false) line → list_all (is_other 10) line ≡ true
other_bytes [] all = refl
other_bytes (b ∷ line) all =
    and_from (is_other 10 b) (list_all (is_other 10) line) (ap not (All-head (λ (b : ℕ). (b == 10) ≡ false) b line all))
    (other_bytes line (All-tail (λ (b : ℕ). (b == 10) ≡ false) b line all))

line_unbroken : (line : List ℕ) → is_text_line line ≡ true → list_all (is_other 10) line ≡ true
line_unbroken line is = other_bytes line (unbroken line (and_parts (nat_le (length line) 4095) (is_one_line line) is).1)

lines_unbroken : (lines : List (List ℕ)) → list_all is_text_line lines ≡ true → list_all (list_all (is_other 10)) lines ≡ true
lines_unbroken [] all = refl
lines_unbroken (line ∷ lines) all =
    let parts = and_parts (is_text_line line) (list_all is_text_line lines) all in
    and_from (list_all (is_other 10) line) (list_all (list_all (is_other 10)) lines) (line_unbroken line parts.0)
    (lines_unbroken lines parts.1)

lines_back : (lines : List (List ℕ)) (text : FileText) → lines_text lines ≡ Some text
    → list_all is_text_line (slice_split (is_byte 10) text) ≡ true
lines_back [] text is = absurd (true≢false (sym (ap is_some is)))
lines_back (line ∷ lines) text is =
    let parts = cond_some (list_all is_text_line (line ∷ lines)) (join_with_byte 10 (line ∷ lines)) text is in
    ap (λ text. list_all is_text_line (slice_split (is_byte 10) text)) (sym parts.1)
    ∙ ap (list_all is_text_line) (cut_joined 10 line lines (lines_unbroken (line ∷ lines) parts.0))
    ∙ parts.0

-- ---- decimal digits

glyph_graphic : (d : ℕ) → d < 10 → is_graphic (digit_glyph false d) ≡ true
glyph_graphic d small =
    ap (λ b. is_graphic (if b then 48 + d else (87 + d))) (lt-ltb d 10 small)
    ∙ and_from (nat_lt 32 (48 + d)) (nat_lt (48 + d) 127) (lt-ltb 32 (48 + d) (omega arith)) (lt-ltb (48 + d) 127 (omega (arith, small)))

-- digits before others: each printable, some, and no more than these
record AreDigits (acc : List ℕ) (most : ℕ) (bytes : List ℕ) : Type 0 where
  graphic : list_all is_graphic bytes ≡ true
  more : length acc ≤ length bytes
  few : length bytes ≤ most + length acc

digits_so : (k n : ℕ) (acc : List ℕ) → list_all is_graphic acc ≡ true → AreDigits acc k (digits_onto k 10 false n acc)
digits_so zero n acc graphic = record { graphic = graphic; more = omega arith; few = omega arith }
digits_so (suc k) n acc graphic =
    let glyph : ℕ = digit_glyph false (n % 10) in
    let one : list_all is_graphic (glyph ∷ acc) ≡ true =
    and_from (is_graphic glyph) (list_all is_graphic acc) (glyph_graphic (n % 10) (omega arith)) graphic in
    let later = digits_so k (n / 10) (glyph ∷ acc) one in
    elim ((n / 10) == 0) as (λ b. AreDigits acc (suc k) (if b then glyph ∷ acc else digits_onto k 10 false (n / 10) (glyph ∷ acc))) [
      | true ↦ record { graphic = one; more = omega arith; few = omega arith }
      | false ↦ record {
        graphic = later.graphic;
        more = omega (arith, later.more);
        few = omega (arith, later.few);
      }
    ]

-- the digits of a number, one or more, and not many
record IsDecimal (bytes : List ℕ) : Type 0 where
  graphic : list_all is_graphic bytes ≡ true
  some : 0 < length bytes
  few : length bytes ≤ 64

decimal_so : (n : ℕ) → IsDecimal (decimal n)
unfolding digits
decimal_so n =
    let glyph : ℕ = digit_glyph false (n % 10) in
    let one : list_all is_graphic (glyph ∷ []) ≡ true = and_from (is_graphic glyph) true (glyph_graphic (n % 10) (omega arith)) refl in
    let later = digits_so 63 (n / 10) (glyph ∷ []) one in
    elim ((n / 10) == 0) as (λ b. IsDecimal (if b then glyph ∷ [] else digits_onto 63 10 false (n / 10) (glyph ∷ []))) [
      | true ↦ record { graphic = one; some = omega arith; few = omega arith }
      | false ↦ record { graphic = later.graphic; some = omega (arith, later.more); few = omega (arith, later.few) }
    ]

graphic_other : (c : ℕ) → c ≤ 32 → (b : ℕ) → is_graphic b ≡ true → is_other c b ≡ true
graphic_other c low b so =
    elim (b == c) as (λ e. (b == c) ≡ e → not e ≡ true) [
      | true ↦ λ is. absurd (low_byte b c low (eqb-true b c is) (ltb-true 32 b (and_parts (nat_lt 32 b) (nat_lt b 127) so).0))
      | false ↦ λ _. refl
    ] refl
  where
    low_byte : (b c : ℕ) → c ≤ 32 → b ≡ c → 32 < b → ⊥
    low_byte b c low is above = absurd (omega (arith, low, is, above))

-- a word is a line, and the one of its text
word_line : (word : List ℕ) → list_all is_graphic word ≡ true → 0 < length word → length word ≤ 4095
    → list_all is_text_line (slice_split (is_byte 10) word) ≡ true
word_line word graphic some few =
    let is_word : is_value_word word ≡ true =
    and_from (nat_lt 0 (length word)) (list_all is_graphic word) (lt-ltb 0 (length word) some) graphic in
    let one : is_one_line word ≡ true =
    ap (list_all is_value_word) (cut_none 32 word (all_as is_graphic (is_other 32) (graphic_other 32 (omega arith)) word graphic))
    ∙ and_from (is_value_word word) true is_word refl in
    ap (list_all is_text_line) (cut_none 10 word (all_as is_graphic (is_other 10) (graphic_other 10 (omega arith)) word graphic))
    ∙ and_from (is_text_line word) true (and_from (nat_le (length word) 4095) (is_one_line word) (le-leb (length word) 4095 few) one) refl

integer_line : (number : ℤ) → list_all is_text_line (slice_split (is_byte 10) (signed_decimal number)) ≡ true
integer_line (pos number) =
    let are = decimal_so number in
    word_line (decimal number) are.graphic are.some (omega (arith, are.few))
integer_line (negsuc number) =
    let are = decimal_so (suc number) in
    word_line (45 ∷ decimal (suc number)) (and_from (is_graphic 45) (list_all is_graphic (decimal (suc number))) refl are.graphic)
    (omega arith) (omega (arith, are.few))

-- ---- the lines of a value

-- what a text tells of a value are lines
pub lines_told : (held : Data) (text : FileText) → text_of held ≡ Some text
    → list_all is_text_line (slice_split (λ b. b == 10) text) ≡ true
lines_told (integer number) text is =
    ap (λ text. list_all is_text_line (slice_split (is_byte 10) text)) (sym (same_some (signed_decimal number) text is))
    ∙ integer_line number
lines_told (string line) text is = lines_back (line ∷ []) text is
lines_told (array items) text is = lines_back (filter_map as_str (elements items)) text is
lines_told held text is = absurd (true≢false (sym (ap is_some is)))

-- lines, cut from a text, make it again
pub lines_again : (text : FileText) → list_all is_text_line (slice_split (λ b. b == 10) text) ≡ true
    → lines_text (slice_split (λ b. b == 10) text) ≡ Some text
lines_again text all =
    made (slice_split (is_byte 10) text) (omega (arith, length-slice_split (is_byte 10) text)) all
    ∙ ap Some (join_with_byte-slice_split 10 text)
  where
    made : (lines : List (List ℕ)) → 0 < length lines → list_all is_text_line lines ≡ true
        → lines_text lines ≡ Some (join_with_byte 10 lines)
    made [] some all = absurd (omega (arith, some))
    made (line ∷ lines) some all = ap (λ b. cond b (Some (join_with_byte 10 (line ∷ lines))) None) all

-- the value of a file that a row tells of is lines
pub told_lines : (format : Format) (row : Members) (file : OtherFile) (told : ToldFile) (text : FileText)
    → told_said format row file ≡ Some told → told.value ≡ Some text
    → list_all is_text_line (slice_split (λ b. b == 10) text) ≡ true
told_lines format row file told text is has = of_table (table_of (Other file) row) is
  where
    of_value : (found : Option Data) → elim found [ None ↦ Some None | Some held ↦ option_map Some (text_of held) ] ≡ Some (Some text)
        → list_all is_text_line (slice_split (λ b. b == 10) text) ≡ true
    of_value None is = absurd (true≢false (sym (ap is_some (same_some None (Some text) is))))
    of_value (Some held) is =
        let said = mapped_from Some (text_of held) (Some text) is in
        lines_told held text (said.1 ∙ said.2)

    of_parts : (entry : Option Entry) (value : Option (Option FileText))
        → option_and_then (λ e. option_and_then (λ v. Some (record { entry = e; value = v })) value) entry ≡ Some told
        → value ≡ Some told.value
    of_parts None value is = absurd (true≢false (sym (ap is_some is)))
    of_parts (Some e) None is = absurd (true≢false (sym (ap is_some is)))
    of_parts (Some e) (Some v) is = ap (λ (t : ToldFile). Some t.value) (same_some _ told is)

    of_table : (found : Option Members) → option_and_then (file_said format) found ≡ Some told
        → list_all is_text_line (slice_split (λ b. b == 10) text) ≡ true
    of_table None is = absurd (true≢false (sym (ap is_some is)))
    of_table (Some inside) is =
        of_value (get_member (codes "value") inside)
        (of_parts (owner_said format 420 inside) (text_said inside) is ∙ ap Some has)
