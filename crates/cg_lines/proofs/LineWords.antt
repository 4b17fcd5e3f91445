-- Words without a space, and texts that are cut between words.
use Rattle.std.proofs.Common.{get_or, ◌≡◌, ℕ, ◌+◌, Bool, true, false, cond, List, [], ◌∷◌, ◌++◌, length, take, drop, refl, ap, sym, ◌∙◌, arith, append_assoc}
use Rattle.std.specs.Prelude.{◌&&◌, ◌≤◌, ◌==◌, nat_lt, nat_le, Some, None}
use Rattle.std.specs.List.{list_all, slice_split, position_or_len, before_first, after_first, join_with_byte, All}
use Rattle.std.proofs.lemmas.Bool.{and_parts, and_from, leb-true, ne_eqb, lt-ltb, ltb-true, le-ltb, eqb-true}
use Rattle.std.proofs.lemmas.List.{take_at, drop_at, length-append}
use Rattle.std.proofs.lemmas.List.Elements.{All-nil, All-cons}
use Rattle.std.proofs.lemmas.List.Sums.{split_at_first, passes_at_first}
use Rattle.std.proofs.lemmas.List.Splits.{join_with_byte-slice_split, slice_split_none, slice_split_at}
use Rattle.std.proofs.lemmas.List.Folds.{list_all-append}
use Rattle.std.proofs.lemmas.Option.{cond_some}
use Rattle.std.specs.Str.{IsAscii}
use Rattle.std.proofs.lemmas.Str.Ascii.{IsAscii-nil, IsAscii-cons}
use Rattle.cg_cgroup.specs.Values.{is_graphic, is_value_word}
use Rattle.cg_lines.specs.OperationLines.{is_line_value}
use Rattle.cg_lines.specs.LineReading.{is_space, cut}

-- bytes that may stand in a word
abbrev pub is_word : List ℕ → Bool
is_word = list_all is_graphic

abbrev pub are_words : List (List ℕ) → Bool
are_words = list_all is_word

not_space : (b : ℕ) → is_graphic b ≡ true → is_space b ≡ false
not_space b h =
    let p = and_parts (nat_lt 32 b) (nat_lt b 127) h in
    let l = ltb-true 32 b p.0 in
    ne_eqb b 32 (λ e. omega (arith, l, e))

first_space : (word rest : List ℕ) → is_word word ≡ true → position_or_len is_space (word ++ (32 ∷ rest)) ≡ length word
first_space [] rest h = refl
first_space (b ∷ word) rest h =
    let p = and_parts (is_graphic b) (is_word word) h in
    let e = first_space word rest p.1 in
    rw (not_space b p.0) (omega (arith, e))

all_word : (word : List ℕ) → is_word word ≡ true → position_or_len is_space word ≡ length word
all_word [] h = refl
all_word (b ∷ word) h =
    let p = and_parts (is_graphic b) (is_word word) h in
    let e = all_word word p.1 in
    rw (not_space b p.0) (omega (arith, e))

-- a word, a space and a rest are cut at that space
pub cut_word : (word rest : List ℕ) → is_word word ≡ true → cut (word ++ (32 ∷ rest)) ≡ Some (word, rest)
cut_word word rest h =
    let text = word ++ (32 ∷ rest) in
    let e = first_space word rest h in
    let l : nat_lt (length word) (length text) ≡ true =
    lt-ltb (length word) (length text) (omega (arith, length-append word (32 ∷ rest))) in
    let front : take (length word) text ≡ word = take_at word (32 ∷ rest) (length word) refl in
    let back : drop (length word + 1) text ≡ rest =
    ap (drop (length word + 1)) (sym (append_assoc word (32 ∷ []) rest))
    ∙ drop_at (word ++ (32 ∷ [])) rest (length word + 1) (length-append word (32 ∷ [])) in
    let f = λ (n : ℕ). cond (nat_lt n (length text)) (Some (take n text, drop (n + 1) text)) None in
    ap f e ∙ ap (λ (b : Bool). cond b (Some (take (length word) text, drop (length word + 1) text)) None) l
    ∙ ap (λ (w : List ℕ). Some (w, drop (length word + 1) text)) front ∙ ap (λ (r : List ℕ). Some (word, r)) back

-- a word alone is not cut
pub cut_none : (word : List ℕ) → is_word word ≡ true → cut word ≡ None
cut_none word h =
    let e = all_word word h in
    let l : nat_lt (position_or_len is_space word) (length word) ≡ false =
    le-ltb (position_or_len is_space word) (length word) (omega (arith, e)) in
    ap (λ (b : Bool). cond b (Some (before_first is_space word, after_first is_space word)) None) l

-- what a text is cut into
pub cut_parts : (text : List ℕ) (words : List ℕ × List ℕ) → cut text ≡ Some words → text ≡ words.0 ++ (32 ∷ words.1)
cut_parts text words h =
    let at = position_or_len is_space text in
    let p = cond_some (nat_lt at (length text)) (before_first is_space text, after_first is_space text) words h in
    let l = ltb-true at (length text) p.0 in
    let b = eqb-true (get_or text at 0) 32 (passes_at_first is_space text 0 l) in
    split_at_first is_space text 0 l ∙ ap (λ (c : ℕ). before_first is_space text ++ (c ∷ after_first is_space text)) b
    ∙ ap (λ (w : List ℕ × List ℕ). w.0 ++ (32 ∷ w.1)) p.1

fails_of : (word : List ℕ) → is_word word ≡ true → All (λ (b : ℕ). is_space b ≡ false) word
fails_of [] h = All-nil (λ (b : ℕ). is_space b ≡ false)
fails_of (b ∷ word) h =
    let p = and_parts (is_graphic b) (is_word word) h in
    All-cons (λ (b : ℕ). is_space b ≡ false) b word (not_space b p.0) (fails_of word p.1)

-- words that are joined by spaces are split there
pub split_joined : (word : List ℕ) (words : List (List ℕ)) → are_words (word ∷ words) ≡ true
    → slice_split is_space (join_with_byte 32 (word ∷ words)) ≡ word ∷ words
split_joined word [] h =
    let p = and_parts (is_word word) true h in
    slice_split_none is_space word (fails_of word p.0)
split_joined word (next ∷ words) h =
    let p = and_parts (is_word word) (are_words (next ∷ words)) h in
    slice_split_at is_space word 32 (join_with_byte 32 (next ∷ words)) (fails_of word p.0) refl
    ∙ ap (λ (others : List (List ℕ)). word ∷ others) (split_joined next words p.1)

-- ---- printable texts

-- a printable byte, or a space
abbrev is_printable_byte : ℕ → Bool
is_printable_byte b = nat_lt 31 b && nat_lt b 127

abbrev pub is_printable : List ℕ → Bool
is_printable = list_all is_printable_byte

pub printable_word : (word : List ℕ) → is_word word ≡ true → is_printable word ≡ true
printable_word [] h = refl
printable_word (b ∷ word) h =
    let p = and_parts (is_graphic b) (is_word word) h in
    let q = and_parts (nat_lt 32 b) (nat_lt b 127) p.0 in
    let l = ltb-true 32 b q.0 in
    and_from (is_printable_byte b) (is_printable word)
    (and_from (nat_lt 31 b) (nat_lt b 127) (lt-ltb 31 b (omega (arith, l))) q.1) (printable_word word p.1)

pub printable_words : (words : List (List ℕ)) → are_words words ≡ true → list_all is_printable words ≡ true
printable_words [] h = refl
printable_words (word ∷ words) h =
    let p = and_parts (is_word word) (are_words words) h in
    and_from (is_printable word) (list_all is_printable words) (printable_word word p.0) (printable_words words p.1)

pub printable_joined : (parts : List (List ℕ)) → list_all is_printable parts ≡ true → is_printable (join_with_byte 32 parts) ≡ true
printable_joined [] h = refl
printable_joined (part ∷ []) h = (and_parts (is_printable part) true h).0
printable_joined (part ∷ next ∷ parts) h =
    let p = and_parts (is_printable part) (list_all is_printable (next ∷ parts)) h in
    list_all-append is_printable_byte part (32 ∷ join_with_byte 32 (next ∷ parts))
    ∙ and_from (is_printable part) (is_printable (join_with_byte 32 (next ∷ parts))) p.0 (printable_joined (next ∷ parts) p.1)

value_words : (words : List (List ℕ)) → list_all is_value_word words ≡ true → are_words words ≡ true
value_words [] h = refl
value_words (word ∷ words) h =
    let p = and_parts (is_value_word word) (list_all is_value_word words) h in
    and_from (is_word word) (are_words words) (and_parts (nat_lt 0 (length word)) (is_word word) p.0).1 (value_words words p.1)

-- a value that a line can hold
pub value_printable : (value : List ℕ) → is_line_value value ≡ true → is_printable value ≡ true
unfolding is_line_value
value_printable value h =
    let words = slice_split (λ b. b == 32) value in
    let p = and_parts (nat_le (length value) 3800) (list_all is_value_word words) h in
    ap is_printable (sym (join_with_byte-slice_split 32 value))
    ∙ printable_joined words (printable_words words (value_words words p.1))

pub value_length : (value : List ℕ) → is_line_value value ≡ true → length value ≤ 3800
unfolding is_line_value
value_length value h =
    leb-true (length value) 3800 (and_parts (nat_le (length value) 3800) (list_all is_value_word (slice_split (λ b. b == 32) value)) h).0

-- Texts below 128.

pub IsAscii-printable : (text : List ℕ) → is_printable text ≡ true → IsAscii text
IsAscii-printable [] h = IsAscii-nil
IsAscii-printable (b ∷ text) h =
    let p = and_parts (is_printable_byte b) (is_printable text) h in
    let q = and_parts (nat_lt 31 b) (nat_lt b 127) p.0 in
    let l = ltb-true b 127 q.1 in
    IsAscii-cons b text (omega (arith, l)) (IsAscii-printable text p.1)

-- Texts of one line.

abbrev pub IsNoNewline : ℕ → Type 0
IsNoNewline b = (b == 10) ≡ false

pub no_newline : (text : List ℕ) → is_printable text ≡ true → All IsNoNewline text
no_newline [] h = All-nil IsNoNewline
no_newline (b ∷ text) h =
    let p = and_parts (is_printable_byte b) (is_printable text) h in
    let l = ltb-true 31 b (and_parts (nat_lt 31 b) (nat_lt b 127) p.0).0 in
    All-cons IsNoNewline b text (ne_eqb b 10 (λ e. omega (arith, l, e))) (no_newline text p.1)
