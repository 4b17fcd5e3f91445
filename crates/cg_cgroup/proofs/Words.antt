-- The names between the slashes of a text: what its bytes say of them.
use Rattle.std.proofs.Common.{◌≡◌, ℕ, ◌+◌, ◌-◌, ◌<◌, ◌≤◌, zero, suc, arith, Bool, true, false, cond, List, [], ◌∷◌, length, drop, get_or, refl, sym, ap, ◌∙◌, ⊎_elim, zero-add}
use Rattle.std.specs.Prelude.{◌==◌, ◌&&◌, ◌||◌, not, nat_lt, nat_le}
use Rattle.std.specs.List.{list_all, list_any, slice_split, onto_first}
use Rattle.std.specs.Cmp.Lexicographic.{bytes_decides}
use Rattle.std.proofs.Math.Bool.{and_assoc}
use Rattle.std.proofs.lemmas.Bool.{cases_Bool, cond-true, cond-false, cond_both, eqb-true, eq-eqb, ne_eqb, lt-ltb, le-leb, lt-leb, and_parts, and_from, and_left, and_right, or_parts, or_from, or_right, both_ways, false_from_ne_true}
use Rattle.std.proofs.lemmas.List.{at_drop_more}
use Rattle.std.proofs.lemmas.List.Splits.{slice_split-cons_no, slice_split-cons_yes, length-slice_split}
use Rattle.cg_cgroup.specs.Paths.{Name, Names, same_name, is_name, is_name_byte, is_reserved, is_word}
use Rattle.cg_cgroup.specs.Texts.{reserved_names}

-- ---- names that have a byte, and bytes of names alone

abbrev pub is_filled : Name → Bool
is_filled name = nat_lt 0 (length name) && list_all is_name_byte name

-- whether such names follow, where the first one has a byte already or not
abbrev pub filled_from : Bool → List ℕ → Bool
filled_from begun [] = begun
filled_from begun (b ∷ text) = (is_name_byte b || ((b == 47) && begun)) && filled_from (not (b == 47)) text

-- the same, of the names
abbrev filled_on : Bool → Names → Bool
filled_on begun [] = true
filled_on begun (name ∷ names) = ((begun || nat_lt 0 (length name)) && list_all is_name_byte name) && list_all is_filled names

filled_onto : (begun : Bool) (b : ℕ) (names : Names) → 0 < length names
    → filled_on begun (onto_first b names) ≡ (is_name_byte b && filled_on true names)
filled_onto begun b [] some = absurd (omega arith)
filled_onto begun b (name ∷ names) some =
    let all = is_name_byte b && list_all is_name_byte name in
    ap (λ some. ((begun || some) && all) && list_all is_filled names) (lt-ltb 0 (suc (length name)) (omega arith))
    ∙ ap (λ some. (some && all) && list_all is_filled names) (or_right begun true refl)
    ∙ and_assoc (is_name_byte b) (list_all is_name_byte name) (list_all is_filled names)

filled_on_none : (names : Names) → filled_on false names ≡ list_all is_filled names
filled_on_none [] = refl
filled_on_none (name ∷ names) = refl

begun_alone : (begun all : Bool) → (((begun || false) && true) && all) ≡ (begun && all)
begun_alone true all = refl
begun_alone false all = refl

or_none : (b : Bool) → (b || false) ≡ b
or_none true = refl
or_none false = refl

and_true : (b : Bool) → (b && true) ≡ b
and_true true = refl
and_true false = refl

filled_are : (begun : Bool) (text : List ℕ) → filled_on begun (slice_split (λ b. b == 47) text) ≡ filled_from begun text
filled_are begun [] = begun_alone begun true ∙ and_true begun
filled_are begun (b ∷ text) =
    let parts : Names = slice_split (λ b. b == 47) text in
    ⊎_elim
    (λ is.
    ap (filled_on begun) (slice_split-cons_yes (λ b. b == 47) b text is)
    ∙ begun_alone begun (list_all is_filled parts)
    ∙ ap (λ all. begun && all) (sym (filled_on_none parts) ∙ filled_are false text)
    ∙ ap (λ (slash : ℕ). filled_from begun (slash ∷ text)) (sym (eqb-true b 47 is)))
    (λ other.
    ap (filled_on begun) (slice_split-cons_no (λ b. b == 47) b text other)
    ∙ filled_onto begun b parts (omega (arith, length-slice_split (λ b. b == 47) text))
    ∙ ap (λ all. is_name_byte b && all) (filled_are true text)
    ∙ ap (λ byte. byte && filled_from true text) (sym (or_none (is_name_byte b)))
    ∙ ap (λ slash. (is_name_byte b || (slash && begun)) && filled_from (not slash) text) (sym other))
    (cases_Bool (b == 47))

pub filled_of : (text : List ℕ) → list_all is_filled (slice_split (λ b. b == 47) text) ≡ filled_from false text
filled_of text = sym (filled_on_none (slice_split (λ b. b == 47) text)) ∙ filled_are false text

-- one byte more
pub filled_more : (good : Bool) (before i : ℕ) (text : List ℕ) → i < length text
    → ((good && (is_name_byte (get_or text i 0) || ((get_or text i 0 == 47) && not (before == 47))))
    && filled_from (not (get_or text i 0 == 47)) (drop (i + 1) text))
    ≡ (good && filled_from (not (before == 47)) (drop i text))
filled_more good before i text inside =
    let may = is_name_byte (get_or text i 0) || ((get_or text i 0 == 47) && not (before == 47)) in
    and_assoc good may (filled_from (not (get_or text i 0 == 47)) (drop (i + 1) text))
    ∙ ap (λ all. good && all) (sym (at_drop_more (filled_from (not (before == 47))) text i 0 inside))

-- ---- names that have 255 bytes at most

abbrev pub is_short : Name → Bool
is_short name = nat_le (length name) 255

-- whether such names follow, where `len` bytes of the first one were read
abbrev pub short_from : ℕ → List ℕ → Bool
short_from len [] = nat_le len 255
short_from len (b ∷ text) = cond (b == 47) (nat_le len 255 && short_from 0 text) (short_from (len + 1) text)

-- the same, of the names
abbrev short_on : ℕ → Names → Bool
short_on len [] = true
short_on len (name ∷ names) = nat_le (len + length name) 255 && list_all is_short names

short_onto : (len b : ℕ) (names : Names) → 0 < length names → short_on len (onto_first b names) ≡ short_on (len + 1) names
short_onto len b [] some = absurd (omega arith)
short_onto len b (name ∷ names) some =
    let same : len + suc (length name) ≡ (len + 1) + length name = omega arith in
    ap (λ (n : ℕ). nat_le n 255 && list_all is_short names) same

short_on_none : (names : Names) → short_on 0 names ≡ list_all is_short names
short_on_none [] = refl
short_on_none (name ∷ names) = ap (λ (n : ℕ). nat_le n 255 && list_all is_short names) (zero-add (length name))

short_are : (len : ℕ) (text : List ℕ) → short_on len (slice_split (λ b. b == 47) text) ≡ short_from len text
short_are len [] =
    let same : len + 0 ≡ len = omega arith in
    and_true (nat_le (len + 0) 255) ∙ ap (λ (n : ℕ). nat_le n 255) same
short_are len (b ∷ text) =
    let parts : Names = slice_split (λ b. b == 47) text in
    let same : len + 0 ≡ len = omega arith in
    ⊎_elim
    (λ is.
    ap (short_on len) (slice_split-cons_yes (λ b. b == 47) b text is)
    ∙ ap (λ (n : ℕ). nat_le n 255 && list_all is_short parts) same
    ∙ ap (λ all. nat_le len 255 && all) (sym (short_on_none parts) ∙ short_are 0 text)
    ∙ sym (cond-true (b == 47) (nat_le len 255 && short_from 0 text) (short_from (len + 1) text) is))
    (λ other.
    ap (short_on len) (slice_split-cons_no (λ b. b == 47) b text other)
    ∙ short_onto len b parts (omega (arith, length-slice_split (λ b. b == 47) text))
    ∙ short_are (len + 1) text
    ∙ sym (cond-false (b == 47) (nat_le len 255 && short_from 0 text) (short_from (len + 1) text) other))
    (cases_Bool (b == 47))

pub short_of : (text : List ℕ) → list_all is_short (slice_split (λ b. b == 47) text) ≡ short_from 0 text
short_of text = sym (short_on_none (slice_split (λ b. b == 47) text)) ∙ short_are 0 text

pub short_whole : (len : ℕ) (text : List ℕ) → len + length text ≤ 255 → short_from len text ≡ true
short_whole len [] fits = le-leb len 255 (omega arith)
short_whole len (b ∷ text) fits =
    cond_both (b == 47) (nat_le len 255 && short_from 0 text) (short_from (len + 1) text) (λ all. all ≡ true)
    (λ is. and_from _ _ (le-leb len 255 (omega arith)) (short_whole 0 text (omega arith)))
    (λ other. short_whole (len + 1) text (omega arith))

short_behind : (len : ℕ) (text : List ℕ) → len ≤ 255 → (nat_le len 255 && short_from 0 text) ≡ short_from 0 text
short_behind len text fits = ap (λ short. short && short_from 0 text) (le-leb len 255 fits)

-- behind a slash that ends a name in time
short_cut : (len n : ℕ) (text : List ℕ) → n < length text → get_or text n 0 ≡ 47 → len + n ≤ 255
    → short_from len text ≡ short_from 0 (drop (suc n) text)
short_cut len n [] inside is fits = absurd (omega arith)
short_cut len zero (b ∷ text) inside is fits =
    cond-true (b == 47) (nat_le len 255 && short_from 0 text) (short_from (len + 1) text) (eq-eqb b 47 is)
    ∙ short_behind len text (omega arith)
short_cut len (suc n) (b ∷ text) inside is fits =
    cond_both (b == 47) (nat_le len 255 && short_from 0 text) (short_from (len + 1) text) (λ all. all ≡ short_from 0 (drop (suc n) text))
    (λ slash. short_behind len text (omega arith) ∙ short_cut 0 n text (omega arith) is (omega arith))
    (λ other. short_cut (len + 1) n text (omega arith) is (omega arith))

short_past : (len : ℕ) (text : List ℕ) → 255 < len → short_from len text ≡ false
short_past len [] past = lt-leb len 255 past
short_past len (b ∷ text) past =
    cond_both (b == 47) (nat_le len 255 && short_from 0 text) (short_from (len + 1) text) (λ all. all ≡ false)
    (λ is. and_left (nat_le len 255) (short_from 0 text) (lt-leb len 255 past))
    (λ other. short_past (len + 1) text (omega arith))

-- no slash ends the first name in time
short_long : (len n : ℕ) (text : List ℕ) → n ≤ length text → ((k : ℕ) → k < n → get_or text k 0 ≡ 47 → ⊥) → 255 < len + n
    → short_from len text ≡ false
short_long len zero text inside none long = short_past len text (omega arith)
short_long len (suc n) [] inside none long = absurd (omega arith)
short_long len (suc n) (b ∷ text) inside none long =
    cond-false (b == 47) (nat_le len 255 && short_from 0 text) (short_from (len + 1) text) (ne_eqb b 47 (none 0 (omega arith)))
    ∙ short_long (len + 1) n text (omega arith) (λ k h. none (suc k) (omega arith)) (omega arith)

pub short_read : (read : ℕ) (rest : List ℕ) → (read ≡ 0 → ⊥) → read ≤ length rest → read ≤ 256 → get_or rest (read - 1) 0 ≡ 47
    → short_from 0 (drop read rest) ≡ short_from 0 rest
short_read zero rest some inside near slash = absurd (some refl)
short_read (suc n) rest some inside near slash =
    let same : suc n - 1 ≡ n = omega arith in
    sym (short_cut 0 n rest (omega arith) (ap (λ (k : ℕ). get_or rest k 0) (sym same) ∙ slash) (omega arith))

pub short_none : (rest : List ℕ) → 255 < length rest → ((k : ℕ) → k < 256 → k < length rest → get_or rest k 0 ≡ 47 → ⊥)
    → short_from 0 rest ≡ false
short_none rest long none = short_long 0 256 rest (omega arith) (λ k h. none k h (omega arith)) (omega arith)

-- ---- words are both

word_parts : (some fits bytes filled short : Bool)
    → (((some && fits) && bytes) && (filled && short)) ≡ (((some && bytes) && filled) && (fits && short))
word_parts false fits bytes filled short = refl
word_parts true true bytes filled short = sym (and_assoc bytes filled short)
word_parts true false bytes filled short = sym (and_right (bytes && filled) false refl)

pub words_are : (names : Names) → list_all is_word names ≡ (list_all is_filled names && list_all is_short names)
words_are [] = refl
words_are (name ∷ names) =
    ap (λ all. is_word name && all) (words_are names)
    ∙ word_parts (nat_lt 0 (length name)) (nat_le (length name) 255) (list_all is_name_byte name) (list_all is_filled names)
    (list_all is_short names)

-- ---- a text without a dot

abbrev dotted : Name → Bool
dotted = list_any (λ b. b == 46)

unlisted : (name : Name) (names : Names) → list_all dotted names ≡ true → dotted name ≡ false → list_any (same_name name) names ≡ false
unlisted name [] dots none = refl
unlisted name (listed ∷ names) dots none =
    let parts = and_parts (dotted listed) (list_all dotted names) dots in
    or_from
    (same_name name listed)
    (list_any (same_name name) names)
    (false_from_ne_true (same_name name listed)
    (λ same. both_ways (dotted name) none (ap dotted ((bytes_decides name listed).0 same) ∙ parts.0)))
    (unlisted name names parts.1 none)

undotted : (names : Names) → list_any dotted names ≡ false → list_any is_reserved names ≡ false
undotted [] none = refl
undotted (name ∷ names) none =
    let parts = or_parts (dotted name) (list_any dotted names) none in
    or_from (is_reserved name) (list_any is_reserved names) (unlisted name reserved_names refl parts.0) (undotted names parts.1)

dot_onto : (b : ℕ) (names : Names) → 0 < length names → (b == 46) ≡ false → list_any dotted (onto_first b names) ≡ list_any dotted names
dot_onto b [] some none = absurd (omega arith)
dot_onto b (name ∷ names) some none = ap (λ dot. (dot || dotted name) || list_any dotted names) none

dots_between : (text : List ℕ) → list_any (λ b. b == 46) text ≡ false → list_any dotted (slice_split (λ b. b == 47) text) ≡ false
dots_between [] none = refl
dots_between (b ∷ text) none =
    let parts = or_parts (b == 46) (list_any (λ b. b == 46) text) none in
    let rest = dots_between text parts.1 in
    ⊎_elim
    (λ is. ap (list_any dotted) (slice_split-cons_yes (λ b. b == 47) b text is) ∙ rest)
    (λ other. ap (list_any dotted) (slice_split-cons_no (λ b. b == 47) b text other)
    ∙ dot_onto b (slice_split (λ b. b == 47) text) (omega (arith, length-slice_split (λ b. b == 47) text)) parts.0 ∙ rest)
    (cases_Bool (b == 47))

pub none_reserved : (text : List ℕ) → list_any (λ b. b == 46) text ≡ false → list_any is_reserved (slice_split (λ b. b == 47) text) ≡ false
none_reserved text none = undotted (slice_split (λ b. b == 47) text) (dots_between text none)

-- ---- names are words of which none is reserved

word_and_not : (word reserved words any : Bool)
    → ((word && not reserved) && (words && not any)) ≡ ((word && words) && not (reserved || any))
word_and_not false reserved words any = refl
word_and_not true false words any = refl
word_and_not true true false any = refl
word_and_not true true true any = refl

pub names_are : (names : Names) → list_all is_name names ≡ (list_all is_word names && not (list_any is_reserved names))
names_are [] = refl
names_are (name ∷ names) =
    ap (λ all. is_name name && all) (names_are names)
    ∙ word_and_not (is_word name) (is_reserved name) (list_all is_word names) (list_any is_reserved names)
