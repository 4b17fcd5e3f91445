-- The number that a word writes: the word is its decimal text.
use Rattle.std.proofs.Common.{◌≡◌, ◌≢◌, ℕ, ◌^◌, ◌<◌, ◌≤◌, Bool, true, cond, List, length, get_or, refl, ap, sym, ◌∙◌, subst, inl, inr, arith}
use Rattle.std.specs.Prelude.{◌&&◌, nat_lt, Option, Some, None, Result, Ok, Err}
use Rattle.std.specs.Result.{result_ok}
use Rattle.std.specs.Fmt.{decimal}
use Rattle.std.specs.Str.Parse.{AllDigits, IsNumeral, ParsesUnsigned, digits_value}
use Rattle.std.specs.Cmp.Lexicographic.{bytes_decides}
use Rattle.std.proofs.lemmas.Bool.{and_parts, and_from, lt-ltb, ltb-true, cond_both, cases_eq}
use Rattle.std.proofs.lemmas.Option.{cond_some}
use Rattle.std.proofs.lemmas.Str.Parse.{IsNumeralModel, numerals_by_value, tells_digits, digit_at, without_leading_plus_none}
use Rattle.std.proofs.lemmas.Fmt.{decimal_is_IsNumeral, decimal-digits_value, first_decimal, decimal_digit}
use Rattle.cg_cgroup.specs.Paths.{same_name}
use Rattle.cg_lines.specs.LineReading.{number_at}

own : IsNumeralModel (AllDigits 10) (digits_value 10)
own = numerals_by_value (AllDigits 10) tells_digits

-- the test of a word
is_number : List ℕ → Bool
is_number word = nat_lt (digits_value 10 word) (2 ^ 64) && same_name word (decimal (digits_value 10 word))

is_number-true : (word : List ℕ) → is_number word ≡ true → (digits_value 10 word < 2 ^ 64) × (word ≡ decimal (digits_value 10 word))
unfolding is_number
is_number-true word h =
    let p = and_parts (nat_lt (digits_value 10 word) (2 ^ 64)) (same_name word (decimal (digits_value 10 word))) h in
    (ltb-true (digits_value 10 word) (2 ^ 64) p.0, (bytes_decides word (decimal (digits_value 10 word))).0 p.1)

-- what is read is spelled so
pub number_takes : (word : List ℕ) (n : ℕ) → number_at word ≡ Some n → (n < 2 ^ 64) × (word ≡ decimal n)
unfolding number_at is_number
number_takes word n h =
    let p = cond_some (is_number word) (digits_value 10 word) n h in
    subst (λ (m : ℕ). (m < 2 ^ 64) × (word ≡ decimal m)) p.1 (is_number-true word p.0)

-- a word that is no number's text
pub number_none : (word : List ℕ) → ((n : ℕ) → n < 2 ^ 64 → word ≢ decimal n) → number_at word ≡ None
unfolding number_at is_number
number_none word none =
    cond_both (is_number word) (Some (digits_value 10 word)) None (λ (o : Option ℕ). o ≡ None)
    (λ e. let p = is_number-true word e in absurd (none (digits_value 10 word) p.0 p.1))
    (λ e. refl)

pub number_is : (word : List ℕ) (n : ℕ) → digits_value 10 word ≡ n → n < 2 ^ 64 → word ≡ decimal n → number_at word ≡ Some n
unfolding number_at
number_is word n v l e =
    let small : nat_lt (digits_value 10 word) (2 ^ 64) ≡ true =
    lt-ltb (digits_value 10 word) (2 ^ 64) (subst (λ (m : ℕ). m < 2 ^ 64) (sym v) l) in
    let spelled : same_name word (decimal (digits_value 10 word)) ≡ true =
    (bytes_decides word (decimal (digits_value 10 word))).1 (e ∙ ap decimal (sym v)) in
    ap (λ (b : Bool). cond b (Some (digits_value 10 word)) None)
    (and_from (nat_lt (digits_value 10 word) (2 ^ 64)) (same_name word (decimal (digits_value 10 word))) small spelled)
    ∙ ap (λ (m : ℕ). Some m) v

-- what is spelled so is read
pub number_again : (n : ℕ) → n < 2 ^ 64 → number_at (decimal n) ≡ Some n
number_again n l = number_is (decimal n) n (decimal_is_IsNumeral n l).1 l refl

-- each byte of a number's text is a digit
pub decimal_byte : (n i : ℕ) → n < 2 ^ 64 → i < length (decimal n) → (48 ≤ get_or (decimal n) i 0) × (get_or (decimal n) i 0 ≤ 57)
decimal_byte n i l h = digit_at (decimal n) i (decimal_is_IsNumeral n l).0.1 h

-- no number's text begins with a plus sign
pub number_plus : (word : List ℕ) → get_or word 0 0 ≡ 43 → number_at word ≡ None
number_plus word h = number_none word (λ n l e.
    let k = (decimal_is_IsNumeral n l).0.0 in
    let d = decimal_byte n 0 l k in
    let first : get_or (decimal n) 0 0 ≡ 43 = sym (ap (λ (w : List ℕ). get_or w 0 0) e) ∙ h in
    omega (arith, d, first))

-- and none of two digits or more with a zero
pub number_zero : (word : List ℕ) → get_or word 0 0 ≡ 48 → 1 < length word → number_at word ≡ None
number_zero word h long = number_none word (λ n l e.
    let first : get_or (decimal n) 0 0 ≡ 48 = sym (ap (λ (w : List ℕ). get_or w 0 0) e) ∙ h in
    let len : length (decimal n) ≡ length word = sym (ap length e) in
    elim (cases_eq n 0) [
      | inl z ↦ let one = ap length (ap decimal z ∙ decimal_digit 0 (omega arith)) in omega (arith, one, len, long)
      | inr nz ↦ let f = first_decimal n (omega (arith, nz)) l in omega (arith, f, first)
    ])

-- a word that begins with neither is read as its number, where it is one
pub number_parsed : {E : Type 0} (word : List ℕ) (r : Result ℕ E) → get_or word 0 0 ≢ 43 → (get_or word 0 0 ≡ 48 → length word ≤ 1)
    → ParsesUnsigned 64 10 word r → result_ok r ≡ number_at word
number_parsed word (Ok n) plus zero h =
    let same = without_leading_plus_none word plus in
    let digits : IsNumeral 10 word = subst (IsNumeral 10) same h.0.0 in
    let value : n ≡ digits_value 10 word = h.1 ∙ ap (digits_value 10) same in
    let small : digits_value 10 word < 2 ^ 64 = subst (λ (w : List ℕ). digits_value 10 w < 2 ^ 64) same h.0.1 in
    sym (number_is word n (sym value) (subst (λ (m : ℕ). m < 2 ^ 64) (sym value) small)
    (sym (decimal-digits_value own word digits.1 digits.0 (λ z. omega (arith, zero z, digits.0)) small) ∙ ap decimal (sym value)))
number_parsed word (Err e) plus zero h =
    let same = without_leading_plus_none word plus in
    sym (number_none word (λ n l spelled.
    let d = decimal_is_IsNumeral n l in
    let numeral : IsNumeral 10 word = subst (IsNumeral 10) (sym spelled) d.0 in
    let value : digits_value 10 word ≡ n = ap (digits_value 10) spelled ∙ d.1 in
    h (subst (λ (w : List ℕ). IsNumeral 10 w × (digits_value 10 w < 2 ^ 64)) (sym same)
    (numeral, subst (λ (m : ℕ). m < 2 ^ 64) (sym value) l))))
