-- The names of probes, and the first of them that is free.
use Rattle.std.proofs.Common.{◌≡◌, ℕ, zero, suc, ◌+◌, ◌-◌, ◌/◌, ◌%◌, ◌<◌, ◌≤◌, Bool, true, false, cond, not, List, [], ◌∷◌, ◌++◌, length, find, nat_eq, nat_le, Option, Some, None, option_and_then, codes, decimal, refl, sym, ap, ◌∙◌, arith, true≢false}
use Rattle.std.specs.Fmt.{digit_glyph, digits_onto, digits}
use Rattle.std.specs.List.{list_all}
use Rattle.std.proofs.lemmas.Bool.{false_from_ne_true, and_from, leb-true, leb-false, eqb-true, eqb-false, and_parts, lt-ltb, le-leb}
use Rattle.std.proofs.lemmas.Option.{none-some}
use Rattle.std.proofs.lemmas.List.{length-append}
use Rattle.std.proofs.lemmas.List.Folds.{list_all-append}
use Rattle.cg_cgroup.specs.Paths.{Name, Names, IsPath, is_path, is_name, is_word, is_reserved, is_name_byte, path_text}
use Rattle.cg_cgroup.specs.PathText.{names_text}
use Rattle.cg_cgroup.proofs.PathNames.{IsPath-push, names_text-push}
use Rattle.cg_cgroup.proofs.Options.{same_some}
use Rattle.cg_model.specs.Tries.{probe, numbers_from}
use Rattle.cg_tries.specs.Finding.{short_probe}

-- ---- numbers in turn

pub numbers_next : (p : ℕ → Bool) (number count : ℕ) → number < count
    → find p (numbers_from number (count - number))
    ≡ cond (p number) (Some number) (find p (numbers_from (number + 1) (count - (number + 1))))
numbers_next p number count h =
    let e : count - number ≡ suc (count - (number + 1)) = omega arith in
    let f : suc number ≡ number + 1 = omega arith in
    ap (λ k. find p (numbers_from number k)) e ∙ ap (λ k. cond (p number) (Some number) (find p (numbers_from k (count - (number + 1))))) f

-- ---- digits

digits-longer : (k n : ℕ) (rest : List ℕ) → length rest ≤ length (digits_onto k 10 false n rest)
digits-longer zero n rest = omega arith
digits-longer (suc k) n rest =
    elim (nat_eq (n / 10) 0) as (λ b. length rest ≤ length
    (cond b (digit_glyph false (n % 10) ∷ rest) (digits_onto k 10 false (n / 10) (digit_glyph false (n % 10) ∷ rest)))) [
      | true ↦ omega arith
      | false ↦ let h = digits-longer k (n / 10) (digit_glyph false (n % 10) ∷ rest) in omega (arith, h)
    ]

digits-rising : (k m n : ℕ) (rest more : List ℕ) → m ≤ n → length rest ≤ length more
    → length (digits_onto k 10 false m rest) ≤ length (digits_onto k 10 false n more)
digits-rising zero m n rest more h l = l
digits-rising (suc k) m n rest more h l =
    let less : m / 10 ≤ n / 10 = omega (arith, h) in
    elim (nat_eq (m / 10) 0) as (λ b. nat_eq (m / 10) 0 ≡ b → length
    (cond b (digit_glyph false (m % 10) ∷ rest) (digits_onto k 10 false (m / 10) (digit_glyph false (m % 10) ∷ rest))) ≤ length
    (digits_onto (suc k) 10 false n more)) [
      | true ↦
          λ e. elim (nat_eq (n / 10) 0) as (λ b. length (digit_glyph false (m % 10) ∷ rest) ≤ length
          (cond b (digit_glyph false (n % 10) ∷ more) (digits_onto k 10 false (n / 10) (digit_glyph false (n % 10) ∷ more)))) [
            | true ↦ omega (arith, l)
            | false ↦ let longer = digits-longer k (n / 10) (digit_glyph false (n % 10) ∷ more) in omega (arith, l, longer)
          ]
      | false ↦
          λ e. elim (nat_eq (n / 10) 0) as (λ b. nat_eq (n / 10) 0 ≡ b
          → length (digits_onto k 10 false (m / 10) (digit_glyph false (m % 10) ∷ rest)) ≤ length
          (cond b (digit_glyph false (n % 10) ∷ more) (digits_onto k 10 false (n / 10) (digit_glyph false (n % 10) ∷ more)))) [
            | true ↦ λ f. absurd (eqb-false (m / 10) 0 e (let z = eqb-true (n / 10) 0 f in omega (arith, z, less)))
            | false ↦
                λ f. digits-rising k (m / 10) (n / 10) (digit_glyph false (m % 10) ∷ rest) (digit_glyph false (n % 10) ∷ more) less
                (omega (arith, l))
          ] refl
    ] refl

digits-short : (k n : ℕ) (rest : List ℕ) → length (digits_onto k 10 false n rest) ≤ k + length rest
digits-short zero n rest = omega arith
digits-short (suc k) n rest =
    elim (nat_eq (n / 10) 0) as (λ b. length
    (cond b (digit_glyph false (n % 10) ∷ rest) (digits_onto k 10 false (n / 10) (digit_glyph false (n % 10) ∷ rest))) ≤ suc k + length
    rest) [
      | true ↦ omega arith
      | false ↦ let h = digits-short k (n / 10) (digit_glyph false (n % 10) ∷ rest) in omega (arith, h)
    ]

pub decimal-rising : (m n : ℕ) → m ≤ n → length (decimal m) ≤ length (decimal n)
unfolding digits
decimal-rising m n h = digits-rising 64 m n [] [] h (omega arith)

-- ---- names

name_digit : (d : ℕ) → d < 10 → is_name_byte (digit_glyph false d) ≡ true
name_digit d h =
    ap is_name_byte (ap (λ b. cond b (48 + d) (87 + d)) (lt-ltb d 10 h))
    ∙ and_from _ _ (and_from _ _ (le-leb 33 (48 + d) (omega arith)) (le-leb (48 + d) 126 (omega (arith, h))))
    (ap not (false_from_ne_true _ (λ e. let k = eqb-true (48 + d) 47 e in absurd (omega (arith, k)))))

name_glyph : (n : ℕ) → is_name_byte (digit_glyph false (n % 10)) ≡ true
name_glyph n = name_digit (n % 10) (omega arith)

name_digits : (k n : ℕ) (rest : List ℕ) → list_all is_name_byte rest ≡ true → list_all is_name_byte (digits_onto k 10 false n rest) ≡ true
name_digits zero n rest h = h
name_digits (suc k) n rest h =
    elim (nat_eq (n / 10) 0) as (λ b. list_all is_name_byte
    (cond b (digit_glyph false (n % 10) ∷ rest) (digits_onto k 10 false (n / 10) (digit_glyph false (n % 10) ∷ rest))) ≡ true) [
      | true ↦ and_from _ _ (name_glyph n) h
      | false ↦ name_digits k (n / 10) (digit_glyph false (n % 10) ∷ rest) (and_from _ _ (name_glyph n) h)
    ]

pub is_name-probe : (number : ℕ) → is_name (codes "probe" ++ decimal number) ≡ true
unfolding digits
is_name-probe number =
    let short = digits-short 64 number [] in
    let long = length-append (codes "probe") (decimal number) in
    let name = codes "probe" ++ decimal number in
    let bytes : list_all is_name_byte name ≡ true =
    list_all-append is_name_byte (codes "probe") (decimal number) ∙ name_digits 64 number [] refl in
    and_from (is_word name) (not (is_reserved name)) (and_from _ _
    (and_from _ _ (lt-ltb 0 (length name) (omega (arith, long))) (le-leb (length name) 255 (omega (arith, short, long)))) bytes) refl

text_more : (ancestor : Names) (name : Name) → path_text (ancestor ++ name ∷ []) ≡ names_text ancestor ++ 47 ∷ name
text_more [] name = names_text-push [] name
text_more (first ∷ ancestor) name = names_text-push (first ∷ ancestor) name

pub length-probe : (ancestor : Names) (number : ℕ)
    → length (path_text (probe ancestor number)) ≡ length (names_text ancestor) + 6 + length (decimal number)
length-probe ancestor number =
    ap length (text_more ancestor (codes "probe" ++ decimal number))
    ∙ length-append (names_text ancestor) (47 ∷ (codes "probe" ++ decimal number)) ∙ omega arith

-- ---- paths

pub short-is_path : (ancestor : Names) (number : ℕ) → IsPath (probe ancestor number)
    → short_probe ancestor number ≡ Some (probe ancestor number)
short-is_path ancestor number h =
    ap (λ b. cond b (Some (probe ancestor number)) None) (and_parts (list_all is_name (probe ancestor number)) _ h).1

pub short-not_path : (ancestor : Names) (number : ℕ) → IsPath ancestor → is_path (probe ancestor number) ≡ false
    → short_probe ancestor number ≡ None
short-not_path ancestor number path h =
    let long : nat_le (length (path_text (probe ancestor number))) 4095 ≡ false = false_from_ne_true _ (λ fits.
    let le = leb-true _ _ fits in
    let is : is_path (probe ancestor number) ≡ true = IsPath-push ancestor (codes "probe" ++ decimal number) path (is_name-probe number)
    (let l = length-probe ancestor number in let m = length-append (codes "probe") (decimal number) in omega (arith, le, l, m)) in
    true≢false (sym is ∙ h)) in
    ap (λ b. cond b (Some (probe ancestor number)) None) long

pub short_is : (ancestor : Names) (number : ℕ) (path : Names) → short_probe ancestor number ≡ Some path → probe ancestor number ≡ path
short_is ancestor number path h =
    elim (nat_le (length (path_text (probe ancestor number))) 4095) as
    (λ b. cond b (Some (probe ancestor number)) None ≡ Some path → probe ancestor number ≡ path) [
      | true ↦ λ e. same_some _ _ e
      | false ↦ λ e. absurd (none-some _ e)
    ] h

longer_later : (ancestor : Names) (number : ℕ) → short_probe ancestor number ≡ None → short_probe ancestor (suc number) ≡ None
longer_later ancestor number h =
    let long : nat_le (length (path_text (probe ancestor number))) 4095 ≡ false =
    elim (nat_le (length (path_text (probe ancestor number))) 4095) as
    (λ b. ◌≡◌ {A = Option Names} (cond b (Some (probe ancestor number)) None) None → b ≡ false) [
      | true ↦ λ e. absurd (none-some _ (sym e))
      | false ↦ λ _. refl
    ] h in
    let over = leb-false _ _ long in
    let rising = decimal-rising number (suc number) (omega arith) in
    let before = length-probe ancestor number in
    let after = length-probe ancestor (suc number) in
    ap (λ b. cond b (Some (probe ancestor (suc number))) None) (le_false _ _ (omega (arith, over, rising, before, after)))
  where
    le_false : (a b : ℕ) → b < a → nat_le a b ≡ false
    le_false a b k = false_from_ne_true _ (λ t. let l = leb-true a b t in absurd (omega (arith, l, k)))

-- where a probe is too long, all of greater numbers are
pub none_short : (ancestor : Names) (p : ℕ → Bool) (number count : ℕ) → short_probe ancestor number ≡ None
    → option_and_then (short_probe ancestor) (find p (numbers_from number count)) ≡ None
none_short ancestor p number zero h = refl
none_short ancestor p number (suc count) h =
    elim (p number) as
    (λ b. option_and_then (short_probe ancestor) (cond b (Some number) (find p (numbers_from (suc number) count))) ≡ None) [
      | true ↦ h
      | false ↦ none_short ancestor p (suc number) count (longer_later ancestor number h)
    ]
