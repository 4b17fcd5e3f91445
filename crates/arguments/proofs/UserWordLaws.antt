-- What the words of users say, step by step.
use Rattle.std.proofs.Common.{◌≡◌, ◌≢◌, ℕ, ◌^◌, ◌<◌, Bool, true, cond, List, [], ◌∷◌, ◌++◌, length, get_or, refl, ap, sym, ◌∙◌, arith, append_assoc}
use Rattle.std.specs.Prelude.{◌&&◌, nat_lt, Option, Some, None, Result, Ok, Err, option_and_then}
use Rattle.std.specs.Option.{option_map, ok_or}
use Rattle.std.specs.Result.{result_ok, OkIff}
use Rattle.std.specs.List.{slice_split, position_or_len, before_first, after_first}
use Rattle.std.specs.Str.{all_ascii_digits}
use Rattle.std.specs.Str.Parse.{ParsesUnsigned, IsNumeral, digits_value}
use Rattle.std.proofs.lemmas.Bool.{and_parts, and_from, lt-ltb, ltb-true, ltb-false, cond_both}
use Rattle.std.proofs.lemmas.List.Sums.{fails_before_first}
use Rattle.std.proofs.lemmas.List.Splits.{slice_split_none, slice_split_first}
use Rattle.std.proofs.lemmas.Str.Parse.{IsNumeralModel, numerals_by_value, tells_all_ascii_digits, not_in_digits, parse_plain}
use Rattle.arguments.specs.UserWords.{is_comma, cut_at, is_id, id_at, ids_at}

own : IsNumeralModel (λ ds. all_ascii_digits ds ≡ true) (digits_value 10)
own = numerals_by_value (λ ds. all_ascii_digits ds ≡ true) tells_all_ascii_digits

id_is : (word : List ℕ) → all_ascii_digits word ≡ true → 0 < length word → digits_value 10 word < 2 ^ 32
    → id_at word ≡ Some (digits_value 10 word)
unfolding id_at
id_is word digits some small =
    ap (λ (b : Bool). cond b (Some (digits_value 10 word)) None)
    (and_from (all_ascii_digits word && nat_lt 0 (length word)) (nat_lt (digits_value 10 word) (2 ^ 32))
    (and_from (all_ascii_digits word) (nat_lt 0 (length word)) digits (lt-ltb 0 (length word) some))
    (lt-ltb (digits_value 10 word) (2 ^ 32) small))

id_none : (word : List ℕ) → ¬ ((all_ascii_digits word ≡ true) × (0 < length word) × (digits_value 10 word < 2 ^ 32)) → id_at word ≡ None
unfolding id_at
id_none word none =
    cond_both (is_id word) (Some (digits_value 10 word)) None (λ (o : Option ℕ). o ≡ None)
    (λ e.
    let p = and_parts (all_ascii_digits word && nat_lt 0 (length word)) (nat_lt (digits_value 10 word) (2 ^ 32)) e in
    let q = and_parts (all_ascii_digits word) (nat_lt 0 (length word)) p.0 in
    absurd (none (q.0, ltb-true 0 (length word) q.1, ltb-true (digits_value 10 word) (2 ^ 32) p.1)))
    (λ e. refl)

-- no id begins with a plus sign
pub id_plus : (word : List ℕ) → get_or word 0 0 ≡ 43 → id_at word ≡ None
id_plus word plus = id_none word (λ p. not_in_digits own word 43 p.0 (λ r. omega (arith, r.0)) 0 p.1 plus)

-- of a word with no plus sign at its front an id is what `parse` gives
pub id_parsed : {E : Type 0} (word : List ℕ) (r : Result ℕ E) → get_or word 0 0 ≢ 43 → ParsesUnsigned 32 10 word r
    → result_ok r ≡ id_at word
id_parsed {E} word (Ok n) plain h =
    let p = parse_plain own {E = E} 32 word (Ok n) h plain in
    ap (λ (m : ℕ). Some m) p.1 ∙ sym (id_is word p.0.0 p.0.1 p.0.2)
id_parsed {E} word (Err e) plain h = sym (id_none word (parse_plain own {E = E} 32 word (Err e) h plain))

-- of a word that may have a plus sign at its front what is behind it is read
pub id_read : {E : Type 0} (word : List ℕ) (r : Result ℕ E)
    → OkIff r (IsNumeral 10 word × (digits_value 10 word < 2 ^ 32)) (digits_value 10 word) → result_ok r ≡ id_at word
id_read {E} word (Ok n) h =
    ap (λ (m : ℕ). Some m) h.1 ∙ sym (id_is word (own.from word h.0.0.1) h.0.0.0 h.0.1)
id_read {E} word (Err e) h = sym (id_none word (λ p. h ((p.1, own.to word p.0), p.2)))

-- what has been read so far, before what the rest gives
abbrev pub with_front : {A : Type 0} → List A → Option (List A) → Option (List A)
with_front front read = option_map (λ others. front ++ others) read

module _ (test : ℕ → Bool) where
  abbrev pub pieces_by : List ℕ → Option (List ℕ × List ℕ) → List (List ℕ)
  pieces_by text None = text ∷ []
  pieces_by text (Some parts) = parts.0 ∷ slice_split test parts.1

  -- the pieces of a text, by whether it is cut at a byte
  pub split_by : (text : List ℕ) (cut : Option (List ℕ × List ℕ)) → cut_at test text ≡ cut → slice_split test text ≡ pieces_by text cut
  split_by text cut is =
      let at = position_or_len test text in
      cond_both (nat_lt at (length text)) (Some (before_first test text, after_first test text)) None
      (λ found. slice_split test text ≡ pieces_by text found)
      (λ there. slice_split_first test text 0 (ltb-true at (length text) there))
      (λ none.
      let whole = ltb-false at (length text) none in
      slice_split_none test text (λ k d s. fails_before_first test text k d (omega (arith, whole))))
      ∙ ap (pieces_by text) is

-- a step of the loop over the words
pub ids_more : (front text : List ℕ) (parts : List ℕ × List ℕ) (id : ℕ) (read : Option (List ℕ)) → cut_at is_comma text ≡ Some parts
    → id_at parts.0 ≡ Some id → with_front front (ids_at (slice_split is_comma text)) ≡ read
    → with_front (front ++ (id ∷ [])) (ids_at (slice_split is_comma parts.1)) ≡ read
ids_more front text parts id read e f h =
    elim (ids_at (slice_split is_comma parts.1)) as
    (λ rest. with_front (front ++ (id ∷ [])) rest ≡ with_front front (option_map (λ ids. id ∷ ids) rest)) [
      | None ↦ refl
      | Some others ↦ ap (λ (xs : List ℕ). Some xs) (append_assoc front (id ∷ []) others)
    ]
    ∙ ap (λ (first : Option ℕ).
    with_front front (option_and_then (λ i. option_map (λ ids. i ∷ ids) (ids_at (slice_split is_comma parts.1))) first)) (sym f)
    ∙ ap (λ (ws : List (List ℕ)). with_front front (ids_at ws)) (sym (split_by is_comma text (Some parts) e))
    ∙ h

-- the last word
pub ids_last : (front text : List ℕ) (id : ℕ) (read : Option (List ℕ)) → cut_at is_comma text ≡ None → id_at text ≡ Some id
    → with_front front (ids_at (slice_split is_comma text)) ≡ read → read ≡ Some (front ++ (id ∷ []))
ids_last front text id read e f h =
    sym h
    ∙ ap (λ (ws : List (List ℕ)). with_front front (ids_at ws)) (split_by is_comma text None e)
    ∙ ap (λ (first : Option ℕ). with_front front (option_and_then (λ i. Some (i ∷ [])) first)) f

-- a word that is no id
pub ids_bad : (front text : List ℕ) (parts : List ℕ × List ℕ) (read : Option (List ℕ)) → cut_at is_comma text ≡ Some parts
    → id_at parts.0 ≡ None → with_front front (ids_at (slice_split is_comma text)) ≡ read → read ≡ None
ids_bad front text parts read e f h =
    sym h
    ∙ ap (λ (ws : List (List ℕ)). with_front front (ids_at ws)) (split_by is_comma text (Some parts) e)
    ∙ ap (λ (first : Option ℕ).
    with_front front (option_and_then (λ i. option_map (λ ids. i ∷ ids) (ids_at (slice_split is_comma parts.1))) first)) f

pub ids_last_bad : (front text : List ℕ) (read : Option (List ℕ)) → cut_at is_comma text ≡ None → id_at text ≡ None
    → with_front front (ids_at (slice_split is_comma text)) ≡ read → read ≡ None
ids_last_bad front text read e f h =
    sym h
    ∙ ap (λ (ws : List (List ℕ)). with_front front (ids_at ws)) (split_by is_comma text None e)
    ∙ ap (λ (first : Option ℕ). with_front front (option_and_then (λ i. Some (i ∷ [])) first)) f

pub ok_or_some : {E : Type 0} (o : Option ℕ) (x : ℕ) (fault : E) → Ok x ≡ ok_or o fault → o ≡ Some x
ok_or_some None x fault h = cc
ok_or_some (Some y) x fault h = cc

pub ok_or_none : {E : Type 0} (o : Option ℕ) (met fault : E) → Err met ≡ ok_or o fault → o ≡ None
ok_or_none None met fault h = refl
ok_or_none (Some y) met fault h = cc
