-- What words say, read one after another.
use Rattle.std.proofs.Common.{◌≡◌, ℕ, ◌+◌, ◌<◌, List, [], ◌∷◌, ◌++◌, map, length, drop, get_or, refl, ap, sym, ◌∙◌, append_assoc, append-nil, add-one}
use Rattle.std.proofs.Math.Seq.{drop-cons}
use Rattle.std.specs.Prelude.{Option, Some, None, option_and_then}
use Rattle.std.specs.Option.{option_map}
use Rattle.arguments.specs.UserWords.{all_read}
use Rattle.arguments.proofs.UserWordLaws.{with_front}

module _ {A : Type 0} (read : List ℕ → Option A) where
  -- a word that says something
  pub read_more : (front : List A) (word : List ℕ) (words : List (List ℕ)) (x : A) (whole : Option (List A)) → read word ≡ Some x
      → with_front front (all_read read (word ∷ words)) ≡ whole → with_front (front ++ (x ∷ [])) (all_read read words) ≡ whole
  read_more front word words x whole e h =
      elim (all_read read words) as
      (λ rest. with_front (front ++ (x ∷ [])) rest ≡ with_front front (option_map (λ others. x ∷ others) rest)) [
        | None ↦ refl
        | Some others ↦ ap (λ (xs : List A). Some xs) (append_assoc front (x ∷ []) others)
      ]
      ∙ ap (λ (first : Option A). with_front front (option_and_then (λ y. option_map (λ others. y ∷ others) (all_read read words)) first))
      (sym e)
      ∙ h

  -- a word that says nothing
  pub read_none : (front : List A) (word : List ℕ) (words : List (List ℕ)) (whole : Option (List A)) → read word ≡ None
      → with_front front (all_read read (word ∷ words)) ≡ whole → whole ≡ None
  read_none front word words whole e h =
      sym h
      ∙ ap (λ (first : Option A). with_front front (option_and_then (λ y. option_map (λ others. y ∷ others) (all_read read words)) first)) e

  -- no word is left
  pub read_end : (front : List A) (words : List (List ℕ)) (whole : Option (List A)) → words ≡ []
      → with_front front (all_read read words) ≡ whole → whole ≡ Some front
  read_end front words whole e h =
      sym h ∙ ap (λ (ws : List (List ℕ)). with_front front (all_read read ws)) e ∙ ap (λ (xs : List A). Some xs) (append-nil front)

-- the words from one on, of which it is the first
pub words_from : {B : Type 0} (text : B → List ℕ) (words : List B) (i : ℕ) (d : B) → i < length words
    → map text (drop i words) ≡ text (get_or words i d) ∷ map text (drop (i + 1) words)
words_from {B} text words i d lt =
    ap (λ (ws : List B). map text ws) (drop-cons words i d lt)
    ∙ ap (λ (n : ℕ). text (get_or words i d) ∷ map text (drop n words)) (sym (add-one i))
