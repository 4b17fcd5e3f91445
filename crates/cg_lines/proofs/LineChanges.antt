-- The changes of a control line.
use Rattle.std.proofs.Common.{◌≡◌, ◌≢◌, ℕ, Bool, true, false, cond, List, [], ◌∷◌, ◌++◌, length, refl, ap, sym, ◌∙◌, arith, append_assoc}
use Rattle.std.specs.Prelude.{nat_lt, Option, Some, None}
use Rattle.std.specs.Option.{option_map}
use Rattle.std.specs.List.{slice_split, position_or_len, before_first, after_first}
use Rattle.std.proofs.lemmas.Bool.{ne_eqb, ltb-true, ltb-false}
use Rattle.std.proofs.lemmas.Option.{cond_some, none-some}
use Rattle.std.proofs.lemmas.List.Sums.{fails_before_first}
use Rattle.std.proofs.lemmas.List.Splits.{slice_split_none, slice_split_first}
use Rattle.cg_cgroup.specs.declared.files.Vocabulary.{Vocabulary}
use Rattle.cg_model.specs.declared.changes.Change.{Change}
use Rattle.cg_lines.specs.LineReading.{is_space, cut, change_at, changes_at}
use Rattle.cg_cgroup.specs.Options.{◌>>=◌}

-- a word that begins with neither sign
pub change_none : (vocabulary : Vocabulary) (word : List ℕ) → ((rest : List ℕ) → word ≢ 43 ∷ rest) → ((rest : List ℕ) → word ≢ 45 ∷ rest)
    → change_at vocabulary word ≡ None
unfolding change_at
change_none vocabulary [] plus minus = refl
change_none vocabulary (b ∷ name) plus minus =
    rw (ne_eqb b 43 (λ e. plus name (ap (λ (c : ℕ). c ∷ name) e)), ne_eqb b 45 (λ e. minus name (ap (λ (c : ℕ). c ∷ name) e))) refl

-- what has been read so far, before what the rest gives
abbrev pub with_front : List Change → Option (List Change) → Option (List Change)
with_front front read = option_map (λ others. front ++ others) read

-- a text with a space has its first word, and the words behind the space
pub split_cut : (text : List ℕ) (words : List ℕ × List ℕ) → cut text ≡ Some words
    → slice_split is_space text ≡ words.0 ∷ slice_split is_space words.1
split_cut text words h =
    let at = position_or_len is_space text in
    let p = cond_some (nat_lt at (length text)) (before_first is_space text, after_first is_space text) words h in
    slice_split_first is_space text 0 (ltb-true at (length text) p.0) ∙ ap (λ (w : List ℕ × List ℕ). w.0 ∷ slice_split is_space w.1) p.1

not_cut : {A : Type 0} (b : Bool) (x : A) → cond b (Some x) None ≡ None → b ≡ false
not_cut true x h = absurd (none-some x (sym h))
not_cut false x h = refl

-- the one word of a text without a space
pub split_whole : (text : List ℕ) → cut text ≡ None → slice_split is_space text ≡ text ∷ []
split_whole text h =
    let at = position_or_len is_space text in
    let l = ltb-false at (length text) (not_cut (nat_lt at (length text)) (before_first is_space text, after_first is_space text) h) in
    slice_split_none is_space text (λ k d s. fails_before_first is_space text k d (omega (arith, l)))

-- a step of the loop over the words
pub changes_more : (vocabulary : Vocabulary) (front : List Change) (text : List ℕ) (words : List ℕ × List ℕ) (change : Change)
    (read : Option (List Change))
    → cut text ≡ Some words → change_at vocabulary words.0 ≡ Some change
    → with_front front (changes_at vocabulary (slice_split is_space text)) ≡ read
    → with_front (front ++ (change ∷ [])) (changes_at vocabulary (slice_split is_space words.1)) ≡ read
changes_more vocabulary front text words change read e f h =
    elim (changes_at vocabulary (slice_split is_space words.1)) as
    (λ rest. with_front (front ++ (change ∷ [])) rest ≡ with_front front (rest >>= λ others. Some (change ∷ others))) [
      | None ↦ refl
      | Some others ↦ ap (λ (xs : List Change). Some xs) (append_assoc front (change ∷ []) others)
    ]
    ∙ ap
    (λ (first : Option Change).
    with_front front (first >>= λ c. changes_at vocabulary (slice_split is_space words.1) >>= λ others. Some (c ∷ others)))
    (sym f)
    ∙ ap (λ (ws : List (List ℕ)). with_front front (changes_at vocabulary ws)) (sym (split_cut text words e))
    ∙ h

-- the last word
pub changes_last : (vocabulary : Vocabulary) (front : List Change) (text : List ℕ) (change : Change) (read : Option (List Change))
    → cut text ≡ None
    → change_at vocabulary text ≡ Some change → with_front front (changes_at vocabulary (slice_split is_space text)) ≡ read
    → read ≡ Some (front ++ (change ∷ []))
changes_last vocabulary front text change read e f h =
    sym h
    ∙ ap (λ (ws : List (List ℕ)). with_front front (changes_at vocabulary ws)) (split_whole text e)
    ∙ ap (λ (first : Option Change). with_front front (first >>= λ c. Some (c ∷ []))) f

-- a word that is no change
pub changes_bad : (vocabulary : Vocabulary) (front : List Change) (text : List ℕ) (words : List ℕ × List ℕ) (read : Option (List Change))
    → cut text ≡ Some words
    → change_at vocabulary words.0 ≡ None → with_front front (changes_at vocabulary (slice_split is_space text)) ≡ read → read ≡ None
changes_bad vocabulary front text words read e f h =
    sym h
    ∙ ap (λ (ws : List (List ℕ)). with_front front (changes_at vocabulary ws)) (split_cut text words e)
    ∙ ap
    (λ (first : Option Change).
    with_front front (first >>= λ c. changes_at vocabulary (slice_split is_space words.1) >>= λ others. Some (c ∷ others)))
    f

pub changes_last_bad : (vocabulary : Vocabulary) (front : List Change) (text : List ℕ) (read : Option (List Change)) → cut text ≡ None
    → change_at vocabulary text ≡ None
    → with_front front (changes_at vocabulary (slice_split is_space text)) ≡ read → read ≡ None
changes_last_bad vocabulary front text read e f h =
    sym h
    ∙ ap (λ (ws : List (List ℕ)). with_front front (changes_at vocabulary ws)) (split_whole text e)
    ∙ ap (λ (first : Option Change). with_front front (first >>= λ c. Some (c ∷ []))) f
