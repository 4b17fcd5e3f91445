-- What the lines of a text name, line by line.
use Rattle.std.proofs.Common.{◌≡◌, ◌≢◌, ◌⊎◌, ℕ, ◌+◌, ◌<◌, ◌≤◌, Bool, true, false, cond, List, [], ◌∷◌, ◌++◌, length, take, get_or, add-one, take-append-drop, take_all, arith, refl, ap, sym, subst, inl, inr, ◌∙◌, append_assoc, append-nil}
use Rattle.std.specs.Prelude.{drop, nat_lt, Option, Some, None, Result, Ok, Err}
use Rattle.std.specs.List.{All, slice_split, onto_first}
use Rattle.std.proofs.Math.Seq.{drop-cons}
use Rattle.std.proofs.lemmas.Bool.Decides.{nat_tests}
use Rattle.std.proofs.lemmas.List.{length-take, length-take-le}
use Rattle.std.proofs.lemmas.List.Splits.{slice_split_none, slice_split_at}
use Rattle.cg_format.specs.Readings.{Reading, OnText}
use Rattle.cg_cli.specs.Asking.{CallEnding}
use Rattle.cg_cli.specs.Replays.{is_newline}
use Rattle.cg_cli.proofs.ReadingOf.{on_text}
use Rattle.cg_faults.specs.declared.fault.CliFault.{CliFault}
use Rattle.cg_faults.specs.declared.fault.CliFault.TheVariants.{Write, NoMemory}
use Rattle.commands.specs.Lines.{LineReading, end_fault, nothing_unless, followed_by, pieces_read}
use Rattle.commands.specs.Requests.{OnLines, AnswersLines, IsUnread, IsTree, IsOtherText, OnBothTexts}
use Rattle.commands.proofs.RequestLaws.{Keeps-refl, unread}

-- a text without a newline
pub uncut : (bytes : List ℕ) (i : ℕ) → length bytes ≤ i → All (λ b. is_newline b ≡ false) (take i bytes)
    → slice_split is_newline bytes ≡ bytes ∷ []
uncut bytes i end front =
    slice_split_none is_newline bytes (subst (All (λ b. is_newline b ≡ false)) (take_all i bytes end) front)

-- a text up to its first newline, and behind it
pub cut_here : (bytes : List ℕ) (i d : ℕ) → i < length bytes → All (λ b. is_newline b ≡ false) (take i bytes)
    → get_or bytes i d ≡ 10 → slice_split is_newline bytes ≡ take i bytes ∷ slice_split is_newline (drop (i + 1) bytes)
cut_here bytes i d within front newline =
    ap (slice_split is_newline) (sym whole)
    ∙ slice_split_at is_newline (take i bytes) (get_or bytes i d) (drop (i + 1) bytes) front (ap is_newline newline)
  where
    whole : take i bytes ++ (get_or bytes i d ∷ drop (i + 1) bytes) ≡ bytes
    whole = rw (add-one, ← drop-cons bytes i d within) (take-append-drop i bytes)

-- a text is looked at up to a number of bytes
pub length_front : (n : ℕ) (text : List ℕ) → n < length text → n ≡ length (take n text)
length_front n text more = sym (length-take-le n text (omega arith))

pub front_fits : (n : ℕ) (text : List ℕ) → length (take n text) < n + 1
front_fits n text = omega (arith, length-take n text)

pub long_read : {A : Type 0} (line : LineReading A) (n : ℕ) (text : List ℕ) → n < length text
    → pieces_read line (nat_lt n (length text)) 0 (slice_split is_newline (take n text))
    ≡ pieces_read line true 0 (slice_split is_newline (take n text))
long_read line n text more =
    let long : nat_lt n (length text) ≡ true = grind (arith, nat_tests) in
    ap (λ b. pieces_read line b 0 (slice_split is_newline (take n text))) long

pub short_read : {A : Type 0} (line : LineReading A) (n : ℕ) (text : List ℕ) → length text ≤ n
    → pieces_read line (nat_lt n (length text)) 0 (slice_split is_newline (take n text))
    ≡ pieces_read line false 0 (slice_split is_newline text)
short_read line n text few =
    let short : nat_lt n (length text) ≡ false = grind (arith, nat_tests) in
    ap (λ b. pieces_read line b 0 (slice_split is_newline (take n text))) short
    ∙ ap (λ t. pieces_read line false 0 (slice_split is_newline t)) (take_all n text few)

-- a text has some piece
pub some_pieces : (text : List ℕ) → (piece : List ℕ) × (pieces : List (List ℕ)) × (slice_split is_newline text ≡ piece ∷ pieces)
some_pieces [] = ([], [], refl)
some_pieces (b ∷ bs) =
    let rest = some_pieces bs in
    elim (is_newline b) as (λ t. (piece : List ℕ) × (pieces : List (List ℕ))
    × (cond t ([] ∷ slice_split is_newline bs) (onto_first b (slice_split is_newline bs)) ≡ piece ∷ pieces)) [
      | true ↦ ([], slice_split is_newline bs, refl)
      | false ↦ (b ∷ rest.0, rest.1, ap (onto_first b) rest.2)
    ]

both_again : {A : Type 0} (front more : List A) (back : Result (List A) CliFault)
    → followed_by (Ok front) (followed_by (Ok more) back) ≡ followed_by (Ok (front ++ more)) back
both_again front more (Ok others) = ap Ok (sym (append_assoc front more others))
both_again front more (Err fault) = refl

module _ {A : Type 0} (reads : LineReading A) (long : Bool) (done : ℕ) (rest : List ℕ) (front : List A)
    (whole : Result (List A) CliFault)
    (so_far : followed_by (Ok front) (pieces_read reads long done (slice_split is_newline rest)) ≡ whole) where
  module _ (line others : List ℕ) (is : slice_split is_newline rest ≡ line ∷ slice_split is_newline others) where
    cut : pieces_read reads long done (slice_split is_newline rest)
        ≡ followed_by (reads done line) (pieces_read reads long (done + 1) (slice_split is_newline others))
    cut =
        let behind = some_pieces others in
        ap (pieces_read reads long done) (is ∙ ap (λ l. line ∷ l) behind.2)
        ∙ ap (λ l. followed_by (reads done line) (pieces_read reads long (done + 1) l)) (sym behind.2)

    pub further : (more : List A) → reads done line ≡ Ok more
        → followed_by (Ok (front ++ more)) (pieces_read reads long (done + 1) (slice_split is_newline others)) ≡ whole
    further more read =
        sym (both_again front more (pieces_read reads long (done + 1) (slice_split is_newline others)))
        ∙ ap (λ r. followed_by (Ok front) (followed_by r (pieces_read reads long (done + 1) (slice_split is_newline others)))) (sym read)
        ∙ ap (followed_by (Ok front)) (sym cut) ∙ so_far

    pub stopped : (fault : CliFault) → reads done line ≡ Err fault → whole ≡ Err fault
    stopped fault read =
        sym so_far ∙ ap (followed_by (Ok front)) cut
        ∙ ap (λ r. followed_by (Ok front) (followed_by r (pieces_read reads long (done + 1) (slice_split is_newline others)))) read

  module _ (is : slice_split is_newline rest ≡ rest ∷ []) where
    last : whole ≡ followed_by (Ok front) (nothing_unless (end_fault long done rest))
    last = sym so_far ∙ ap (λ l. followed_by (Ok front) (pieces_read reads long done l)) is

    pub ended : end_fault long done rest ≡ None → whole ≡ Ok front
    ended none =
        last ∙ ap (λ (end : Option CliFault). followed_by (Ok front) (nothing_unless end)) none ∙ ap Ok (append-nil front)

    pub cut_off : (fault : CliFault) → end_fault long done rest ≡ Some fault → whole ≡ Err fault
    cut_off fault found = last ∙ ap (λ (end : Option CliFault). followed_by (Ok front) (nothing_unless end)) found

-- ---- what is answered of a text

module _ {A : Type 0} (lines : List ℕ → Result (List A) CliFault) (Says : List A → Reading → CallEnding) (tree text : List ℕ) where
  -- the first fault of the lines is the answer, or there was no memory
  pub fault_said : (fault : CliFault) → fault ≢ Write → (fault ≢ NoMemory → lines text ≡ Err fault) → (known : Option (List ℕ))
      → AnswersLines lines Says tree text known known (Err fault)
  fault_said Write other stated known = absurd (other refl)
  fault_said NoMemory other stated known = inr (unread known NoMemory (Err NoMemory) refl (inr refl))
  fault_said fault other stated known =
      inl (on_text tree (λ read _.
      subst (λ (named : Result (List A) CliFault). OnLines Says named read known known (Err fault))
      (sym (stated (λ same. cc))) (refl, Keeps-refl known)))

  pub memory_said : (known : Option (List ℕ)) → AnswersLines lines Says tree text known known (Err NoMemory)
  memory_said known = inr (unread known NoMemory (Err NoMemory) refl (inr refl))

  -- and without one it is that of what they name
  pub lines_answered : (named : List A) (old new : Option (List ℕ)) (result : Result ℕ CliFault) → lines text ≡ Ok named
      → OnText tree (λ read. Says named read old new result) → AnswersLines lines Says tree text old new result
  lines_answered named old new result is said =
      inl (
        said.0,
        said.1,
        subst (λ (found : Result (List A) CliFault). OnLines Says found said.0 old new result) (sym is) said.2,
      )

  -- by a call that may end before
  pub call_answered : (named : List A) (old new : Option (List ℕ)) (result : Result ℕ CliFault) → lines text ≡ Ok named
      → OnText tree (λ read. Says named read old new result) ⊎ IsUnread old new result → AnswersLines lines Says tree text old new result
  call_answered named old new result is (inl said) = lines_answered named old new result is said
  call_answered named old new result is (inr ended) = inr ended

  -- on texts that were read before
  pub both_answered : (known other : Option (List ℕ)) (given named : List ℕ) (old new : Option (List ℕ)) (result : Result ℕ CliFault)
      → IsTree known tree → IsOtherText other text → given ≡ tree → named ≡ text → AnswersLines lines Says given named old new result
      → OnBothTexts lines Says known other old new result
  both_answered known other given named old new result of_tree of_text is_tree is_text said =
      inl (
        tree,
        text,
        of_tree,
        of_text,
        subst (λ (named : List ℕ). AnswersLines lines Says tree named old new result) is_text
            (subst (λ (given : List ℕ). AnswersLines lines Says given named old new result) is_tree said),
      )
