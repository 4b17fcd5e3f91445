-- The pairs of a text, line by line.
use Rattle.std.proofs.Common.{◌≡◌, ◌≢◌, ℕ, ◌≤◌, Bool, true, false, cond, List, [], ◌∷◌, length, map, arith, refl, ap, sym, inl, inr, ◌∙◌}
use Rattle.std.specs.Prelude.{drop, nat_le, ◌&&◌, ◌||◌, option_and_then, Option, Some, None, Result, Ok, Err}
use Rattle.std.specs.Option.{option_map}
use Rattle.std.specs.Str.{IsUtf8, is_utf8}
use Rattle.std.specs.Cmp.Lexicographic.{same_text}
use Rattle.std.proofs.lemmas.Bool.Decides.{nat_tests}
use Rattle.std.proofs.lemmas.Str.{IsUtf8-from_is_utf8, is_utf8-from_IsUtf8}
use Rattle.cg_cgroup.specs.Paths.{Names, path_at, same_name}
use Rattle.cg_cgroup.specs.declared.files.Vocabulary.TheVariants.{Format4}
use Rattle.cg_model.specs.declared.operation.Op.{Op}
use Rattle.cg_format.specs.Readings.{Reading}
use Rattle.cg_lines.specs.OperationLines.{spelling, IsInRange}
use Rattle.cg_lines.specs.LineReading.{operation_at}
use Rattle.cg_lines.proofs.LineLaws.{line_again, nothing_read}
use Rattle.cg_cli.specs.AllPairs.{read_then}
use Rattle.cg_cli.specs.Asking.{CallEnding}
use Rattle.cg_faults.specs.declared.fault.CliFault.{CliFault}
use Rattle.cg_faults.specs.declared.fault.CliFault.TheVariants.{NoPair}
use Rattle.arguments.specs.UserWords.{pair_at}
use Rattle.commands.specs.Lines.{one_read, lines_read}
use Rattle.commands.specs.PairLines.{GivenPair, with_path, words_read, is_pair_line, is_answer_line, is_operation_line, other_read, line_read, pairs_read, nothing_listed, asked_of, AsksSomething}
use Rattle.commands.specs.Requests.{OnLines}

-- ---- a line

pub line_pair : (done : ℕ) (line words : List ℕ) (pair : GivenPair) → is_pair_line line ≡ true → words ≡ drop 5 line
    → words_read words ≡ Some pair → line_read done line ≡ Ok (pair ∷ [])
line_pair done line words pair begins is read =
    ap (λ b. cond b (one_read done (words_read (drop 5 line))) (other_read done (is_answer_line line || is_operation_line line))) begins
    ∙ ap (λ w. one_read done (words_read w)) (sym is) ∙ ap (one_read done) read

-- the line of an operation
pub operation_line : (line : List ℕ) (op : Op) → line ≡ spelling op → length line ≤ 8192 → IsInRange Format4 op
    → is_operation_line line ≡ true
operation_line line op is short held =
    let few : nat_le (length line) 8192 ≡ true = grind (arith, nat_tests) in
    let read : operation_at Format4 line ≡ Some op = ap (operation_at Format4) is ∙ line_again Format4 op held in
    rw (few, read) refl

-- one that is no operation's
pub no_operation : (line : List ℕ) → ((op : Op) → IsInRange Format4 op → line ≢ spelling op) → is_operation_line line ≡ false
no_operation line none =
    let read : operation_at Format4 line ≡ None = nothing_read Format4 line none in
    rw read
    (elim (nat_le (length line) 8192) as (λ b. (b && false) ≡ false) [ true ↦ refl | false ↦ refl ])

-- words that aren't UTF-8
pub no_text : (words : List ℕ) → ¬ (IsUtf8 words) → words_read words ≡ None
no_text words none =
    elim (is_utf8 words) as (λ b. is_utf8 words ≡ b → cond b (option_and_then with_path (pair_at words)) None ≡ None) [
      | true ↦ λ is. absurd (none (IsUtf8-from_is_utf8 words is))
      | false ↦ λ _. refl
    ] refl

-- words that name a user and a path
pub pair_read : (words text : List ℕ) (pair : GivenPair) (path : Names) → text ≡ words → IsUtf8 words → pair_at text ≡ Some pair
    → path_at pair.1 ≡ Some path → words_read words ≡ Some pair
pair_read words text pair path same utf8 is of_path =
    ap (λ b. cond b (option_and_then with_path (pair_at words)) None) (is_utf8-from_IsUtf8 words utf8)
    ∙ ap (λ w. option_and_then with_path (pair_at w)) (sym same) ∙ ap (λ p. option_and_then with_path p) is
    ∙ ap (λ p. option_map (λ _. pair) p) of_path

-- ---- a text

-- what comes of a text without a pair, by whether it says that there is none
abbrev listed_or : Bool → Result (List GivenPair) CliFault
listed_or same = cond same (Ok []) (Err NoPair)

some_is : {A B : Type 0} (f : A → B) (x : A) (xs : List A) → map f (x ∷ xs) ≡ [] → ⊥
some_is f x xs is = cc

pub mapped_none : {A B : Type 0} (f : A → B) (xs : List A) → map f xs ≡ [] → xs ≡ []
mapped_none f [] is = refl
mapped_none f (x ∷ xs) is = absurd (some_is f x xs is)

-- some pair is asked for, or the text says that there is none
pub pairs_asked : (text : List ℕ) (pairs : List GivenPair) → lines_read line_read text ≡ Ok pairs → (pairs ≡ [] → text ≡ nothing_listed)
    → pairs_read text ≡ Ok pairs
pairs_asked text [] is listed =
    let same : same_name text nothing_listed ≡ true = ap (λ t. same_name t nothing_listed) (listed refl) in
    ap (λ lines. read_then lines (asked_of text)) is ∙ ap listed_or same
pairs_asked text (pair ∷ pairs) is listed = ap (λ lines. read_then lines (asked_of text)) is

pub nobody_asked : (text : List ℕ) → lines_read line_read text ≡ Ok [] → text ≢ nothing_listed → pairs_read text ≡ Err NoPair
nobody_asked text is other =
    ap (λ lines. read_then lines (asked_of text)) is
    ∙ elim (same_name text nothing_listed) as (λ b. b ≡ same_name text nothing_listed → listed_or b ≡ Err NoPair) [
      | true ↦ λ same. absurd (other (same_text text nothing_listed same))
      | false ↦ λ _. refl
    ] refl

no_fault_is : {A : Type 0} (fault : CliFault) (x : A) → ◌≡◌ {A = Result A CliFault} (Err fault) (Ok x) → ⊥
no_fault_is fault x is = cc

only_by_test : (text : List ℕ) (same : Bool) → same ≡ same_name text nothing_listed → listed_or same ≡ Ok []
    → text ≡ nothing_listed
only_by_test text true same is = same_text text nothing_listed same
only_by_test text false same is = absurd (no_fault_is NoPair [] is)

not_empty : (pair : GivenPair) (pairs : List GivenPair) → ◌≡◌ {A = Result (List GivenPair) CliFault} (Ok (pair ∷ pairs)) (Ok []) → ⊥
not_empty pair pairs is = cc

-- where there is no pair the text says so
only_listed : (text : List ℕ) (lines : Result (List GivenPair) CliFault) → read_then lines (asked_of text) ≡ Ok [] → text ≡ nothing_listed
only_listed text (Err fault) is = absurd (no_fault_is fault [] is)
only_listed text (Ok []) is = only_by_test text (same_name text nothing_listed) refl is
only_listed text (Ok (pair ∷ pairs)) is = absurd (not_empty pair pairs is)

-- what is answered with a status is of something
pub asked_about : (Says : List GivenPair → Reading → CallEnding) (text : List ℕ) (pairs : Result (List GivenPair) CliFault)
    → pairs ≡ pairs_read text → (tree : Reading) (old new : Option (List ℕ)) (status : ℕ) → OnLines Says pairs tree old new (Ok status)
    → AsksSomething text
asked_about Says text (Err fault) is tree old new status said = let never : ⊥ = let same = said.0 in cc in absurd never
asked_about Says text (Ok []) is tree old new status said = inl (only_listed text (lines_read line_read text) (sym is))
asked_about Says text (Ok (pair ∷ pairs)) is tree old new status said = inr (pair, pairs, sym is)
