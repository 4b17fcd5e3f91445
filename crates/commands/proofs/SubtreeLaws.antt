-- The subtrees of a text, line by line.
use Rattle.std.proofs.Common.{◌≡◌, ◌≢◌, ℕ, ◌+◌, ◌≤◌, Bool, true, false, cond, List, [], ◌∷◌, ◌++◌, length, take, take_all, arith, refl, ap, sym, ◌∙◌, append_assoc}
use Rattle.std.specs.Prelude.{nat_lt, codes, Option, Some, None, Result, Ok, Err}
use Rattle.std.specs.List.{slice_split, join_with_byte, flat_map}
use Rattle.std.specs.Option.{option_map}
use Rattle.std.specs.Str.{IsUtf8, is_utf8}
use Rattle.std.proofs.lemmas.Bool.Decides.{nat_tests}
use Rattle.std.proofs.lemmas.List.Splits.{join_with_byte-slice_split}
use Rattle.std.proofs.lemmas.Str.{IsUtf8-from_is_utf8, is_utf8-from_IsUtf8}
use Rattle.cg_cgroup.specs.Paths.{Names, path_at}
use Rattle.cg_cli.specs.AllPairs.{read_then}
use Rattle.cg_cli.specs.Replays.{is_newline}
use Rattle.cg_faults.specs.declared.fault.CliFault.{CliFault}
use Rattle.commands.specs.Lines.{end_fault, nothing_unless, followed_by, pieces_read, longest_lines, lines_read, one_read}
use Rattle.commands.specs.SubtreeLines.{subtree_read, subtree_line_read, some_named, subtrees_read, AreLinesOf}
use Rattle.commands.proofs.LineLaws.{some_pieces}

-- ---- a line

-- one that isn't UTF-8
pub no_text : (line : List ℕ) → ¬ (IsUtf8 line) → subtree_read line ≡ None
no_text line none =
    elim (is_utf8 line) as (λ b. is_utf8 line ≡ b → cond b (option_map (λ path. line) (path_at line)) None ≡ None) [
      | true ↦ λ is. absurd (none (IsUtf8-from_is_utf8 line is))
      | false ↦ λ _. refl
    ] refl

-- one that is a path
pub path_read : (line text : List ℕ) (path : Names) → text ≡ line → IsUtf8 line → path_at text ≡ Some path
    → subtree_read line ≡ Some text
path_read line text path same utf8 is =
    ap (λ b. cond b (option_map (λ path. line) (path_at line)) None) (is_utf8-from_IsUtf8 line utf8)
    ∙ ap (option_map (λ path. line)) (ap path_at (sym same) ∙ is) ∙ ap Some (sym same)

-- one that is text, and no path
pub no_path : (line text : List ℕ) → text ≡ line → path_at text ≡ None → subtree_read line ≡ None
no_path line text same none = by_tests (is_utf8 line) (path_at line) (ap path_at (sym same) ∙ none)
  where
    by_tests : (b : Bool) (path : Option Names) → path ≡ None → cond b (option_map (λ path. line) path) None ≡ None
    by_tests true (Some path) is = cc
    by_tests true None is = refl
    by_tests false path is = refl

-- what a line names is itself
read_is : (line named : List ℕ) → subtree_read line ≡ Some named → named ≡ line
read_is line named is = by_tests (is_utf8 line) (path_at line) is
  where
    by_tests : (b : Bool) (path : Option Names) → cond b (option_map (λ path. line) path) None ≡ Some named → named ≡ line
    by_tests true (Some path) same = cc
    by_tests true None same = let never : ⊥ = cc in absurd never
    by_tests false path same = let never : ⊥ = cc in absurd never

-- ---- what was read are the lines of the text

abbrev with_newline : List ℕ → List ℕ
with_newline line = line ++ codes "\n"

no_fault : {A : Type 0} (fault : CliFault) (x : A) → ◌≡◌ {A = Result A CliFault} (Err fault) (Ok x) → ⊥
no_fault fault x is = cc

ok_is : {A : Type 0} (x y : A) → ◌≡◌ {A = Result A CliFault} (Ok x) (Ok y) → y ≡ x
ok_is x y is = cc

-- what comes of the last piece
last_is : (long : Bool) (done : ℕ) (piece : List ℕ) (named : List (List ℕ)) → nothing_unless (end_fault long done piece) ≡ Ok named
    → (long ≡ false) × (piece ≡ flat_map with_newline named)
last_is true done piece named is = absurd (no_fault _ named is)
last_is false done [] named is = (refl, sym (ap (flat_map with_newline) (ok_is [] named is)))
last_is false done (b ∷ bs) named is = absurd (no_fault _ named is)

-- and of a line before others
first_is : (done : ℕ) (piece : List ℕ) (one : Option (List ℕ)) → one ≡ subtree_read piece → (rest : Result (List (List ℕ)) CliFault)
    → (named : List (List ℕ)) → followed_by (one_read done one) rest ≡ Ok named
    → (others : List (List ℕ)) × (rest ≡ Ok others) × (named ≡ piece ∷ others)
first_is done piece None of rest named is = absurd (no_fault _ named is)
first_is done piece (Some line) of (Err fault) named is = absurd (no_fault fault named is)
first_is done piece (Some line) of (Ok others) named is =
    (others, refl, ok_is (line ∷ others) named is ∙ ap (λ (l : List ℕ). l ∷ others) (read_is piece line (sym of)))

pieces_are : (long : Bool) (done : ℕ) (piece : List ℕ) (pieces named : List (List ℕ))
    → pieces_read subtree_line_read long done (piece ∷ pieces) ≡ Ok named
    → (long ≡ false) × (join_with_byte 10 (piece ∷ pieces) ≡ flat_map with_newline named)
pieces_are long done piece [] named is = last_is long done piece named is
pieces_are long done piece (next ∷ pieces) named is =
    let first =
    first_is done piece (subtree_read piece) refl (pieces_read subtree_line_read long (done + 1) (next ∷ pieces)) named is in
    let others = pieces_are long (done + 1) next pieces first.0 first.1 in (
      others.0,
      ap (λ (rest : List ℕ). piece ++ (10 ∷ rest)) others.1 ∙ sym (append_assoc piece (codes "\n") (flat_map with_newline first.0))
          ∙ ap (flat_map with_newline) (sym first.2),
    )

some_piece : (text : List ℕ) (pieces : List (List ℕ)) → slice_split is_newline text ≡ pieces → (long : Bool) (named : List (List ℕ))
    → pieces_read subtree_line_read long 0 pieces ≡ Ok named
    → (long ≡ false) × (text ≡ flat_map with_newline named)
some_piece text [] is long named read = let never : ⊥ = let cut = some_pieces text in cc in absurd never
some_piece text (piece ∷ pieces) is long named read =
    let found = pieces_are long 0 piece pieces named read in
    (found.0, sym (join_with_byte-slice_split 10 text) ∙ ap (join_with_byte 10) is ∙ found.1)

-- of those that are named there is one
some_are : (lines : Result (List (List ℕ)) CliFault) (subtrees : List (List ℕ)) → read_then lines some_named ≡ Ok subtrees
    → (lines ≡ Ok subtrees) × (subtrees ≢ [])
some_are (Err fault) subtrees is = absurd (no_fault fault subtrees is)
some_are (Ok []) subtrees is = absurd (no_fault _ subtrees is)
some_are (Ok (subtree ∷ others)) subtrees is = (is, λ none. cc)

front_whole : (n : ℕ) (text : List ℕ) → nat_lt n (length text) ≡ false → length text ≤ n
front_whole n text is = grind (arith, nat_tests)

-- A text that was read has the lines that were named and nothing else, and isn't longer than is looked at.
pub are_lines : (text : List ℕ) (subtrees : List (List ℕ)) → subtrees_read text ≡ Ok subtrees
    → AreLinesOf text subtrees × (length text ≤ longest_lines)
are_lines text subtrees is =
    let read = some_are (lines_read subtree_line_read text) subtrees is in
    let front = take longest_lines text in
    let found = some_piece front (slice_split is_newline front) refl (nat_lt longest_lines (length text)) subtrees read.0 in
    let short = front_whole longest_lines text found.0 in
    (record { whole = sym (take_all longest_lines text short) ∙ found.1; some = read.1 }, short)
