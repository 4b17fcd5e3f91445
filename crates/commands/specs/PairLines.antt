-- The pairs of a user and a subtree that the lines of a text name, where the lines are those that `audit` with `--all` writes. Own.
use Rattle.std.specs.Prelude.{◌≡◌, ◌⊎◌, ℕ, ◌+◌, Bool, true, false, ◌&&◌, ◌||◌, nat_le, cond, List, [], ◌∷◌, length, take, drop, codes, is_some, Option, None, option_and_then, Result, Ok, Err}
use Rattle.std.specs.Option.{option_map}
use Rattle.std.specs.Str.{is_utf8}
use Rattle.cg_cgroup.specs.Paths.{path_at, same_name}
use Rattle.cg_cgroup.specs.declared.files.Vocabulary.TheVariants.{Format4}
use Rattle.cg_lines.specs.LineReading.{operation_at}
use Rattle.cg_lines.specs.declared.lines.fault.LineFault.TheVariants.{BadWord}
use Rattle.arguments.specs.UserWords.{pair_at}
use Rattle.cg_cli.specs.AllPairs.{read_then}
use Rattle.cg_faults.specs.declared.fault.CliFault.{CliFault}
use Rattle.cg_faults.specs.declared.fault.CliFault.TheVariants.{Line, NoPair}
use Rattle.commands.specs.Lines.{LineReading, one_read, lines_read}

-- a uid and gids, and the path of a subtree
abbrev pub GivenPair : Type 0
GivenPair = (ℕ × List ℕ) × List ℕ

-- A pair, where what names the subtree is a path.
abbrev pub with_path : GivenPair → Option GivenPair
with_path pair = option_map (λ path. pair) (path_at pair.1)

abbrev pub words_read : List ℕ → Option GivenPair
words_read words = cond (is_utf8 words) (option_and_then with_path (pair_at words)) None

-- a line that begins as one that names a pair
abbrev pub is_pair_line : List ℕ → Bool
is_pair_line line = same_name (take 5 line) (codes "pair ")

-- the first line of an answer to a pair
abbrev pub is_answer_line : List ℕ → Bool
is_answer_line line =
    same_name line (codes "contained") || same_name line (codes "escapes") || same_name (take 10 line) (codes "unsettled ")

-- the line of an operation, of those that an escape of a tree of any format may have
abbrev pub is_operation_line : List ℕ → Bool
is_operation_line line = nat_le (length line) 8192 && is_some (operation_at Format4 line)

-- a line that names no pair
abbrev pub other_read : ℕ → Bool → Result (List GivenPair) CliFault
other_read done true = Ok []
other_read done false = Err (Line (done + 1) BadWord)

-- the pair of a line; none where it is another that `audit` writes
abbrev pub line_read : LineReading GivenPair
line_read done line =
    cond (is_pair_line line) (one_read done (words_read (drop 5 line))) (other_read done (is_answer_line line || is_operation_line line))

-- what `audit` writes where it has no pair to list
abbrev pub nothing_listed : List ℕ
nothing_listed = codes "contained\n"

-- Some pair is asked for. Where there is none the text has to be the one that says that nothing was to be listed.
abbrev pub asked_of : List ℕ → List GivenPair → Result (List GivenPair) CliFault
asked_of text [] = cond (same_name text nothing_listed) (Ok []) (Err NoPair)
asked_of text (pair ∷ pairs) = Ok (pair ∷ pairs)

-- The pairs of a text, in the order of its lines.
abbrev pub pairs_read : List ℕ → Result (List GivenPair) CliFault
pairs_read text = read_then (lines_read line_read text) (asked_of text)

-- A text that was answered names a pair, or is what `audit` writes where it has none to list.
abbrev pub AsksSomething : List ℕ → Type 0
AsksSomething text = (text ≡ nothing_listed) ⊎ ((pair : GivenPair) × (others : List GivenPair) × (pairs_read text ≡ Ok (pair ∷ others)))
