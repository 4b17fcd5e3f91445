-- What status 0 says, by the words of a command line, the files that there are and standard input alone. Own.
use Rattle.std.specs.Prelude.{◌≡◌, ◌≢◌, ℕ, List, map, codes, Option, Some, None, IfSome}
use Rattle.clap.specs.Matches.{first_value, one_text}
use Rattle.clap.specs.Walk.{Text}
use Rattle.arguments.specs.Given.{words_at, file_at, user_given, users_given, everyone_given, wanted_command}
use Rattle.arguments.specs.Words.{NamesCommand}
use Rattle.arguments.specs.declared.everyone.Wanted.{Wanted}
use Rattle.machine_everybody.specs.Everybody.{Everybody}
use Rattle.machine_answers.specs.Contained.{of_ids, IsContainedIn, AreContainedIn, AreHeldAgainstEverybody}
use Rattle.commands.specs.Requests.{Files, source}
use Rattle.commands.specs.SubtreeLines.{AreLinesOf}

-- The words are faultless, and name `check` with a file for the tree, or none, a user and a subtree.
abbrev pub AsksCheck : List Text → Option (List ℕ) → ℕ × List ℕ → List ℕ → Type 0
AsksCheck words tree ids subtree = NamesCommand words (codes "check") (λ found.
    (file_at found (codes "tree") ≡ tree) × (user_given found ≡ Some ids) × (first_value found (codes "subtree") ≡ Some subtree))

-- They name `audit` with users and subtrees, no text of pairs, and not to look further.
abbrev pub AsksAudit : List Text → Option (List ℕ) → List (ℕ × List ℕ) → List (List ℕ) → Type 0
AsksAudit words tree given subtrees = NamesCommand words (codes "audit") (λ found.
    (file_at found (codes "tree") ≡ tree) × (users_given found ≡ Some given) × (words_at found (codes "subtree") ≡ subtrees)
    × (first_value found (codes "pairs") ≡ None) × (one_text found (codes "settle") ≡ Some (codes "false")))

-- They name `audit`, `advise` or `explain` with everybody, but for who is left out, and subtrees.
abbrev pub AsksEverybody : Wanted → List Text → Option (List ℕ) → Everybody → List (List ℕ) → Type 0
AsksEverybody wanted words tree asked subtrees = NamesCommand words (wanted_command wanted) (λ found.
    (file_at found (codes "tree") ≡ tree) × (words_at found (codes "subtree") ≡ subtrees)
    × (first_value found (codes "everybody") ≡ Some (codes "true")) × (everyone_given found ≡ Some (asked.but, asked.groups)))

-- They name one of these with everybody, likewise, and a file for the subtrees, or standard input.
abbrev pub AsksEverybodyOfLines : Wanted → List Text → Option (List ℕ) → Everybody → Option (List ℕ) → Type 0
AsksEverybodyOfLines wanted words tree asked lines = NamesCommand words (wanted_command wanted) (λ found.
    (file_at found (codes "tree") ≡ tree) × (file_at found (codes "subtrees") ≡ lines)
    × (first_value found (codes "subtrees") ≢ None) × (first_value found (codes "everybody") ≡ Some (codes "true"))
    × (everyone_given found ≡ Some (asked.but, asked.groups)))

-- The text that was read for the tree, or for the subtrees: that of the named file, or of standard input where none is named, where it
-- is known what that holds.
abbrev pub WasRead : Files → Option (List ℕ) → Option (List ℕ) → List ℕ → Type 0
WasRead files tree given text = IfSome (source files tree given) (λ bytes. text ≡ bytes)

abbrev pub CheckMeans : List Text → Files → Option (List ℕ) → ℕ → Type 0
CheckMeans words files given status =
    (tree : Option (List ℕ)) (ids : ℕ × List ℕ) (subtree : List ℕ) → AsksCheck words tree ids subtree → status ≡ 0
    → (text : List ℕ) × WasRead files tree given text × IsContainedIn text (of_ids ids) subtree

abbrev pub AuditMeans : List Text → Files → Option (List ℕ) → ℕ → Type 0
AuditMeans words files given status =
    (tree : Option (List ℕ)) (users : List (ℕ × List ℕ)) (subtrees : List (List ℕ)) → AsksAudit words tree users subtrees → status ≡ 0
    → (text : List ℕ) × WasRead files tree given text × AreContainedIn text (map of_ids users) subtrees

abbrev pub EverybodyOfWordsMeans : List Text → Files → Option (List ℕ) → ℕ → Type 0
EverybodyOfWordsMeans words files given status =
    (wanted : Wanted) (tree : Option (List ℕ)) (asked : Everybody) (subtrees : List (List ℕ))
    → AsksEverybody wanted words tree asked subtrees → status ≡ 0
    → (text : List ℕ) × WasRead files tree given text × AreHeldAgainstEverybody text asked subtrees

-- Each path is held that is a line of the text that was read for the subtrees, which has one at least, and nothing else.
abbrev pub EverybodyOfLinesMeans : List Text → Files → Option (List ℕ) → ℕ → Type 0
EverybodyOfLinesMeans words files given status =
    (wanted : Wanted) (tree lines : Option (List ℕ)) (asked : Everybody) → AsksEverybodyOfLines wanted words tree asked lines → status ≡ 0
    → (text named : List ℕ) × (subtrees : List (List ℕ)) × WasRead files tree given text × WasRead files lines given named
    × AreLinesOf named subtrees × AreHeldAgainstEverybody text asked subtrees

abbrev pub EverybodyMeans : List Text → Files → Option (List ℕ) → ℕ → Type 0
EverybodyMeans words files given status = EverybodyOfWordsMeans words files given status × EverybodyOfLinesMeans words files given status
