-- What stands below the line of a fault: lines, each of which begins with two spaces. Own.
use Rattle.std.specs.Prelude.{ℕ, Bool, true, false, List, [], codes, Option, Some, None, IfSome, ◌≡◌, ◌⊎◌}
use Rattle.text_places.specs.Shown.{indented}
use Rattle.cg_faults.specs.declared.fault.CliFault.{CliFault}
use Rattle.cg_faults.specs.declared.fault.CliFault.TheVariants.{Uid, Gids, Pid, Subtree, Tree, TooManySteps, NoPair, Write, NoMemory}
use Rattle.cg_model.specs.declared.fault.CheckFault.TheVariants.{RootSubtree}
use Rattle.cg_format.specs.declared.fault.TreeFault.TheVariants.{TooLong, TooMany}

-- nothing, or lines of which each begins with two spaces
abbrev pub IsHelp : List ℕ → Type 0
IsHelp help = (help ≡ []) ⊎ ((text : List ℕ) × (help ≡ indented text))

-- Below which faults help may stand: a write that failed and memory that was refused tell nothing of what was asked.
abbrev pub has_help : CliFault → Bool
has_help Write = false
has_help NoMemory = false
has_help fault = true

-- What is said of a fault of which a second look at words and text tells no more.
abbrev pub plain_words : CliFault → Option (List ℕ)
plain_words Uid = Some (codes "uid 0 is root's, whom no owner and no mode keeps: root isn't checked")
plain_words Gids = Some (codes "a user has at most 32 gids: name those that stand in the tree")
plain_words Pid = Some (codes "a PID is 1 to 4194303")
plain_words (Subtree RootSubtree) = Some (codes "the root is handed to nobody: name a cgroup below it")
plain_words (Tree TooLong) =
    Some (codes "a text has at most 16777216 bytes, or 67108864 where format = 4 is its first line, or its second behind controllers = [..]")
plain_words (Tree TooMany) = Some (codes "a tree has at most 4096 cgroups and 4096 processes, or 65536 of each with format = 4")
plain_words TooManySteps = Some (codes "a replay takes at most 65536 operations")
plain_words NoPair =
    Some (codes "no line names a pair, and the text isn't what audit writes where it has none to list, the one line contained:\nwhat is read are the lines of audit --all, or pair UID PATH, or pair UID:GID,GID.. PATH, a line each")
plain_words fault = None

-- The same of a fault of a call, where there is one.
abbrev pub plain_help : Option CliFault → Option (List ℕ)
plain_help None = None
plain_help (Some fault) = plain_words fault

-- What stands below the line of a fault, where it is a call's: these words, where the fault alone tells them.
abbrev pub IsHelpFor : Option CliFault → List ℕ → Type 0
IsHelpFor fault help = IsHelp help × IfSome (plain_help fault) (λ words. help ≡ indented words)
