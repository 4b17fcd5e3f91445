-- What a parse found, as the fields of requests. Own.
use Rattle.std.specs.Prelude.{◌≡◌, ◌≢◌, ℕ, Bool, true, false, List, [], ◌∷◌, map, codes, cond, nat_eq, Option, Some, None, option_and_then}
use Rattle.std.specs.Cmp.Lexicographic.{pointwise}
use Rattle.std.specs.Option.{option_map, option_map_or}
use Rattle.clap.specs.Matches.{matched_of, first_value, one_text, raw_values, subcommand_name_of}
use Rattle.clap.specs.Words.{rows_of, subcommand_rows_of}
use Rattle.clap.specs.declared.parser.matches.ArgMatches.{ArgMatches}
use Rattle.clap.specs.declared.parser.matches.Found.{Found}
use Rattle.arguments.specs.Formats.{format_at}
use Rattle.arguments.specs.UserWords.{id_at, ids_at, all_read, user_at, group_at}
use Rattle.arguments.specs.declared.named_pair.NamedPair.{NamedPair}
use Rattle.arguments.specs.declared.named_user.NamedUser.{NamedUser}
use Rattle.arguments.specs.declared.everyone.Everyone.{Everyone}
use Rattle.arguments.specs.declared.everyone.ListedGroup.{ListedGroup}
use Rattle.arguments.specs.declared.everyone.Wanted.{Wanted}
use Rattle.arguments.specs.declared.everyone.Wanted.TheVariants as wanted
use Rattle.arguments.specs.declared.request.May.{May}
use Rattle.arguments.specs.declared.request.Check.{Check}
use Rattle.arguments.specs.declared.request.Audit.{Audit}
use Rattle.arguments.specs.declared.request.Everybody.{Everybody}
use Rattle.arguments.specs.declared.request.Explain.{Explain}
use Rattle.arguments.specs.declared.request.Advise.{Advise}
use Rattle.arguments.specs.declared.request.Pairs.{Pairs}
use Rattle.arguments.specs.declared.request.Subtrees.{Subtrees}
use Rattle.arguments.specs.declared.request.Sources.{Sources}
use Rattle.arguments.specs.declared.request.Sources.TheVariants.{Files, TreeGiven, OtherGiven}
use Rattle.arguments.specs.declared.request.Replay.{Replay}
use Rattle.arguments.specs.declared.request.Upgrade.{Upgrade}
use Rattle.arguments.specs.declared.request.Request.{Request}
use Rattle.arguments.specs.declared.request.Request.TheVariants as request

-- what an option has to say each time that it is given
abbrev pub words_at : Found → List ℕ → List (List ℕ)
words_at found name = option_map_or raw_values (matched_of found name) []

-- a file by its name; `-` is standard input, and no file
abbrev pub file_named : List ℕ → Option (List ℕ)
file_named word = cond (pointwise nat_eq word (codes "-")) None (Some word)

-- the file that an option names; none where it is left out
abbrev pub file_at : Found → List ℕ → Option (List ℕ)
file_at found name = option_and_then file_named (first_value found name)

-- both the tree and the text of another option are to come from standard input
abbrev pub NamesNoFile : Found → List ℕ → Type 0
NamesNoFile found option = (file_at found (codes "tree") ≡ None) × (file_at found option ≡ None)

-- the file of the tree, and that of the other text; where there is none it is standard input
abbrev pub tree_file : Sources → Option (List ℕ)
tree_file (Files tree other) = Some tree.now
tree_file (TreeGiven other) = None
tree_file (OtherGiven tree) = Some tree.now

abbrev pub other_file : Sources → Option (List ℕ)
other_file (Files tree other) = Some other.now
other_file (TreeGiven other) = Some other.now
other_file (OtherGiven tree) = None

-- Every number of the command line is read as an id is: by its digits, without a sign.
abbrev pub number_at : Found → List ℕ → Option ℕ
number_at found name = option_and_then id_at (first_value found name)

abbrev pub numbers_at : Found → List ℕ → Option (List ℕ)
numbers_at found name = ids_at (words_at found name)

-- the user of one `--uid`, and of any number of `--gid` in their order
abbrev pub user_given : Found → Option (ℕ × List ℕ)
user_given found =
    option_and_then (λ uid. option_map (λ gids. (uid, gids)) (numbers_at found (codes "gid"))) (number_at found (codes "uid"))

-- the users of any number of `--uid`, each a word of its own
abbrev pub users_given : Found → Option (List (ℕ × List ℕ))
users_given found = all_read user_at (words_at found (codes "uid"))

-- the one plain number that an option was given, where that is all
abbrev pub plain_number : List (List ℕ) → Option ℕ
plain_number [] = None
plain_number (word ∷ []) = id_at word
plain_number (word ∷ other ∷ words) = None

-- the users of some `--uid`, with these groups: of one plain number they are the groups; else there are none beside the words
abbrev pub users_beside : List (List ℕ) → List ℕ → Option (List (ℕ × List ℕ))
users_beside words gids = elim (plain_number words) [
  | Some uid ↦ Some ((uid, gids) ∷ [])
  | None ↦ elim gids [ [] ↦ all_read user_at words | gid ∷ others ↦ None ]
]

-- the users of `advise`: one `--uid` with any number of `--gid`, or any number of `--uid`, each a word of its own
abbrev pub advised_given : Found → Option (List (ℕ × List ℕ))
advised_given found = option_and_then (users_beside (words_at found (codes "uid"))) (numbers_at found (codes "gid"))

abbrev pub ids_of : NamedUser → ℕ × List ℕ
ids_of user = (user.uid, user.gids.items)

abbrev pub ids_of_pair : NamedPair → (ℕ × List ℕ) × List ℕ
ids_of_pair pair = (ids_of pair.user, pair.subtree.now)

-- who is left out of everybody, and the groups of which it is told who is a member
abbrev pub everyone_given : Found → Option (List ℕ × List (ℕ × List ℕ))
everyone_given found =
    option_and_then (λ but. option_map (λ groups. (but, groups)) (all_read group_at (words_at found (codes "group"))))
    (numbers_at found (codes "but"))

abbrev pub listed_group : ListedGroup → ℕ × List ℕ
listed_group group = (group.gid, group.uids.items)

abbrev pub everyone_of : Everyone → List ℕ × List (ℕ × List ℕ)
everyone_of everyone = (everyone.but.items, map listed_group everyone.groups.items)

-- nobody is left out, and no group is listed
pub record NoneIsLeftOut (found : Found) : Type 0 where
  pub no_but : words_at found (codes "but") ≡ []
  pub no_members : words_at found (codes "group") ≡ []

-- whether a flag is there, of which `clap` says `true` or `false`
abbrev pub IsFlag : Option (List ℕ) → Bool → Type 0
IsFlag said flag = (said ≡ Some (codes "true") → flag ≡ true) × (said ≡ Some (codes "false") → flag ≡ false)

-- What the request of a command holds of what was found.

pub record IsMay (found : Found) (may : May) : Type 0 where
  pub tree : option_map (λ file. file.now) may.tree ≡ file_at found (codes "tree")
  pub user : user_given found ≡ Some (ids_of may.user)
  pub pid : number_at found (codes "pid") ≡ Some may.pid
  pub to : first_value found (codes "to") ≡ Some may.to.now
  pub format : format_at found ≡ Some may.format

pub record IsCheck (found : Found) (check : Check) : Type 0 where
  pub tree : option_map (λ file. file.now) check.tree ≡ file_at found (codes "tree")
  pub user : user_given found ≡ Some (ids_of check.user)
  pub subtree : first_value found (codes "subtree") ≡ Some check.subtree.now
  pub format : format_at found ≡ Some check.format

-- of one user and one subtree at least, of no text of pairs or subtrees, and not of everybody
pub record IsAudit (found : Found) (audit : Audit) : Type 0 where
  pub tree : option_map (λ file. file.now) audit.tree ≡ file_at found (codes "tree")
  pub users : users_given found ≡ Some (map ids_of audit.users.items)
  pub subtrees : words_at found (codes "subtree") ≡ map (λ subtree. subtree.now) audit.subtrees.items
  pub all : IsFlag (one_text found (codes "all")) audit.all
  pub settle : IsFlag (one_text found (codes "settle")) audit.settle
  pub some_user : words_at found (codes "uid") ≢ []
  pub some_subtree : words_at found (codes "subtree") ≢ []
  pub no_pairs : first_value found (codes "pairs") ≡ None
  pub no_subtrees : first_value found (codes "subtrees") ≡ None
  pub not_everybody : first_value found (codes "everybody") ≢ Some (codes "true")
  pub all_meant : NoneIsLeftOut found
  pub format : format_at found ≡ Some audit.format

-- of everybody, and of no user or group, of one subtree at least and no text of subtrees, and neither of every pair nor looked at further
pub record IsEverybody (found : Found) (asked : Everybody) : Type 0 where
  pub tree : option_map (λ file. file.now) asked.tree ≡ file_at found (codes "tree")
  pub subtrees : words_at found (codes "subtree") ≡ map (λ subtree. subtree.now) asked.subtrees.items
  pub everybody : first_value found (codes "everybody") ≡ Some (codes "true")
  pub everyone : everyone_given found ≡ Some (everyone_of asked.everyone)
  pub some_subtree : words_at found (codes "subtree") ≢ []
  pub no_subtrees : first_value found (codes "subtrees") ≡ None
  pub no_user : words_at found (codes "uid") ≡ []
  pub no_group : words_at found (codes "gid") ≡ []
  pub no_pairs : first_value found (codes "pairs") ≡ None
  pub no_all : first_value found (codes "all") ≢ Some (codes "true")
  pub no_settle : first_value found (codes "settle") ≢ Some (codes "true")
  pub format : format_at found ≡ Some asked.format

-- of everybody, likewise, and of the subtrees that a text names
pub record IsOfSubtrees (found : Found) (asked : Subtrees) : Type 0 where
  pub tree : tree_file asked.sources ≡ file_at found (codes "tree")
  pub subtrees : other_file asked.sources ≡ file_at found (codes "subtrees")
  pub everybody : first_value found (codes "everybody") ≡ Some (codes "true")
  pub everyone : everyone_given found ≡ Some (everyone_of asked.everyone)
  pub some_subtrees : first_value found (codes "subtrees") ≢ None
  pub no_subtree : words_at found (codes "subtree") ≡ []
  pub no_user : words_at found (codes "uid") ≡ []
  pub no_group : words_at found (codes "gid") ≡ []
  pub no_pairs : first_value found (codes "pairs") ≡ None
  pub no_all : first_value found (codes "all") ≢ Some (codes "true")
  pub no_settle : first_value found (codes "settle") ≢ Some (codes "true")
  pub format : format_at found ≡ Some asked.format

pub record IsExplain (found : Found) (explain : Explain) : Type 0 where
  pub tree : option_map (λ file. file.now) explain.tree ≡ file_at found (codes "tree")
  pub users : users_given found ≡ Some (map ids_of explain.users.items)
  pub subtrees : words_at found (codes "subtree") ≡ map (λ subtree. subtree.now) explain.subtrees.items
  pub some_user : words_at found (codes "uid") ≢ []
  pub some_subtree : words_at found (codes "subtree") ≢ []
  pub no_pairs : first_value found (codes "pairs") ≡ None
  pub no_subtrees : first_value found (codes "subtrees") ≡ None
  pub not_everybody : first_value found (codes "everybody") ≢ Some (codes "true")
  pub all_meant : NoneIsLeftOut found
  pub format : format_at found ≡ Some explain.format

pub record IsAdvise (found : Found) (advise : Advise) : Type 0 where
  pub tree : option_map (λ file. file.now) advise.tree ≡ file_at found (codes "tree")
  pub users : advised_given found ≡ Some (map ids_of advise.users.items)
  pub subtrees : words_at found (codes "subtree") ≡ map (λ subtree. subtree.now) advise.subtrees.items
  -- and there is one of each, no text of pairs or subtrees, and it isn't of everybody
  pub some_user : words_at found (codes "uid") ≢ []
  pub some_subtree : words_at found (codes "subtree") ≢ []
  pub no_pairs : first_value found (codes "pairs") ≡ None
  pub no_subtrees : first_value found (codes "subtrees") ≡ None
  pub not_everybody : first_value found (codes "everybody") ≢ Some (codes "true")
  pub all_meant : NoneIsLeftOut found
  pub settle : IsFlag (one_text found (codes "settle")) advise.settle
  pub format : format_at found ≡ Some advise.format

-- of the pairs that a text names, and of nobody else, and it isn't looked further
pub record IsOfPairs (found : Found) (asked : Pairs) : Type 0 where
  pub tree : tree_file asked.sources ≡ file_at found (codes "tree")
  pub pairs : other_file asked.sources ≡ file_at found (codes "pairs")
  pub some_pairs : first_value found (codes "pairs") ≢ None
  pub no_user : words_at found (codes "uid") ≡ []
  pub no_group : words_at found (codes "gid") ≡ []
  pub no_subtree : words_at found (codes "subtree") ≡ []
  pub no_subtrees : first_value found (codes "subtrees") ≡ None
  pub no_settle : first_value found (codes "settle") ≢ Some (codes "true")
  pub not_everybody : first_value found (codes "everybody") ≢ Some (codes "true")
  pub all_meant : NoneIsLeftOut found
  pub format : format_at found ≡ Some asked.format

pub record IsReplay (found : Found) (replay : Replay) : Type 0 where
  pub tree : tree_file replay.sources ≡ file_at found (codes "tree")
  pub ops : other_file replay.sources ≡ file_at found (codes "ops")
  pub user : user_given found ≡ Some (ids_of replay.user)
  pub subtree : option_map (λ path. path.now) replay.subtree ≡ first_value found (codes "subtree")
  pub format : format_at found ≡ Some replay.format

pub record IsUpgrade (found : Found) (upgrade : Upgrade) : Type 0 where
  pub tree : option_map (λ file. file.now) upgrade.tree ≡ file_at found (codes "tree")

abbrev pub wanted_command : Wanted → List ℕ
wanted_command wanted.Audit = codes "audit"
wanted_command wanted.Advise = codes "advise"
wanted_command wanted.Explain = codes "explain"

abbrev pub command_of : Request → Option (List ℕ)
command_of (request.Help text) = None
command_of (request.May may) = Some (codes "may")
command_of (request.Check check) = Some (codes "check")
command_of (request.Settle check) = Some (codes "settle")
command_of (request.Audit audit) = Some (codes "audit")
command_of (request.Everybody asked) = Some (wanted_command asked.wanted)
command_of (request.Subtrees asked) = Some (wanted_command asked.wanted)
command_of (request.AuditPairs pairs) = Some (codes "audit")
command_of (request.Explain explain) = Some (codes "explain")
command_of (request.ExplainPairs pairs) = Some (codes "explain")
command_of (request.Advise advise) = Some (codes "advise")
command_of (request.AdvisePairs pairs) = Some (codes "advise")
command_of (request.Replay replay) = Some (codes "replay")
command_of (request.Upgrade upgrade) = Some (codes "upgrade")

abbrev pub Holds : Found → Request → Type 0
Holds found (request.Help text) = Unit {0}
Holds found (request.May may) = IsMay found may
Holds found (request.Check check) = IsCheck found check
Holds found (request.Settle check) = IsCheck found check
Holds found (request.Audit audit) = IsAudit found audit
Holds found (request.Everybody asked) = IsEverybody found asked
Holds found (request.Subtrees asked) = IsOfSubtrees found asked
Holds found (request.AuditPairs pairs) = IsOfPairs found pairs
Holds found (request.Explain explain) = IsExplain found explain
Holds found (request.ExplainPairs pairs) = IsOfPairs found pairs
Holds found (request.Advise advise) = IsAdvise found advise
Holds found (request.AdvisePairs pairs) = IsOfPairs found pairs
Holds found (request.Replay replay) = IsReplay found replay
Holds found (request.Upgrade upgrade) = IsUpgrade found upgrade

-- A request is of the command that was met, and holds what was found of that command's own options.
abbrev pub IsOf : ArgMatches → Request → Type 0
IsOf matches asked =
    (found : Found) × (command_of asked ≡ subcommand_name_of matches)
    × (option_map (λ met. met.1) (subcommand_rows_of matches) ≡ Some (rows_of found)) × Holds found asked
