-- What stands beside an answer: of the tree's text, and of the users. Own.
use Rattle.std.specs.Prelude.{◌≡◌, ℕ, List, ◌∷◌, [], map, Option, None, Some, Result, Ok, Err}
use Rattle.cg_cgroup.specs.Identity.{Identity}
use Rattle.cg_cgroup.specs.Paths.{Names}
use Rattle.cg_model.specs.Once.{once}
use Rattle.cg_model.specs.States.{State}
use Rattle.cg_format.specs.TextOf.{IsTextOf}
use Rattle.arguments.specs.Given.{ids_of, tree_file}
use Rattle.arguments.specs.Words.{Makes}
use Rattle.arguments.specs.declared.request.Request.{Request}
use Rattle.arguments.specs.declared.request.Request.TheVariants as request
use Rattle.cg_cli.specs.Arguments.{path_read}
use Rattle.cg_cli.specs.Audits.{users_read}
use Rattle.cg_cli.specs.Missing.{IsAbsent}
use Rattle.cg_cli.specs.Once.{same_user}
use Rattle.cg_cli.specs.Strangers.{first_stranger}
use Rattle.text_places.specs.declared.near.Missing.{Missing}
use Rattle.cg_help.specs.Modes.{spelled_mode}
use Rattle.cg_help.specs.declared.beside.Beside.{Beside}
use Rattle.commands.specs.Requests.{Files, source, name_of, IsTree}
use Rattle.commands.specs.declared.fault.Fault.{Fault}

-- the first of some users of whom a text says nothing, where it is asked about users
abbrev pub IsStrangerOf : List ℕ → Option (List (ℕ × List ℕ)) → Option ℕ → Type 0
IsStrangerOf text None stranger = stranger ≡ None
IsStrangerOf text (Some given) stranger =
    (st : State) (who : List Identity) → IsTextOf st text → users_read given ≡ Ok who → stranger ≡ first_stranger st (once same_user who)

-- the path that a text doesn't have, where one is looked up
abbrev pub IsMissingIn : List ℕ → Option (List ℕ) → Option Missing → Type 0
IsMissingIn text None missing = missing ≡ None
IsMissingIn text (Some to) missing =
    (st : State) (path : Names) → IsTextOf st text → path_read to ≡ Ok path → IsAbsent st path missing

-- of the text of a tree, where the bytes are known: the mode that it spells, and these
abbrev pub IsNoted : Option (List ℕ) → Option (List (ℕ × List ℕ)) → Option (List ℕ) → Beside → Type 0
IsNoted known users path beside =
    (text : List ℕ) × IsTree known text × (beside.mode ≡ spelled_mode text) × IsStrangerOf text users beside.stranger
    × IsMissingIn text path beside.missing

-- where neither is looked at
abbrev pub IsPlain : Option (List ℕ) → Beside → Type 0
IsPlain known beside = IsNoted known None None beside

-- where it is asked about users
abbrev pub IsOfUsers : Option (List ℕ) → List (ℕ × List ℕ) → Beside → Type 0
IsOfUsers known given beside = IsNoted known (Some given) None beside

abbrev pub IsNotedFor : Request → Files → Option (List ℕ) → Beside → Type 0
IsNotedFor (request.Help help) files given beside = (beside.mode ≡ None) × (beside.stranger ≡ None) × (beside.missing ≡ None)
IsNotedFor (request.May may) files given beside = IsNoted (source files (name_of may.tree) given) None (Some may.to.now) beside
IsNotedFor (request.Check check) files given beside = IsOfUsers (source files (name_of check.tree) given) (ids_of check.user ∷ []) beside
IsNotedFor (request.Settle check) files given beside = IsOfUsers (source files (name_of check.tree) given) (ids_of check.user ∷ []) beside
IsNotedFor (request.Audit audit) files given beside = IsOfUsers (source files (name_of audit.tree) given) (map ids_of audit.users.items) beside
IsNotedFor (request.Everybody asked) files given beside = IsPlain (source files (name_of asked.tree) given) beside
IsNotedFor (request.Subtrees asked) files given beside = IsPlain (source files (tree_file asked.sources) given) beside
IsNotedFor (request.Explain explain) files given beside = IsOfUsers (source files (name_of explain.tree) given) (map ids_of explain.users.items) beside
IsNotedFor (request.Advise advise) files given beside = IsOfUsers (source files (name_of advise.tree) given) (map ids_of advise.users.items) beside
IsNotedFor (request.AdvisePairs asked) files given beside = IsPlain (source files (tree_file asked.sources) given) beside
IsNotedFor (request.AuditPairs asked) files given beside = IsPlain (source files (tree_file asked.sources) given) beside
IsNotedFor (request.ExplainPairs asked) files given beside = IsPlain (source files (tree_file asked.sources) given) beside
IsNotedFor (request.Replay replay) files given beside = IsPlain (source files (tree_file replay.sources) given) beside
IsNotedFor (request.Upgrade upgrade) files given beside = IsPlain (source files (name_of upgrade.tree) given) beside

-- Where there is an answer, it is what was noted for the request that the words make.
abbrev pub IsBeside : List (List ℕ) → Files → Option (List ℕ) → Result ℕ Fault → Beside → Type 0
IsBeside words files given (Ok status) beside = (asked : Request) × Makes words asked × IsNotedFor asked files given beside
IsBeside words files given (Err fault) beside = Unit {0}
