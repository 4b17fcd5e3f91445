-- What a terminal is told: nobody has to believe it.
-- What is said of a terminal that the program waits for. Own.
use Rattle.std.specs.Prelude.{ℕ, List, [], codes, Option, Some, None}
use Rattle.std.specs.Option.{option_map_or}
use Rattle.std.specs.Borrow.{Bor}
use Rattle.text_places.specs.Shown.{indented}
use Rattle.arguments.specs.declared.request.Sources.{Sources}
use Rattle.arguments.specs.declared.request.Sources.TheVariants.{Files, TreeGiven, OtherGiven}
use Rattle.arguments.specs.declared.request.Request.{Request}
use Rattle.arguments.specs.declared.request.Request.TheVariants as request

abbrev pub tree_words : List ℕ
tree_words = codes "the tree is read from this terminal: end it with Ctrl-D, or name a file with --tree"

abbrev pub pairs_words : List ℕ
pairs_words = codes "the pairs are read from this terminal: end them with Ctrl-D, or name a file with --pairs"

abbrev pub subtrees_words : List ℕ
subtrees_words = codes "the subtrees are read from this terminal: end them with Ctrl-D, or name a file with --subtrees"

abbrev pub operations_words : List ℕ
operations_words = codes "the operations are read from this terminal: end them with Ctrl-D, or name a file with --ops"

-- of the file of a tree, where one is named
abbrev pub tree_awaited : Option (Bor (List ℕ)) → Option (List ℕ)
tree_awaited None = Some tree_words
tree_awaited (Some file) = None

-- of a tree and another text, of which this is said
abbrev pub awaited_of : Sources → List ℕ → Option (List ℕ)
awaited_of (Files tree other) words = None
awaited_of (TreeGiven other) words = Some tree_words
awaited_of (OtherGiven tree) words = Some words

-- what a request reads from standard input, in words; nothing where it reads files alone
abbrev pub awaited : Request → Option (List ℕ)
awaited (request.Help help) = None
awaited (request.May may) = tree_awaited may.tree
awaited (request.Check check) = tree_awaited check.tree
awaited (request.Settle check) = tree_awaited check.tree
awaited (request.Audit audit) = tree_awaited audit.tree
awaited (request.Everybody asked) = tree_awaited asked.tree
awaited (request.Explain explain) = tree_awaited explain.tree
awaited (request.Advise advise) = tree_awaited advise.tree
awaited (request.AdvisePairs asked) = awaited_of asked.sources pairs_words
awaited (request.AuditPairs asked) = awaited_of asked.sources pairs_words
awaited (request.ExplainPairs asked) = awaited_of asked.sources pairs_words
awaited (request.Subtrees asked) = awaited_of asked.sources subtrees_words
awaited (request.Replay replay) = awaited_of replay.sources operations_words
awaited (request.Upgrade upgrade) = tree_awaited upgrade.tree

-- the line of that, or none
abbrev pub waiting_line : Request → List ℕ
waiting_line asked = option_map_or indented (awaited asked) []
