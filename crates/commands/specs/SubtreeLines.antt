-- The subtrees that the lines of a text name, a path a line. Own.
use Rattle.std.specs.Prelude.{◌≡◌, ◌≢◌, List, [], ◌∷◌, ◌++◌, cond, codes, ℕ, Option, None, Result, Ok, Err}
use Rattle.std.specs.List.{flat_map}
use Rattle.std.specs.Option.{option_map}
use Rattle.std.specs.Str.{is_utf8}
use Rattle.cg_cgroup.specs.Paths.{path_at}
use Rattle.cg_lines.specs.declared.lines.fault.LineFault.TheVariants.{Cut}
use Rattle.cg_cli.specs.AllPairs.{read_then}
use Rattle.cg_faults.specs.declared.fault.CliFault.{CliFault}
use Rattle.cg_faults.specs.declared.fault.CliFault.TheVariants.{Line}
use Rattle.commands.specs.Lines.{LineReading, one_read, lines_read}

-- a line that is a path
abbrev pub subtree_read : List ℕ → Option (List ℕ)
subtree_read line = cond (is_utf8 line) (option_map (λ path. line) (path_at line)) None

abbrev pub subtree_line_read : LineReading (List ℕ)
subtree_line_read done line = one_read done (subtree_read line)

-- Some subtree is named. A text without a line lacks its first, which has no newline.
abbrev pub some_named : List (List ℕ) → Result (List (List ℕ)) CliFault
some_named [] = Err (Line 1 Cut)
some_named (subtree ∷ subtrees) = Ok (subtree ∷ subtrees)

-- The subtrees of a text, in the order of its lines.
abbrev pub subtrees_read : List ℕ → Result (List (List ℕ)) CliFault
subtrees_read text = read_then (lines_read subtree_line_read text) some_named

-- A text has these lines and nothing else, each with its newline, and there is one at least.
pub record AreLinesOf (text : List ℕ) (lines : List (List ℕ)) : Type 0 where
  pub whole : text ≡ flat_map (λ line. line ++ codes "\n") lines
  pub some : lines ≢ []
