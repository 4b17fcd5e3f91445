-- Tree texts: how long they may be, and the documents that they are. Own.
use Rattle.std.specs.Prelude.{ℕ, ◌+◌, Bool, true, false, ◌||◌, cond, nat_eq, List, length, take, drop, fold, codes, Option, Some, None, is_some}
use Rattle.std.specs.Option.{option_map_or}
use Rattle.std.specs.Cmp.Lexicographic.{pointwise}
use Rattle.cg_cgroup.specs.Options.{◌>>=◌}
use Rattle.cg_cgroup.specs.Files.{all_controllers, controller_name}
use Rattle.cg_cgroup.specs.declared.files.Controller.{Controller}
use Rattle.std.specs.Str.{is_utf8}
use Rattle.toml.specs.Data.{Members}
use Rattle.toml.specs.Parse.{parse_document}

-- ---- how long they may be

-- what is behind a front of a text, where it has that front
abbrev pub behind : List ℕ → List ℕ → Option (List ℕ)
behind front text = cond (pointwise nat_eq (take (length front) text) front) (Some (drop (length front) text)) None

-- what is behind the name of a controller in quotes, and behind the comma and the space that part it from another before it
abbrev pub behind_name : Bool → Controller → List ℕ → Option (List ℕ)
behind_name is_first controller text = do
  parted ← cond is_first (Some text) (behind (codes ", ") text)
  opened ← behind (codes "\"") parted
  named ← behind (controller_name controller) opened
  behind (codes "\"") named

-- whether no name was met so far, and what is behind those that were, and then behind this one where it stands there
unfoldable pub past_name : Bool × List ℕ → Controller → Bool × List ℕ
past_name met controller = elim (behind_name met.0 controller met.1) [ None ↦ met | Some rest ↦ (false, rest) ]

-- names of controllers in their order and the end of their array, and then the line of the format
unfoldable pub ends_in_format : List ℕ → Bool
ends_in_format names = is_some (behind (codes "]\nformat = 4\n") (fold past_name (true, names) all_controllers).1)

-- Whether a text says in its first line, or behind the line of its controllers, that it is of format 4, and may be large.
unfoldable pub says_large : List ℕ → Bool
says_large text =
    is_some (behind (codes "format = 4\n") text) || option_map_or ends_in_format (behind (codes "controllers = [") text) false

-- The largest number of bytes of a tree text, by how it begins: no beginning that says so has more than 128 bytes.
abbrev pub longest_text : List ℕ → ℕ
longest_text text = cond (says_large (take 128 text)) 67108864 16777216

-- how much of an input is read at most, so that a text is seen to be too long
abbrev pub most_read : List ℕ → ℕ
most_read text = longest_text text + 1

-- ---- their documents

-- the document that bytes are, where they are text and TOML
abbrev pub document_of : List ℕ → Option Members
document_of bytes = cond (is_utf8 bytes) (parse_document bytes) None
