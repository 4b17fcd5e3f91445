-- The form of a tree text's document: the keys of each table, and the types of what stands at them. Own.
use Rattle.std.specs.Prelude.{ℕ, Bool, true, false, ◌&&◌, ◌||◌, not, List, [], ◌∷◌, ◌++◌, map, codes, cond, Some, None, is_some}
use Rattle.std.specs.List.{list_any, list_all}
use Rattle.cg_cgroup.specs.Paths.{same_name}
use Rattle.cg_cgroup.specs.Files.{all_files, file_name, other_name, known_others}
use Rattle.cg_cgroup.specs.Texts as texts
use Rattle.toml.specs.Data.{Data, array, table, Items, no_items, item, Members, no_members, member, get_member, as_str, as_integer, as_array}
use Rattle.cg_cgroup.specs.declared.files.Vocabulary.{Vocabulary}
use Rattle.cg_cgroup.specs.declared.files.Vocabulary.TheVariants.{Format2, Format4}
use Rattle.cg_format.specs.declared.format.Format.{Format}
use Rattle.cg_format.specs.declared.format.Format.TheVariants.{One, Two, Four}

-- which controllers and files a format names
abbrev pub vocabulary : Format → Vocabulary
vocabulary One = Format2
vocabulary Two = Format2
vocabulary Four = Format4

-- format 1 has no groups
abbrev pub has_groups : Format → Bool
has_groups One = false
has_groups Two = true
has_groups Four = true

-- the largest number of rows of an array
abbrev pub most_rows : Format → ℕ
most_rows One = 4096
most_rows Two = 4096
most_rows Four = 65536

-- ---- types of values

abbrev pub is_text : Data → Bool
is_text held = is_some (as_str held)

abbrev pub is_integer : Data → Bool
is_integer held = is_some (as_integer held)

abbrev pub is_array : Data → Bool
is_array held = is_some (as_array held)

abbrev pub elements : Items → List Data
elements no_items = []
elements (item held rest) = held ∷ elements rest

abbrev pub are_texts : Data → Bool
are_texts (array items) = list_all is_text (elements items)
are_texts held = false

-- ---- keys of tables

-- a key's name, whether a table has to have it, and what may stand at it
pub record Key : Type 0 where
  pub name : List ℕ
  pub is_needed : Bool
  pub takes : Data → Bool

abbrev pub must_have : List ℕ → (Data → Bool) → Key
must_have name takes = record { name = name; is_needed = true; takes = takes }

abbrev pub may_have : List ℕ → (Data → Bool) → Key
may_have name takes = record { name = name; is_needed = false; takes = takes }

-- whether a table has at a key what it may or must have there
abbrev pub fits_at : Members → Key → Bool
fits_at members key = elim (get_member key.name members) [ None ↦ not key.is_needed | Some held ↦ key.takes held ]

-- whether all keys of a table are among these
abbrev pub are_among : List Key → Members → Bool
are_among keys no_members = true
are_among keys (member name held rest) = list_any (λ key. same_name name key.name) keys && are_among keys rest

-- a table with these keys and no others
abbrev pub is_table : List Key → Data → Bool
is_table keys (table members) = are_among keys members && list_all (fits_at members) keys
is_table keys held = false

-- ---- the tables of each format

abbrev pub document_keys : List Key
document_keys =
    must_have (codes "format") is_integer ∷ must_have (codes "controllers") are_texts
    ∷ may_have (codes "cgroup") is_array ∷ may_have (codes "process") is_array ∷ []

-- an owner, a group where the format has them, and a mode
abbrev pub owner_keys : Format → List Key
owner_keys format =
    may_have (codes "uid") is_integer
    ∷ cond (has_groups format) (may_have (codes "gid") is_integer ∷ may_have (codes "mode") is_integer ∷ []) (may_have (codes "mode") is_integer ∷ [])

-- of a limit file also its value
abbrev pub limit_keys : Format → List Key
limit_keys format = may_have (codes "value") (λ held. is_integer held || is_text held) ∷ owner_keys format

-- of one beyond `LimitFile` its value is a line, an array of lines, or an integer
abbrev pub text_keys : Format → List Key
text_keys format = may_have (codes "value") (λ held. is_integer held || is_text held || are_texts held) ∷ owner_keys format

abbrev pub file_keys_of : Format → List Key
file_keys_of format =
    may_have texts.cgroup_procs (is_table (owner_keys format)) ∷ may_have texts.cgroup_subtree_control (is_table (owner_keys format))
    ∷ (map (λ file. may_have (file_name file) (is_table (limit_keys format))) all_files
    ++ map (λ file. may_have (other_name file) (is_table (text_keys format))) (known_others (vocabulary format)))

abbrev pub row_keys : Format → List Key
row_keys format =
    must_have (codes "path") is_text ∷ may_have (codes "enabled") are_texts
    ∷ may_have (codes "dir") (is_table (owner_keys format)) ∷ may_have (codes "files") (is_table (file_keys_of format)) ∷ []

abbrev pub live_keys : List Key
live_keys = must_have (codes "pid") is_integer ∷ must_have (codes "uid") is_integer ∷ must_have (codes "at") is_text ∷ []
