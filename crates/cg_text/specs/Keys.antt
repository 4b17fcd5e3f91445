-- How it is read and written: nobody has to believe it.
-- What the keys of a table take, member by member, as the reader goes over it once.
use Rattle.std.specs.Prelude.{ℕ, Bool, true, false, ◌&&◌, ◌||◌, List, Option, Some, None, is_some, find}
use Rattle.std.specs.List.{list_all}
use Rattle.cg_cgroup.specs.Paths.{same_name}
use Rattle.toml.specs.Data.{Data, table, Members, no_members, member, get_member, as_table}
use Rattle.cg_format.specs.Form.{Key, is_text, is_integer, is_array, are_texts, are_among, document_keys, live_keys, owner_keys, limit_keys, text_keys}
use Rattle.cg_text.specs.declared.tree.takes.Takes.{Takes}
use Rattle.cg_text.specs.declared.tree.takes.Takes.TheVariants.{Integer, Text, Texts, Table as TheTable, Tables, Value as TheValue, Lines}
use Rattle.cg_text.specs.declared.tree.form.FlatTable.{FlatTable}
use Rattle.cg_text.specs.declared.tree.form.FlatTable.TheVariants.{Document, Process, Owner, Limit, Further}

abbrev pub flat_keys : FlatTable → List Key
flat_keys Document = document_keys
flat_keys Process = live_keys
flat_keys (Owner format) = owner_keys format
flat_keys (Limit format) = limit_keys format
flat_keys (Further format) = text_keys format

-- whether a value is of a type
abbrev pub admits : Takes → Data → Bool
admits Integer held = is_integer held
admits Text held = is_text held
admits Texts held = are_texts held
admits TheTable held = is_some (as_table held)
admits Tables held = is_array held
admits TheValue held = is_integer held || is_text held
admits Lines held = is_integer held || is_text held || are_texts held

-- whether a key that takes this may have a value; nothing stands at a key that there isn't
abbrev pub takes_as : Option Takes → Data → Bool
takes_as None held = false
takes_as (Some type) held = admits type held

-- whether one of these keys has the name, and takes the value
abbrev pub takes : List Key → List ℕ → Data → Bool
takes keys name held = elim (find (λ (key : Key). same_name name key.name) keys) [ None ↦ false | Some key ↦ key.takes held ]

abbrev pub takes_all : List Key → Members → Bool
takes_all keys no_members = true
takes_all keys (member name held rest) = takes keys name held && takes_all keys rest

-- whether a table has at a key nothing, or what it may have there
abbrev pub allows_at : Members → Key → Bool
allows_at members key = elim (get_member key.name members) [ None ↦ true | Some held ↦ key.takes held ]

-- whether a table has no keys but these, and at each what it may have there
abbrev pub allows : List Key → Members → Bool
allows keys members = are_among keys members && list_all (allows_at members) keys

-- a table in which none of these keys has to be there
abbrev pub allows_table : List Key → Data → Bool
allows_table keys (table members) = allows keys members
allows_table keys held = false
