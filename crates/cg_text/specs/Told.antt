-- How it is read and written: nobody has to believe it.
-- What is told of a fault stands in the row that has it.
use Rattle.std.specs.Prelude.{ℕ, ◌-◌, nat_eq, cond, List, codes, String, Option, Some, None, option_and_then, slice_get}
use Rattle.std.specs.Option.{option_map, option_copied}
use Rattle.std.specs.Borrow.{Bor}
use Rattle.std.specs.BTreeMap.{BTreeMap}
use Rattle.std.specs.declared.alloc.Global.{Global}
use Rattle.toml.specs.View.{table_view}
use Rattle.toml.specs.declared.value.Value.{Value}
use Rattle.toml.specs.Data.{Data, Members, get_member, as_table}
use Rattle.cg_format.specs.Said.{elements_at, text_at, table_at}
use Rattle.cg_format.specs.declared.fault.Place.{Place}
use Rattle.cg_format.specs.declared.fault.Place.TheVariants.{Top, Cgroup, Process}
use Rattle.cg_format.specs.declared.fault.TreeFault.{TreeFault}
use Rattle.cg_format.specs.declared.fault.TreeFault.TheVariants.{TooLong, NotToml, Shape, Format as BadFormat, TooMany, BadController, BadPath, BadEntry, BadValue, Duplicate, NoRoot, NoParent, TopDown, NoSuchFile, BadPid, DuplicatePid, NoSuchPlace, InternalProcess, NoMemory}
use Rattle.cg_text.specs.declared.tree.told.At.{At}

-- the table that a reader has, or has not
abbrev pub seen : Option (Bor (BTreeMap (String Global) Value)) → Option Members
seen table = option_map (λ held. table_view held.now) table

-- the row that has a fault; the format is the top table's
abbrev pub place_of : TreeFault → Option Place
place_of TooLong = None
place_of NotToml = None
place_of (Shape place) = Some place
place_of BadFormat = Some Top
place_of TooMany = None
place_of (BadController place) = Some place
place_of (BadPath place) = Some place
place_of (BadEntry place) = Some place
place_of (BadValue place) = Some place
place_of (Duplicate place) = Some place
place_of NoRoot = None
place_of (NoParent place) = Some place
place_of (TopDown place) = Some place
place_of (NoSuchFile place) = Some place
place_of (BadPid place) = Some place
place_of (DuplicatePid place) = Some place
place_of (NoSuchPlace place) = Some place
place_of (InternalProcess place) = Some place
place_of NoMemory = None

-- the row of a number, from 1 on
abbrev pub element_at : List Data → ℕ → Option Data
element_at rows number = cond (nat_eq number 0) None (slice_get rows (number - 1))

abbrev pub numbered : List Data → ℕ → Option Members
numbered rows number = option_and_then as_table (element_at rows number)

-- the table of a row
abbrev pub row_at : Place → Members → Option Members
row_at Top document = Some document
row_at (Cgroup number) document = numbered (elements_at (codes "cgroup") document) number
row_at (Process number) document = numbered (elements_at (codes "process") document) number

-- the path of a row, or of a process's cgroup
abbrev pub name_in : Place → Option Members → Option (List ℕ)
name_in Top row = None
name_in (Cgroup number) row = option_and_then (text_at (codes "path")) row
name_in (Process number) row = option_and_then (text_at (codes "at")) row

-- the table at a key of a table; that table itself where no key is given
abbrev pub entered : Option (List ℕ) → Option Members → Option Members
entered None table = table
entered (Some key) table = option_and_then (table_at key) table

-- what stands in a row at the keys that lead there
abbrev pub held_in : At → Option Members → Option Data
held_in at row =
    option_and_then (λ table. option_and_then (λ key. get_member key table) (option_copied at.key)) (entered (option_copied at.file) (entered (option_copied at.table) row))
