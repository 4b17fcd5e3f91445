-- What a tree text can carry. Own.
use Rattle.std.specs.Prelude.{◌≡◌, ℕ, ◌==◌, ◌≤◌, ◌<◌, Bool, true, false, List, length, Option, Some, is_some}
use Rattle.std.specs.List.{AllByRecursion, list_all, list_any, slice_split}
use Rattle.std.specs.FinMap as map
use Rattle.cg_cgroup.specs.Paths.{Names, IsPath}
use Rattle.cg_cgroup.specs.Numbers.{is_pid}
use Rattle.cg_cgroup.specs.Files.{is_of, is_beyond, all_others}
use Rattle.cg_cgroup.specs.Cgroups.{file_of, entry_in}
use Rattle.cg_cgroup.specs.Told.{told_in}
use Rattle.cg_cgroup.specs.declared.user.Entry.{Entry}
use Rattle.cg_cgroup.specs.declared.files.EntryName.{EntryName}
use Rattle.cg_cgroup.specs.declared.files.LimitFile.{LimitFile}
use Rattle.cg_cgroup.specs.declared.files.Vocabulary.{Vocabulary}
use Rattle.cg_cgroup.specs.declared.files.Vocabulary.TheVariants.{Format2, Format4}
use Rattle.cg_cgroup.specs.declared.other_file.OtherFile.{OtherFile}
use Rattle.cg_cgroup.specs.declared.told.FileText.{FileText}
use Rattle.cg_cgroup.specs.declared.told.ToldFile.{ToldFile}
use Rattle.cg_cgroup.specs.declared.told.ToldFiles.{ToldFiles}
use Rattle.cg_cgroup.specs.declared.cgroup.LimitEntry.{LimitEntry}
use Rattle.cg_cgroup.specs.declared.cgroup.Cgroup.{Cgroup}
use Rattle.cg_cgroup.specs.declared.process.Process.{Process}
use Rattle.cg_model.specs.States.{State, row_at, process_at, is_used}
use Rattle.cg_model.specs.WellFormed.{IsWellFormed}
use Rattle.cg_format.specs.Form.{most_rows}
use Rattle.cg_format.specs.Said.{is_text_line}
use Rattle.cg_format.specs.TextOf.{OthersAreRoots}
use Rattle.cg_format.specs.TreeTexts.{longest_text}
use Rattle.cg_format.specs.declared.format.Format.{Format}
use Rattle.cg_format.specs.declared.format.Format.TheVariants.{Two, Four}
use Rattle.cg_print.specs.Documents.{told_of, IsSpelled}

-- a uid or a gid
abbrev pub IsId : ℕ → Type 0
IsId number = number ≤ 4294967295

abbrev pub HasIds : Entry → Type 0
HasIds entry = IsId entry.uid × IsId entry.gid

-- a limit file, where it stands
abbrev pub FileHasIds : Cgroup → LimitFile → Type 0
FileHasIds row file = (held : LimitEntry) → file_of row file ≡ Some held → HasIds held.entry

-- all owners and groups of a cgroup that texts name
abbrev pub HasIdsOnly : Cgroup → Type 0
HasIdsOnly row = (name : EntryName) (entry : Entry) → is_beyond name ≡ false → entry_in row name ≡ Some entry → HasIds entry

-- a further limit file, where something is told of it
abbrev pub ToldHasIds : ToldFiles → OtherFile → Type 0
ToldHasIds files file = (told : ToldFile) → told_in files file ≡ Some told → HasIds told.entry

abbrev pub AllHaveIds : Option ToldFiles → Type 0
AllHaveIds found = (files : ToldFiles) → found ≡ Some files → (file : OtherFile) → ToldHasIds files file

-- a cgroup at a path, and what is told of its further limit files; owners and groups are numbers of 32 bits
pub record IsNamedRow (place : Names) (row : Cgroup) (told : Option ToldFiles) : Type 0 where
  pub path : IsPath place
  pub ids : HasIdsOnly row
  pub told_ids : AllHaveIds told

pub record IsNamedProcess (number : ℕ) (process : Process) : Type 0 where
  pub pid : is_pid number ≡ true
  pub uid : IsId process.uid

abbrev pub AreNamedRows : Vocabulary → State → Type 0
AreNamedRows vocabulary st = AllByRecursion (λ e. IsNamedRow e.0 e.1 (told_of vocabulary st e.0)) (map.entries st.rows)

abbrev pub AreNamedProcesses : List (ℕ × Process) → Type 0
AreNamedProcesses live = AllByRecursion (λ e. IsNamedProcess e.0 e.1) live

-- what holds of the state of each tree that is kept, as far as a text of the vocabulary tells of it
pub record IsKept (vocabulary : Vocabulary) (st : State) : Type 0 where
  pub formed : IsWellFormed st
  pub rows : AreNamedRows vocabulary st
  pub live : AreNamedProcesses (map.entries st.live)

-- the format of a text that is written
abbrev pub written_in : Vocabulary → Format
written_in Format2 = Two
written_in Format4 = Four

abbrev pub is_value_text : FileText → Bool
is_value_text value = list_all is_text_line (slice_split (λ b. b == 10) value)

-- What is told of the further limit files of a cgroup can be written: something is told, and each value is lines that texts may have.
pub record IsToldInText (files : ToldFiles) : Type 0 where
  pub some : list_any (λ file. is_some (told_in files file)) all_others ≡ true
  pub values : (file : OtherFile) (told : ToldFile) (value : FileText) → told_in files file ≡ Some told → told.value ≡ Some value
      → is_value_text value ≡ true

-- nothing is told of these files in format 2
abbrev pub AreToldInText : Vocabulary → State → Type 0
AreToldInText Format2 st = st.told ≡ map.empty
AreToldInText Format4 st = (path : Names) (files : ToldFiles) → map.get st.told path ≡ Some files → IsToldInText files

-- Few enough cgroups and processes; no controller without a name there; what is told of further limit files can be written, and those
-- of which nothing is told are root's; and a PID that isn't live was never used, as a text has no word for it.
pub record IsCarried (vocabulary : Vocabulary) (st : State) : Type 0 where
  pub cgroups : length (map.entries st.rows) ≤ most_rows (written_in vocabulary)
  pub processes : length (map.entries st.live) ≤ most_rows (written_in vocabulary)
  pub controllers : is_of vocabulary st.controllers ≡ true
  pub told : AreToldInText vocabulary st
  pub others : (path : Names) (row : Cgroup) → row_at st path ≡ Some row → OthersAreRoots row
  pub used : (pid : ℕ) → is_used st pid ≡ is_some (process_at st pid)

-- the tree's text is longer than a tree text may be
abbrev pub IsTooLong : Vocabulary → State → Type 0
IsTooLong vocabulary st = (text : List ℕ) × IsSpelled vocabulary st text × (longest_text text < length text)
