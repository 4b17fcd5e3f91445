-- What the entries, files and values of a cgroup are after each change, and those of a new cgroup.
use Rattle.std.proofs.Common.{◌≡◌, ◌≢◌, ℕ, ◌<◌, Bool, true, false, cond, refl, sym, ap, ◌∙◌, nat_eq, arith, eqb-true}
use Rattle.std.proofs.Common.{length, map, get_or}
use Rattle.std.specs.Prelude.{Option, Some, None, is_some, unwrap_or}
use Rattle.std.proofs.lemmas.List.{get_or-set_same, get_or-set_other}
use mathlib.Core.HLevel.{is_prop→PathP}
use native.Mathlib.Nat.{ℕ_set}
use Rattle.std.specs.Option.{option_map}
use Rattle.std.proofs.lemmas.Option.{same_Some}
use Rattle.cg_cgroup.specs.Identity.{Identity}
use Rattle.cg_cgroup.specs.Files.{all_files, all_others, other_kind, same_other, brought_by, is_beyond, all_controllers, controller_kind, brought_files, kind_of, place_of, accepts, default_value, enables, stands_under, same_file, same_entry}
use Rattle.cg_cgroup.specs.Users.{entry_made_by}
use Rattle.cg_cgroup.specs.Cgroups.{held_at, with_held, file_of, other_in, entry_in, value_in, untold_in, with_file, with_value_of, with_value_in, with_mode_of, with_file_mode_of, with_mode_in, file_made_by, refitted, refitted_other, others_under, with_files_of, cgroup_made_by}
use Rattle.cg_cgroup.specs.declared.user.Entry.{Entry}
use Rattle.cg_cgroup.specs.declared.files.Limit.{Limit}
use Rattle.cg_cgroup.specs.declared.files.Controller.{Controller}
use Rattle.cg_cgroup.specs.declared.files.Controller.TheVariants.{Cpu}
use Rattle.cg_cgroup.specs.declared.controllers.ControllerSet.{ControllerSet}
use Rattle.cg_cgroup.specs.declared.files.LimitFile.{LimitFile}
use Rattle.cg_cgroup.specs.declared.files.LimitFile.TheVariants.{MaxDescendants, MaxDepth, CpuWeight}
use Rattle.cg_cgroup.specs.declared.files.EntryName.{EntryName}
use Rattle.cg_cgroup.specs.declared.files.EntryName.TheVariants.{Dir, Procs, SubtreeControl, File, Other}
use Rattle.cg_cgroup.specs.declared.other_file.OtherFile.{OtherFile}
use Rattle.cg_cgroup.specs.declared.other_file.OtherFile.TheVariants.{CpuMax}
use Rattle.cg_cgroup.specs.declared.cgroup.LimitEntry.{LimitEntry}
use Rattle.cg_cgroup.specs.declared.brought.BroughtFiles.{BroughtFiles}
use Rattle.cg_cgroup.specs.declared.others.OtherFiles.{OtherFiles}
use Rattle.cg_cgroup.specs.declared.cgroup.Cgroup.{Cgroup}
use Rattle.cg_cgroup.proofs.Places.{numbers, held_all}
use Rattle.cg_cgroup.proofs.ControllerLaws.{mapped_at}

-- ---- names

pub same_file-refl : (file : LimitFile) → same_file file file ≡ true
same_file-refl MaxDescendants = refl
same_file-refl file = refl

numbered : (file : LimitFile) → get_or all_files (kind_of file).number CpuWeight ≡ file
numbered MaxDescendants = refl
numbered file = refl

pub same_file-true : (file other : LimitFile) → same_file file other ≡ true → file ≡ other
same_file-true file other h =
    sym (numbered file) ∙ ap (λ n. get_or all_files n CpuWeight) (eqb-true (kind_of file).number (kind_of other).number h) ∙ numbered other

pub same_other-refl : (file : OtherFile) → same_other file file ≡ true
same_other-refl CpuMax = refl
same_other-refl file = refl

numbered_other : (file : OtherFile) → get_or all_others (other_kind file).number CpuMax ≡ file
numbered_other CpuMax = refl
numbered_other file = refl

pub same_other-true : (file other : OtherFile) → same_other file other ≡ true → file ≡ other
same_other-true file other h =
    sym (numbered_other file) ∙ ap (λ n. get_or all_others n CpuMax) (eqb-true (other_kind file).number (other_kind other).number h)
    ∙ numbered_other other

pub same_entry-refl : (name : EntryName) → same_entry name name ≡ true
same_entry-refl Dir = refl
same_entry-refl Procs = refl
same_entry-refl SubtreeControl = refl
same_entry-refl (File file) = same_file-refl file
same_entry-refl (Other file) = same_other-refl file

pub same_entry-true : (name other : EntryName) → same_entry name other ≡ true → name ≡ other
same_entry-true Dir Dir h = refl
same_entry-true Procs Procs h = refl
same_entry-true SubtreeControl SubtreeControl h = refl
same_entry-true (File file) (File other) h = ap File (same_file-true file other h)
same_entry-true (Other file) (Other other) h = ap Other (same_other-true file other h)
same_entry-true name other h = cc

-- ---- the files that controllers bring

pub place_within : (file : LimitFile) → place_of file < length brought_files
place_within MaxDescendants = omega arith
place_within file = omega arith

pub same_brought : (old new : BroughtFiles) → new.entries ≡ old.entries → new ≡ old
same_brought old new same =
    λ i. record {
      entries = same i;
      whole = is_prop→PathP (λ j. length (same j) ≡ length brought_files) (λ j. ℕ_set _ _) new.whole old.whole i;
    }

held-with_held : (files : BroughtFiles) (place other : ℕ) (f : LimitEntry → LimitEntry) → place < length brought_files
    → held_at (with_held place f files) other
    ≡ cond (nat_eq place other) (option_map f (held_at files other)) (held_at files other)
held-with_held files place other f within =
    elim (nat_eq place other) as (λ b. nat_eq place other ≡ b → held_at (with_held place f files) other
    ≡ cond b (option_map f (held_at files other)) (held_at files other)) [
      | true ↦ λ e.
          let same : place ≡ other = eqb-true place other e in
          ap (held_at (with_held place f files)) (sym same)
          ∙ get_or-set_same files.entries place (option_map f (held_at files place)) None (omega (arith, within, files.whole))
          ∙ ap (λ k. option_map f (held_at files k)) same
      | false ↦ λ e. get_or-set_other files.entries place other (option_map f (held_at files place)) None (grind (arith, e))
    ] refl

-- the files that a row has, in their order
entries_are : (row : Cgroup) → map (file_of row) brought_files ≡ row.files.entries
entries_are row =
    ap (λ count. map (λ place. get_or row.files.entries place None) (numbers count)) (sym row.files.whole)
    ∙ held_all row.files.entries None

-- ---- the other files that controllers bring

pub same_others : (old new : OtherFiles) → new.entries ≡ old.entries → new ≡ old
same_others old new same =
    λ i. record {
      entries = same i;
      whole = is_prop→PathP (λ j. length (same j) ≡ length all_controllers) (λ j. ℕ_set _ _) new.whole old.whole i;
    }

-- a row with the same files in place of its own
pub same_refitted : (row : Cgroup) (files new_files : BroughtFiles) (others new_others : OtherFiles)
    → new_files.entries ≡ files.entries → new_others.entries ≡ others.entries
    → record row { files = new_files; others = new_others } ≡ record row { files = files; others = others }
same_refitted row files new_files others new_others same_files_held same_others_held =
    λ i. record row {
      files = same_brought files new_files same_files_held i;
      others = same_others others new_others same_others_held i;
    }

-- those that a row has, in the order of the controllers
others_are : (row : Cgroup) → map (other_in row) all_controllers ≡ row.others.entries
others_are row =
    ap (λ count. map (λ n. get_or row.others.entries n None) (numbers count)) (sym row.others.whole)
    ∙ held_all row.others.entries None

is_some-cond : {A : Type 0} (b : Bool) (x : A) → is_some (cond b (Some x) None) ≡ b
is_some-cond true x = refl
is_some-cond false x = refl

-- those below a cgroup that enables these, where all have one entry
pub other_in-under : (enabled : ControllerSet) (entry : Entry) (row : Cgroup) → row.others ≡ others_under enabled entry
    → (controller : Controller) → other_in row controller ≡ cond (enables enabled controller) (Some entry) None
other_in-under enabled entry row is controller =
    ap (λ (others : OtherFiles). get_or others.entries (controller_kind controller).number None) is
    ∙ mapped_at (λ controller. cond (enables enabled controller) (Some entry) None) None controller

pub stands-under : (enabled : ControllerSet) (entry : Entry) (row : Cgroup) → row.others ≡ others_under enabled entry
    → (controller : Controller) → is_some (other_in row controller) ≡ enables enabled controller
stands-under enabled entry row is controller =
    ap is_some (other_in-under enabled entry row is controller) ∙ is_some-cond (enables enabled controller) entry

some_one : {A : Type 0} (b : Bool) (x y : A) → cond b (Some x) None ≡ Some y → y ≡ x
some_one true x y h = sym (same_Some x y h)
some_one false x y h = cc

pub entry-under : (enabled : ControllerSet) (entry : Entry) (row : Cgroup) → row.others ≡ others_under enabled entry
    → (controller : Controller) (other : Entry) → other_in row controller ≡ Some other → other ≡ entry
entry-under enabled entry row is controller other has =
    some_one (enables enabled controller) entry other (sym (other_in-under enabled entry row is controller) ∙ has)

-- ---- one limit file changed

pub file_of-with_file : (file : LimitFile) (f : LimitEntry → LimitEntry) (row : Cgroup) (other : LimitFile)
    → file_of (with_file file f row) other ≡ cond (same_file file other) (option_map f (file_of row other)) (file_of row other)
file_of-with_file MaxDescendants f row MaxDescendants = refl
file_of-with_file MaxDescendants f row other = refl
file_of-with_file MaxDepth f row MaxDescendants = refl
file_of-with_file MaxDepth f row other = refl
file_of-with_file file f row MaxDescendants = refl
file_of-with_file file f row MaxDepth = refl
file_of-with_file file f row other = held-with_held row.files (place_of file) (place_of other) f (place_within file)

-- a file that a controller brings
pub with_file-brought : (file : LimitFile) (f : LimitEntry → LimitEntry) (row : Cgroup) → file ≢ MaxDescendants → file ≢ MaxDepth
    → record row { files = with_held (place_of file) f row.files } ≡ with_file file f row
with_file-brought MaxDescendants f row other deeper = absurd (other refl)
with_file-brought MaxDepth f row other deeper = absurd (deeper refl)
with_file-brought file f row other deeper = refl

-- what a change of a limit file leaves
pub record SameRest (old new : Cgroup) : Type 0 where
  pub dir : new.dir ≡ old.dir
  pub procs : new.procs ≡ old.procs
  pub subtree_control : new.subtree_control ≡ old.subtree_control
  pub freeze : new.freeze ≡ old.freeze
  pub enabled : new.enabled ≡ old.enabled

pub rest-with_file : (file : LimitFile) (f : LimitEntry → LimitEntry) (row : Cgroup) → SameRest row (with_file file f row)
rest-with_file MaxDescendants f row = record { dir = refl; procs = refl; subtree_control = refl; freeze = refl; enabled = refl }
rest-with_file file f row = record { dir = refl; procs = refl; subtree_control = refl; freeze = refl; enabled = refl }

pub other_in-with_file : (file : LimitFile) (f : LimitEntry → LimitEntry) (row : Cgroup) (controller : Controller)
    → other_in (with_file file f row) controller ≡ other_in row controller
other_in-with_file MaxDescendants f row controller = refl
other_in-with_file file f row controller = refl

-- what is not told of a row's other files comes from these and from `cgroup.freeze`
pub untold_same : (old new : Cgroup) → new.freeze ≡ old.freeze
    → ((controller : Controller) → other_in new controller ≡ other_in old controller)
    → (file : OtherFile) → untold_in new file ≡ untold_in old file
untold_same old new freeze others file =
    elim (brought_by file) as
    (λ by. elim by [ None ↦ new.freeze | Some controller ↦ other_in new controller ]
    ≡ elim by [ None ↦ old.freeze | Some controller ↦ other_in old controller ])
    [ None ↦ freeze | Some controller ↦ others controller ]

entry_part : (b : Bool) (f : LimitEntry → LimitEntry) (o : Option LimitEntry) → ((x : LimitEntry) → (f x).entry ≡ x.entry)
    → option_map (λ x. x.entry) (cond b (option_map f o) o) ≡ option_map (λ x. x.entry) o
entry_part false f o h = refl
entry_part true f None h = refl
entry_part true f (Some x) h = ap Some (h x)

pub file_of-with_value_in : (file : LimitFile) (value : Limit) (row : Cgroup) (other : LimitFile)
    → file_of (with_value_in file value row) other
    ≡ cond (same_file file other) (option_map (with_value_of value) (file_of row other)) (file_of row other)
file_of-with_value_in file value row other = file_of-with_file file (with_value_of value) row other

pub enabled-with_value_in : (file : LimitFile) (value : Limit) (row : Cgroup) → (with_value_in file value row).enabled ≡ row.enabled
enabled-with_value_in file value row = (rest-with_file file (with_value_of value) row).enabled

pub freeze-with_value_in : (file : LimitFile) (value : Limit) (row : Cgroup) → (with_value_in file value row).freeze ≡ row.freeze
freeze-with_value_in file value row = (rest-with_file file (with_value_of value) row).freeze

pub other_in-with_value_in : (file : LimitFile) (value : Limit) (row : Cgroup) (controller : Controller)
    → other_in (with_value_in file value row) controller ≡ other_in row controller
other_in-with_value_in file value row controller = other_in-with_file file (with_value_of value) row controller

pub entry_in-with_value_in : (file : LimitFile) (value : Limit) (row : Cgroup) (name : EntryName)
    → entry_in (with_value_in file value row) name ≡ entry_in row name
entry_in-with_value_in file value row Dir = ap Some (rest-with_file file (with_value_of value) row).dir
entry_in-with_value_in file value row Procs = ap Some (rest-with_file file (with_value_of value) row).procs
entry_in-with_value_in file value row SubtreeControl = ap Some (rest-with_file file (with_value_of value) row).subtree_control
entry_in-with_value_in file value row (File other) =
    ap (option_map (λ x. x.entry)) (file_of-with_value_in file value row other)
    ∙ entry_part (same_file file other) (with_value_of value) (file_of row other) (λ x. refl)
entry_in-with_value_in file value row (Other other) =
    untold_same row (with_value_in file value row) (rest-with_file file (with_value_of value) row).freeze
    (other_in-with_value_in file value row) other

value_part : (b : Bool) (value : Limit) (o : Option LimitEntry) → option_map (λ x. x.value) (cond b (option_map (with_value_of value) o) o)
    ≡ cond b (option_map (λ x. value) o) (option_map (λ x. x.value) o)
value_part false value o = refl
value_part true value None = refl
value_part true value (Some x) = refl

pub value_in-with_value_in : (file : LimitFile) (value : Limit) (row : Cgroup) (other : LimitFile)
    → value_in (with_value_in file value row) other
    ≡ cond (same_file file other) (option_map (λ x. value) (file_of row other)) (value_in row other)
value_in-with_value_in file value row other =
    ap (option_map (λ x. x.value)) (file_of-with_value_in file value row other)
    ∙ value_part (same_file file other) value (file_of row other)

-- ---- one mode changed

mode_part : (b : Bool) (mode : ℕ) (o : Option LimitEntry) → option_map (λ x. x.entry) (cond b (option_map (with_file_mode_of mode) o) o)
    ≡ cond b (option_map (with_mode_of mode) (option_map (λ x. x.entry) o)) (option_map (λ x. x.entry) o)
mode_part false mode o = refl
mode_part true mode None = refl
mode_part true mode (Some x) = refl

value_kept : (b : Bool) (mode : ℕ) (o : Option LimitEntry)
    → option_map (λ x. x.value) (cond b (option_map (with_file_mode_of mode) o) o) ≡ option_map (λ x. x.value) o
value_kept false mode o = refl
value_kept true mode None = refl
value_kept true mode (Some x) = refl

pub file_of-with_mode_in : (name : EntryName) (mode : ℕ) (row : Cgroup) (file : LimitFile)
    → file_of (with_mode_in name mode row) file
    ≡ cond (same_entry name (File file)) (option_map (with_file_mode_of mode) (file_of row file)) (file_of row file)
file_of-with_mode_in (File file) mode row other = file_of-with_file file (with_file_mode_of mode) row other
file_of-with_mode_in Dir mode row MaxDescendants = refl
file_of-with_mode_in Procs mode row MaxDescendants = refl
file_of-with_mode_in SubtreeControl mode row MaxDescendants = refl
file_of-with_mode_in (Other beyond) mode row file = refl
file_of-with_mode_in name mode row file = refl

pub enabled-with_mode_in : (name : EntryName) (mode : ℕ) (row : Cgroup) → (with_mode_in name mode row).enabled ≡ row.enabled
enabled-with_mode_in (File file) mode row = (rest-with_file file (with_file_mode_of mode) row).enabled
enabled-with_mode_in name mode row = refl

pub freeze-with_mode_in : (name : EntryName) (mode : ℕ) (row : Cgroup) → (with_mode_in name mode row).freeze ≡ row.freeze
freeze-with_mode_in (File file) mode row = (rest-with_file file (with_file_mode_of mode) row).freeze
freeze-with_mode_in name mode row = refl

pub other_in-with_mode_in : (name : EntryName) (mode : ℕ) (row : Cgroup) (controller : Controller)
    → other_in (with_mode_in name mode row) controller ≡ other_in row controller
other_in-with_mode_in (File file) mode row controller = other_in-with_file file (with_file_mode_of mode) row controller
other_in-with_mode_in name mode row controller = refl

pub value_in-with_mode_in : (name : EntryName) (mode : ℕ) (row : Cgroup) (file : LimitFile)
    → value_in (with_mode_in name mode row) file ≡ value_in row file
value_in-with_mode_in name mode row file =
    ap (option_map (λ x. x.value)) (file_of-with_mode_in name mode row file)
    ∙ value_kept (same_entry name (File file)) mode (file_of row file)

pub untold_in-with_mode_in : (name : EntryName) (mode : ℕ) (row : Cgroup) (other : OtherFile)
    → untold_in (with_mode_in name mode row) other ≡ untold_in row other
untold_in-with_mode_in (File file) mode row other =
    untold_same row (with_mode_in (File file) mode row) (rest-with_file file (with_file_mode_of mode) row).freeze
    (other_in-with_mode_in (File file) mode row) other
untold_in-with_mode_in Dir mode row other = untold_same row (with_mode_in Dir mode row) refl (λ controller. refl) other
untold_in-with_mode_in Procs mode row other = untold_same row (with_mode_in Procs mode row) refl (λ controller. refl) other
untold_in-with_mode_in SubtreeControl mode row other =
    untold_same row (with_mode_in SubtreeControl mode row) refl (λ controller. refl) other
untold_in-with_mode_in (Other file) mode row other = refl

pub entry_in-with_mode_in : (name : EntryName) (mode : ℕ) (row : Cgroup) (other : EntryName) → is_beyond other ≡ false
    → entry_in (with_mode_in name mode row) other
    ≡ cond (same_entry name other) (option_map (with_mode_of mode) (entry_in row other)) (entry_in row other)
entry_in-with_mode_in name mode row (Other file) h = cc
entry_in-with_mode_in name mode row (File file) h =
    ap (option_map (λ x. x.entry)) (file_of-with_mode_in name mode row file)
    ∙ mode_part (same_entry name (File file)) mode (file_of row file)
entry_in-with_mode_in (File file) mode row Dir h = ap Some (rest-with_file file (with_file_mode_of mode) row).dir
entry_in-with_mode_in (File file) mode row Procs h = ap Some (rest-with_file file (with_file_mode_of mode) row).procs
entry_in-with_mode_in (File file) mode row SubtreeControl h = ap Some (rest-with_file file (with_file_mode_of mode) row).subtree_control
entry_in-with_mode_in Dir mode row Dir h = refl
entry_in-with_mode_in Procs mode row Dir h = refl
entry_in-with_mode_in SubtreeControl mode row Dir h = refl
entry_in-with_mode_in name mode row other h = refl

-- ---- files made and removed

pub file_of-with_files_of : (enabled : ControllerSet) (user : Identity) (row : Cgroup) (file : LimitFile)
    → file_of (with_files_of enabled user row) file ≡ refitted enabled user file (file_of row file)
file_of-with_files_of enabled user row MaxDescendants = refl
file_of-with_files_of enabled user row file = refl

-- limit files stand exactly where they belong
pub stands-with_files_of : (enabled : ControllerSet) (user : Identity) (row : Cgroup) (file : LimitFile)
    → is_some (file_of (with_files_of enabled user row) file) ≡ stands_under enabled file
stands-with_files_of enabled user row file =
    ap is_some (file_of-with_files_of enabled user row file)
    ∙ is_some-cond (stands_under enabled file) (unwrap_or (file_of row file) (file_made_by user file))

stays : {A : Type 0} (o : Option A) (b : Bool) (new : A) → is_some o ≡ b → cond b (Some (unwrap_or o new)) None ≡ o
stays None true new h = cc
stays None false new h = refl
stays (Some x) true new h = refl
stays (Some x) false new h = cc

-- the limit files of a row that already stand where they belong all stay
pub same-with_files_of : (enabled : ControllerSet) (user : Identity) (row : Cgroup) (file : LimitFile)
    → is_some (file_of row file) ≡ stands_under enabled file → file_of (with_files_of enabled user row) file ≡ file_of row file
same-with_files_of enabled user row file h =
    file_of-with_files_of enabled user row file ∙ stays (file_of row file) (stands_under enabled file) (file_made_by user file) h

pub other_in-with_files_of : (enabled : ControllerSet) (user : Identity) (row : Cgroup) (controller : Controller)
    → other_in (with_files_of enabled user row) controller ≡ refitted_other enabled user controller (other_in row controller)
other_in-with_files_of enabled user row controller =
    mapped_at (λ controller. refitted_other enabled user controller (other_in row controller)) None controller

-- the other files stand exactly where they belong
pub stands-other : (enabled : ControllerSet) (user : Identity) (row : Cgroup) (controller : Controller)
    → is_some (other_in (with_files_of enabled user row) controller) ≡ enables enabled controller
stands-other enabled user row controller =
    ap is_some (other_in-with_files_of enabled user row controller)
    ∙ is_some-cond (enables enabled controller) (unwrap_or (other_in row controller) (entry_made_by user 420))

-- those of a row that already stand where they belong all stay
pub same-other : (enabled : ControllerSet) (user : Identity) (row : Cgroup) (controller : Controller)
    → is_some (other_in row controller) ≡ enables enabled controller
    → other_in (with_files_of enabled user row) controller ≡ other_in row controller
same-other enabled user row controller h =
    other_in-with_files_of enabled user row controller
    ∙ stays (other_in row controller) (enables enabled controller) (entry_made_by user 420) h

-- rows with the same entries, files and controllers are one
pub same_cgroup : (old new : Cgroup) → SameRest old new → ((file : LimitFile) → file_of new file ≡ file_of old file)
    → ((controller : Controller) → other_in new controller ≡ other_in old controller) → new ≡ old
same_cgroup old new rest files others =
    let max_descendants : new.max_descendants ≡ old.max_descendants =
    same_Some new.max_descendants old.max_descendants (files MaxDescendants) in
    let max_depth : new.max_depth ≡ old.max_depth = same_Some new.max_depth old.max_depth (files MaxDepth) in
    let brought : new.files ≡ old.files =
    same_brought old.files new.files (sym (entries_are new) ∙ (λ i. map (λ file. files file i) brought_files) ∙ entries_are old) in
    let beyond : new.others ≡ old.others =
    same_others old.others new.others
    (sym (others_are new) ∙ (λ i. map (λ controller. others controller i) all_controllers) ∙ others_are old) in
    λ i. record {
      dir = rest.dir i;
      procs = rest.procs i;
      subtree_control = rest.subtree_control i;
      max_descendants = max_descendants i;
      max_depth = max_depth i;
      freeze = rest.freeze i;
      files = brought i;
      others = beyond i;
      enabled = rest.enabled i;
    }

-- where each file already stands as it belongs, nothing changes
pub with_files_of-same : (enabled : ControllerSet) (user : Identity) (row : Cgroup)
    → ((file : LimitFile) → is_some (file_of row file) ≡ stands_under enabled file)
    → ((controller : Controller) → is_some (other_in row controller) ≡ enables enabled controller) → with_files_of enabled user row ≡ row
with_files_of-same enabled user row stands others =
    same_cgroup row (with_files_of enabled user row)
    (record { dir = refl; procs = refl; subtree_control = refl; freeze = refl; enabled = refl })
    (λ file. same-with_files_of enabled user row file (stands file))
    (λ controller. same-other enabled user row controller (others controller))

-- ---- a new cgroup

pub file_of-cgroup_made_by : (user : Identity) (enabled : ControllerSet) (file : LimitFile)
    → file_of (cgroup_made_by user enabled) file ≡ cond (stands_under enabled file) (Some (file_made_by user file)) None
file_of-cgroup_made_by user enabled MaxDescendants = refl
file_of-cgroup_made_by user enabled file = refl

pub stands-cgroup_made_by : (user : Identity) (enabled : ControllerSet) (file : LimitFile)
    → is_some (file_of (cgroup_made_by user enabled) file) ≡ stands_under enabled file
stands-cgroup_made_by user enabled file =
    ap is_some (file_of-cgroup_made_by user enabled file) ∙ is_some-cond (stands_under enabled file) (file_made_by user file)

pub other_in-cgroup_made_by : (user : Identity) (enabled : ControllerSet) (controller : Controller)
    → other_in (cgroup_made_by user enabled) controller ≡ cond (enables enabled controller) (Some (entry_made_by user 420)) None
other_in-cgroup_made_by user enabled Cpu = refl
other_in-cgroup_made_by user enabled controller = refl

pub stands-other-made : (user : Identity) (enabled : ControllerSet) (controller : Controller)
    → is_some (other_in (cgroup_made_by user enabled) controller) ≡ enables enabled controller
stands-other-made user enabled controller =
    ap is_some (other_in-cgroup_made_by user enabled controller) ∙ is_some-cond (enables enabled controller) (entry_made_by user 420)

-- ---- values that are accepted

pub accepts-default_value : (file : LimitFile) → accepts file (default_value file) ≡ true
accepts-default_value MaxDescendants = refl
accepts-default_value file = refl
