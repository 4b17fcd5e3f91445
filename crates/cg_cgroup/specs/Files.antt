-- Controllers and limit files: how they are found by their names, where they stand, and the values that they take.
use Rattle.std.specs.Prelude.{◌≡◌, ℕ, Bool, true, false, ◌&&◌, ◌||◌, not, nat_eq, nat_le, cond, get_or, map, List, [], ◌∷◌, ◌++◌, Option, Some, None, codes}
use Rattle.std.specs.List.{find, list_all, list_any}
use Rattle.std.proofs.Common.{refl}
use Rattle.cg_cgroup.specs.Paths.{same_name}
use Rattle.cg_cgroup.specs.Texts as texts
pub use Rattle.cg_cgroup.specs.Kinds.{all_controllers, format_2_controllers, controller_kind, controller_name, all_files, file_name, kind_of, brought_files, place_of}
pub use Rattle.cg_cgroup.specs.OtherKinds.{all_others, other_kind, other_name, brought_by}
use Rattle.cg_cgroup.specs.declared.files.Limit.{Limit}
use Rattle.cg_cgroup.specs.declared.files.Limit.TheVariants.{Max, At}
use Rattle.cg_cgroup.specs.declared.files.Controller.{Controller}
use Rattle.cg_cgroup.specs.declared.controllers.ControllerSet.{ControllerSet}
use Rattle.cg_cgroup.specs.declared.files.Vocabulary.{Vocabulary}
use Rattle.cg_cgroup.specs.declared.files.Vocabulary.TheVariants.{Format2, Format4}
use Rattle.cg_cgroup.specs.declared.files.LimitFile.{LimitFile}
use Rattle.cg_cgroup.specs.declared.files.EntryName.{EntryName}
use Rattle.cg_cgroup.specs.declared.files.EntryName.TheVariants.{Dir, Procs, SubtreeControl, File, Other}
use Rattle.cg_cgroup.specs.declared.other_file.OtherFile.{OtherFile}

-- Names by which things are found: each thing by its own, what is found has the name that was sought, and no two names are equal.
pub record AreNames {A : Type 0} (name : A → List ℕ) (look_up : List ℕ → Option A) : Type 0 where
  pub found : (x : A) → look_up (name x) ≡ Some x
  pub named : (text : List ℕ) (x : A) → look_up text ≡ Some x → text ≡ name x
  pub distinct : (x y : A) → name x ≡ name y → x ≡ y

-- the controller of a name
abbrev pub controller_named : List ℕ → Option Controller
controller_named text = find (λ controller. same_name text (controller_name controller)) all_controllers

abbrev pub same_controller : Controller → Controller → Bool
same_controller controller other = nat_eq (controller_kind controller).number (controller_kind other).number

abbrev pub is_in_format_2 : Controller → Bool
is_in_format_2 controller = list_any (same_controller controller) format_2_controllers

-- the controller of a name among these
abbrev pub named_in_format_2 : List ℕ → Option Controller
named_in_format_2 text = find (λ controller. same_name text (controller_name controller)) format_2_controllers

-- a controller that texts and operation lines of a vocabulary name
abbrev pub is_known : Vocabulary → Controller → Bool
is_known Format2 controller = is_in_format_2 controller
is_known Format4 controller = true

-- the controller that a name means there
abbrev pub known_as : Vocabulary → List ℕ → Option Controller
known_as Format2 text = named_in_format_2 text
known_as Format4 text = controller_named text

-- a set has a flag for each controller, at its number
abbrev pub enables : ControllerSet → Controller → Bool
enables set controller = get_or set.flags (controller_kind controller).number false

-- the controllers that pass a test
abbrev pub set_by : (Controller → Bool) → ControllerSet
set_by test = record { flags = map test all_controllers; whole = refl }

abbrev pub with_controller : ControllerSet → Controller → Bool → ControllerSet
with_controller set controller on = set_by (λ other. cond (same_controller controller other) on (enables set other))

abbrev pub no_controllers : ControllerSet
no_controllers = set_by (λ controller. false)

abbrev pub enables_nothing : ControllerSet → Bool
enables_nothing set = list_all (λ controller. not (enables set controller)) all_controllers

-- each controller of the first set is in the second
abbrev pub is_within : ControllerSet → ControllerSet → Bool
is_within set other = list_all (λ controller. not (enables set controller) || enables other controller) all_controllers

-- each controller of the set is one of the vocabulary
abbrev pub is_of : Vocabulary → ControllerSet → Bool
is_of vocabulary set = list_all (λ controller. not (enables set controller) || is_known vocabulary controller) all_controllers

-- the smaller vocabulary, where it has each controller of the set
abbrev pub vocabulary_of : ControllerSet → Vocabulary
vocabulary_of set = cond (is_of Format2 set) Format2 Format4

abbrev pub same_file : LimitFile → LimitFile → Bool
same_file file other = nat_eq (kind_of file).number (kind_of other).number

abbrev pub same_other : OtherFile → OtherFile → Bool
same_other file other = nat_eq (other_kind file).number (other_kind other).number

abbrev pub same_entry : EntryName → EntryName → Bool
same_entry Dir Dir = true
same_entry Procs Procs = true
same_entry SubtreeControl SubtreeControl = true
same_entry (File file) (File other) = same_file file other
same_entry (Other file) (Other other) = same_other file other
same_entry name other = false

-- a limit file beyond `LimitFile`
abbrev pub is_beyond : EntryName → Bool
is_beyond (Other file) = true
is_beyond name = false

-- the limit file of a name
abbrev pub file_named : List ℕ → Option LimitFile
file_named text = find (λ file. same_name text (file_name file)) all_files

-- those that texts and operation lines of formats 1 and 2 name
abbrev pub format_2_entries : List EntryName
format_2_entries = Dir ∷ Procs ∷ SubtreeControl ∷ map File all_files

abbrev pub all_entries : List EntryName
all_entries = format_2_entries ++ map Other all_others

abbrev pub entry_text : EntryName → List ℕ
entry_text Dir = codes "dir"
entry_text Procs = texts.cgroup_procs
entry_text SubtreeControl = texts.cgroup_subtree_control
entry_text (File file) = file_name file
entry_text (Other file) = other_name file

-- the entry of a name
abbrev pub entry_named : List ℕ → Option EntryName
entry_named text = find (λ name. same_name text (entry_text name)) all_entries

-- Own: the limit files beyond `LimitFile` that texts and operation lines of a vocabulary name.
abbrev pub known_others : Vocabulary → List OtherFile
known_others Format2 = []
known_others Format4 = all_others

-- an entry that texts and operation lines of a vocabulary name, and the one that a name means there
abbrev pub known_entries : Vocabulary → List EntryName
known_entries Format2 = format_2_entries
known_entries Format4 = all_entries

abbrev pub entry_known_as : Vocabulary → List ℕ → Option EntryName
entry_known_as vocabulary text = find (λ name. same_name text (entry_text name)) (known_entries vocabulary)

-- The controller that brings a file. The two of the core stand at every cgroup. Enabling and Disabling; Core Interface Files.
abbrev pub controller_of : LimitFile → Option Controller
controller_of file = (kind_of file).controller

abbrev pub default_value : LimitFile → Limit
default_value file = (kind_of file).default

abbrev pub accepts : LimitFile → Limit → Bool
accepts file Max = (kind_of file).takes_max
accepts file (At value) = nat_le (kind_of file).least value && nat_le value (kind_of file).greatest

-- Whether what a controller brings, or the core, stands at a child of a cgroup that enables these.
abbrev pub stands_by : ControllerSet → Option Controller → Bool
stands_by enabled by = elim by [ None ↦ true | Some controller ↦ enables enabled controller ]

-- Whether a file stands at a child of a cgroup that enables these, or at the root where there is no such cgroup.
abbrev pub stands_under : ControllerSet → LimitFile → Bool
stands_under enabled file = stands_by enabled (controller_of file)
