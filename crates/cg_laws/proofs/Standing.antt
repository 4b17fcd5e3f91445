-- Every step leaves what is told of limit files beyond `LimitFile` told of files that stand.
use Rattle.std.proofs.Common.{◌≡◌, ℕ, List, ◌&&◌, Bool, true, false, cond, refl, sym, ap, ◌∙◌, true≢false, Option, Some, None, is_some, option_map, option_and_then}
use Rattle.std.specs.FinMap as finite
use Rattle.cg_cgroup.specs.Paths.{Names, same_path, is_child}
use Rattle.cg_cgroup.specs.Identity.{Identity}
use Rattle.cg_cgroup.specs.Files.{stands_by, brought_by, same_other, enables}
use Rattle.cg_cgroup.specs.Cgroups.{other_in}
use Rattle.cg_cgroup.specs.Told.{told_in, file_untold, with_mode_told, with_value_told}
use Rattle.cg_cgroup.specs.declared.controllers.ControllerSet.{ControllerSet}
use Rattle.cg_cgroup.specs.declared.cgroup.Cgroup.{Cgroup}
use Rattle.cg_cgroup.specs.declared.files.Controller.{Controller}
use Rattle.cg_cgroup.specs.declared.files.EntryName.{EntryName}
use Rattle.cg_cgroup.specs.declared.files.EntryName.TheVariants.{Dir, Other}
use Rattle.cg_cgroup.specs.declared.other_file.OtherFile.{OtherFile}
use Rattle.cg_cgroup.specs.declared.told.ToldFile.{ToldFile}
use Rattle.cg_cgroup.proofs.Options.{some_value}
use Rattle.cg_cgroup.proofs.PathOrder.{same_path-is}
use Rattle.cg_cgroup.proofs.CgroupLaws.{stands-other}
use Rattle.cg_model.specs.States.{State, process_at, row_at, other_at, told_at, untold_at, file_told, enabling, with_enabled, with_mode, with_text}
use Rattle.cg_model.specs.WellFormed.{IsWellFormed, has_row, enabled_at, enabled_above}
use Rattle.cg_model.specs.Changes.{enabled_after}
use Rattle.cg_model.specs.Next.{next}
use Rattle.cg_model.specs.Steps.{after}
use Rattle.cg_model.specs.Effects.{alters_row, alters_others}
use Rattle.cg_model.specs.declared.changes.Change.{Change}
use Rattle.cg_model.specs.declared.operation.Op.{Op}
use Rattle.cg_model.specs.declared.operation.Op.TheVariants.{Move, Control, Mkdir, Rmdir, Set, SetOther, Fork, Exit, Chmod}
use Rattle.cg_model.proofs.Allowed.{allowed_mkdir}
use Rattle.cg_model.proofs.StateLaws.{row_at-with_enabled}
use Rattle.cg_model.proofs.FormedEnabled.{enabling-by, is_child-itself, has_row-with_enabled}
use Rattle.cg_model.proofs.StateTold.{or_untold, told_at-telling, told_at-without_row, told_at-with_enabled}
use Rattle.cg_model.proofs.StepFormed.{after-by, after-allowed}
use Rattle.cg_model.proofs.StepEffects.{fork-by, has_row-after, other_at-after}
use Rattle.cg_laws.specs.Sound.{file_stands}

abbrev pub AreStanding : State → Type 0
AreStanding st = (path : Names) (file : OtherFile) → is_some (told_at st path file) ≡ true → file_stands st path file ≡ true

-- the other files of a child stand exactly where its parent enables their controller
pub stands-child : (st : State) (at : Names) (enabled : ControllerSet) (user : Identity) (q : Names) (controller : Controller)
    → is_child at q ≡ true → has_row st q ≡ true
    → is_some (other_at (with_enabled st at enabled user) q controller) ≡ enables enabled controller
stands-child st at enabled user q controller child there =
    let row = some_value (row_at st q) there in
    ap (λ r. is_some (option_and_then (λ row. other_in row controller) r)) (row_at-with_enabled st at enabled user q)
    ∙ ap (λ r. is_some (option_and_then (λ row. other_in row controller) (option_map (enabling at enabled user q) r))) row.1
    ∙ enabling-by at enabled user (λ r. is_some (other_in r controller) ≡ enables enabled controller) q row.0
    (λ same. absurd (true≢false (sym child ∙ ap (is_child at) (sym (same_path-is at q same)) ∙ is_child-itself at)))
    (λ _. stands-other enabled user row.0 controller) (λ _ other. absurd (true≢false (sym child ∙ other)))

some-mapped : {A B : Type 0} (f : A → B) (o : Option A) → is_some (option_map f o) ≡ true → is_some o ≡ true
some-mapped f None h = h
some-mapped f (Some x) h = refl

-- ---- a well-formed tree

some-chained : {A B : Type 0} (f : A → Option B) (o : Option A) → is_some (option_and_then f o) ≡ true
    → (x : A) × (o ≡ Some x) × (is_some (f x) ≡ true)
some-chained f None h = absurd (true≢false (sym h))
some-chained f (Some x) h = (x, refl, h)

pub standing-formed : (st : State) → IsWellFormed st → AreStanding st
standing-formed st whole path file told =
    let files = some-chained (λ files. told_in files file) (finite.get st.told path) told in
    let formed = whole.told path files.0 files.1 in
    let known = some_value (told_in files.0 file) files.2 in
    let row = some_value (row_at st path) formed.0 in
    elim (brought_by file) as (λ by. stands_by (enabled_above st path) by ≡ true
    → elim by [ None ↦ has_row st path | Some controller ↦ is_some (other_at st path controller) ] ≡ true) [
      | None ↦ λ _. formed.0
      | Some controller ↦ λ enabled. ap (λ r. is_some (option_and_then (λ row. other_in row controller) r)) row.1
          ∙ (whole.rows path row.0 row.1).others controller ∙ enabled
    ] (formed.1.stand file known.0 known.1)

-- ---- a file that stands

-- whose cgroup is there
stands-there : (st : State) (path : Names) (file : OtherFile) → file_stands st path file ≡ true → has_row st path ≡ true
stands-there st path file =
    elim (brought_by file) as (λ by. elim by [ None ↦ has_row st path | Some controller ↦ is_some (other_at st path controller) ] ≡ true
    → has_row st path ≡ true) [
      | None ↦ λ h. h
      | Some controller ↦ λ h. ap is_some (some-chained (λ row. other_in row controller) (row_at st path) h).1
    ]

-- one that is told, or untold
file-stands : (st : State) → AreStanding st → (path : Names) (file : OtherFile) → is_some (file_told st path file) ≡ true
    → file_stands st path file ≡ true
file-stands st standing path file =
    elim (told_at st path file) as
    (λ known. told_at st path file ≡ known → is_some (or_untold known (untold_at st path file)) ≡ true → file_stands st path file ≡ true) [
      | None ↦ λ _ h. untold-stands (some-mapped file_untold (untold_at st path file) h)
      | Some told ↦ λ is _. standing path file (ap is_some is)
    ] refl
  where
    untold-stands : is_some (untold_at st path file) ≡ true → file_stands st path file ≡ true
    untold-stands = elim (brought_by file) as (λ by.
        is_some (option_and_then (λ (row : Cgroup). elim by [ None ↦ row.freeze | Some controller ↦ other_in row controller ])
        (row_at st path)) ≡ true
        → elim by [ None ↦ has_row st path | Some controller ↦ is_some (other_at st path controller) ] ≡ true) [
          | None ↦ λ h. ap is_some (some-chained _ (row_at st path) h).1
          | Some controller ↦ λ h. h
        ]

told-there : (st : State) (path : Names) (file : OtherFile) → is_some (told_at st path file) ≡ true
    → is_some (file_told st path file) ≡ true
told-there st path file h =
    ap (λ it. is_some (or_untold it (untold_at st path file))) (some_value (told_at st path file) h).1

-- ---- each operation

module _ (st : State) (user : Identity) (op : Op) (q : Names) (file : OtherFile) (standing : AreStanding st) where
  -- a cgroup that stays there, with its files
  stands-kept : alters_row op q ≡ false → alters_others op q ≡ false → is_some (file_told st q file) ≡ true
      → file_stands (after st user op) q file ≡ true
  stands-kept row others told =
      elim (brought_by file) as
      (λ by. elim by [ None ↦ has_row (after st user op) q | Some controller ↦ is_some (other_at (after st user op) q controller) ]
      ≡ elim by [ None ↦ has_row st q | Some controller ↦ is_some (other_at st q controller) ]) [
        | None ↦ has_row-after st user op q row
        | Some controller ↦ ap is_some (other_at-after st user op q controller others)
      ] ∙ file-stands st standing q file told

  -- of whose files as much is told
  told-kept : alters_row op q ≡ false → alters_others op q ≡ false → told_at (after st user op) q file ≡ told_at st q file
      → is_some (told_at (after st user op) q file) ≡ true → file_stands (after st user op) q file ≡ true
  told-kept row others same told = stands-kept row others (told-there st q file (sym (ap is_some same) ∙ told))

  -- or more is, of one that stands
  more-kept : (b : Bool) (f : ToldFile → ToldFile) → alters_row op q ≡ false → alters_others op q ≡ false
      → is_some (cond b (option_map f (file_told st q file)) (told_at st q file)) ≡ true → file_stands (after st user op) q file ≡ true
  more-kept true f row others told = stands-kept row others (some-mapped f (file_told st q file) told)
  more-kept false f row others told = stands-kept row others (told-there st q file told)

-- a chmod tells of no file but one beyond `LimitFile`
chmod-standing : (st : State) (user : Identity) (at : Names) (name : EntryName) (mode : ℕ) → AreStanding st
    → AreStanding (after st user (Chmod at name mode))
chmod-standing st user at (Other changed) mode standing q file told =
    let op = Chmod at (Other changed) mode in
    after-by st user op (λ s. is_some (told_at s q file) ≡ true → file_stands (after st user op) q file ≡ true)
    (λ _ told. more-kept st user op q file standing (same_path at q && same_other changed file) (with_mode_told mode) refl refl
    (sym (ap is_some (told_at-telling st at changed (with_mode_told mode) q file (with_mode st at (Other changed) mode) refl)) ∙ told))
    (λ told. stands-kept st user op q file standing refl refl (told-there st q file told)) told
chmod-standing st user at Dir mode standing q file told =
    told-kept st user (Chmod at Dir mode) q file standing refl refl
    (after-by st user (Chmod at Dir mode) (λ s. told_at s q file ≡ told_at st q file) (λ _. refl) refl) told
chmod-standing st user at name mode standing q file told =
    told-kept st user (Chmod at name mode) q file standing refl refl
    (after-by st user (Chmod at name mode) (λ s. told_at s q file ≡ told_at st q file) (λ _. refl) refl) told

-- a cgroup that is made is none of whose files anything was told
mkdir-standing : (st : State) (user : Identity) (path : Names) → AreStanding st → AreStanding (after st user (Mkdir path))
mkdir-standing st user path standing q file told =
    let op = Mkdir path in
    let same = after-by st user op (λ s. told_at s q file ≡ told_at st q file) (λ _. refl) refl in
    let had : is_some (told_at st q file) ≡ true = sym (ap is_some same) ∙ told in
    after-by st user op (λ s. file_stands s q file ≡ true) (λ free.
    elim (same_path path q) as (λ b. same_path path q ≡ b → file_stands (next st user op) q file ≡ true) [
      | true ↦ λ here. absurd (true≢false (sym (stands-there st q file (standing q file had))
          ∙ ap (has_row st) (sym (same_path-is path q here)) ∙ (allowed_mkdir st user path free).0))
      | false ↦ λ apart. ap (λ s. file_stands s q file) (sym (after-allowed st user op free))
          ∙ told-kept st user op q file standing apart apart same told
    ] refl) (standing q file had)

-- of a removed one nothing is told
rmdir-standing : (st : State) (user : Identity) (path : Names) → AreStanding st → AreStanding (after st user (Rmdir path))
rmdir-standing st user path standing q file told =
    let op = Rmdir path in
    after-by st user op (λ s. is_some (told_at s q file) ≡ true → file_stands s q file ≡ true) (λ free told.
    elim (same_path path q) as (λ b. same_path path q ≡ b → is_some (cond b None (told_at st q file)) ≡ true
    → file_stands (next st user op) q file ≡ true) [
      | true ↦ λ _ told. absurd (true≢false (sym told))
      | false ↦ λ apart told. ap (λ s. file_stands s q file) (sym (after-allowed st user op free))
          ∙ stands-kept st user op q file standing apart apart (told-there st q file told)
    ] refl (sym (ap is_some (told_at-without_row st path q file)) ∙ told)) (standing q file) told

-- of what comes and goes at a child no more is told than what its parent enables
control-standing : (st : State) (user : Identity) (at : Names) (changes : List Change) → AreStanding st
    → AreStanding (after st user (Control at changes))
control-standing st user at changes standing q file told =
    let op = Control at changes in
    let enabled = enabled_after (enabled_at st at) changes in
    after-by st user op (λ s. is_some (told_at s q file) ≡ true → file_stands s q file ≡ true) (λ free told.
    elim (is_child at q) as (λ b. is_child at q ≡ b
    → is_some (cond b (cond (stands_by enabled (brought_by file)) (told_at st q file) None) (told_at st q file)) ≡ true
    → file_stands (next st user op) q file ≡ true) [
      | true ↦ λ child told. at-child enabled child (stands_by enabled (brought_by file)) refl told
      | false ↦ λ apart told. ap (λ s. file_stands s q file) (sym (after-allowed st user op free))
          ∙ stands-kept st user op q file standing refl apart (told-there st q file told)
    ] refl (sym (ap is_some (told_at-with_enabled st at enabled user q file)) ∙ told)) (standing q file) told
  where
    at-child : (enabled : ControllerSet) → is_child at q ≡ true → (brought : Bool) → stands_by enabled (brought_by file) ≡ brought
        → is_some (cond brought (told_at st q file) None) ≡ true → file_stands (with_enabled st at enabled user) q file ≡ true
    at-child enabled child false is told = absurd (true≢false (sym told))
    at-child enabled child true is told =
        let there = stands-there st q file (standing q file told) in
        elim (brought_by file) as (λ by. stands_by enabled by ≡ true
        → elim by [
          | None ↦ has_row (with_enabled st at enabled user) q
          | Some controller ↦ is_some (other_at (with_enabled st at enabled user) q controller)
        ] ≡ true) [
          | None ↦ λ _. has_row-with_enabled st at enabled user q ∙ there
          | Some controller ↦ λ on. stands-child st at enabled user q controller child there ∙ on
        ] is

-- any other tells of none
quiet-standing : (st : State) (user : Identity) (op : Op) → ((q : Names) → alters_row op q ≡ false)
    → ((q : Names) → alters_others op q ≡ false)
    → ((q : Names) (file : OtherFile) → told_at (next st user op) q file ≡ told_at st q file) → AreStanding st
    → AreStanding (after st user op)
quiet-standing st user op row others same standing q file told =
    told-kept st user op q file standing (row q) (others q)
    (after-by st user op (λ s. told_at s q file ≡ told_at st q file) (λ _. same q file) refl) told

pub standing-after : (st : State) (user : Identity) (op : Op) → AreStanding st → AreStanding (after st user op)
standing-after st user (Move pid to) standing = quiet-standing st user (Move pid to) (λ q. refl) (λ q. refl) (λ q file. refl) standing
standing-after st user (Control at changes) standing = control-standing st user at changes standing
standing-after st user (Mkdir path) standing = mkdir-standing st user path standing
standing-after st user (Rmdir path) standing = rmdir-standing st user path standing
standing-after st user (Set at file value) standing =
    quiet-standing st user (Set at file value) (λ q. refl) (λ q. refl) (λ q file. refl) standing
standing-after st user (SetOther at changed value) standing = λ q file told.
    let op = SetOther at changed value in
    after-by st user op (λ s. is_some (told_at s q file) ≡ true → file_stands (after st user op) q file ≡ true)
    (λ _ told. more-kept st user op q file standing (same_path at q && same_other changed file) (with_value_told value) refl refl
    (sym (ap is_some (told_at-telling st at changed (with_value_told value) q file (with_text st at changed value) refl)) ∙ told))
    (λ told. stands-kept st user op q file standing refl refl (told-there st q file told)) told
standing-after st user (Fork parent child) standing =
    quiet-standing st user (Fork parent child) (λ q. refl) (λ q. refl)
    (λ q file. fork-by (λ s. told_at s q file ≡ told_at st q file) st child (process_at st parent) refl (λ process. refl)) standing
standing-after st user (Exit pid) standing = quiet-standing st user (Exit pid) (λ q. refl) (λ q. refl) (λ q file. refl) standing
standing-after st user (Chmod at name mode) standing = chmod-standing st user at name mode standing
