-- A text is of one state at most. In it each cgroup stands at a path, and each live process has a PID.
use Rattle.std.proofs.Common.{◌≡◌, ℕ, Bool, true, false, not, cond, List, codes, Option, Some, None, is_some, option_map, option_and_then, refl, sym, ap, subst, ◌∙◌, true≢false, eqb-true, arith}
use Rattle.std.specs.Prelude.{count_by, nat_eq, find, ◌==◌}
use Rattle.std.specs.List.{AllByRecursion, list_all, slice_split}
use Rattle.std.specs.Cmp.{nat_cmp_total}
use Rattle.std.proofs.lemmas.Bool.{false_from_ne_true}
use Rattle.std.specs.FinMap as map
use Rattle.std.specs.FinMap.{nat_cmp-IsAntisymmetric, same_map}
use Rattle.std.specs.FinSet.{same_set}
use Rattle.cg_model.proofs.Lists.{all-both, find-all, find-passes}
use Rattle.toml.specs.Data.{Members}
use Rattle.cg_cgroup.specs.Paths.{Names, IsPath, same_path, is_root, parent, path_at}
use Rattle.cg_cgroup.specs.Numbers.{is_pid}
use Rattle.cg_cgroup.specs.Files.{is_beyond, enables, no_controllers, stands_under}
use Rattle.cg_cgroup.specs.Cgroups.{file_of, other_in, entry_in, root_file}
use Rattle.cg_cgroup.specs.declared.user.Entry.{Entry}
use Rattle.cg_cgroup.specs.declared.controllers.ControllerSet.{ControllerSet}
use Rattle.cg_cgroup.specs.declared.files.Controller.{Controller}
use Rattle.cg_cgroup.specs.declared.files.LimitFile.{LimitFile}
use Rattle.cg_cgroup.specs.declared.files.EntryName.{EntryName}
use Rattle.cg_cgroup.specs.declared.files.EntryName.TheVariants.{Dir, Procs, SubtreeControl, File, Other}
use Rattle.cg_cgroup.specs.declared.other_file.OtherFile.{OtherFile}
use Rattle.cg_cgroup.specs.declared.told.FileText.{FileText}
use Rattle.cg_cgroup.specs.declared.told.ToldFile.{ToldFile}
use Rattle.cg_cgroup.specs.declared.told.ToldFiles.{ToldFiles}
use Rattle.cg_cgroup.specs.Told.{told_in}
use Rattle.cg_cgroup.specs.declared.cgroup.LimitEntry.{LimitEntry}
use Rattle.cg_cgroup.specs.declared.cgroup.Cgroup.{Cgroup}
use Rattle.cg_cgroup.proofs.Options.{some_value, none_value, same_some}
use Rattle.cg_cgroup.proofs.PathAt.{path_at-is}
use Rattle.cg_cgroup.proofs.PathOrder.{path_cmp_total, path_cmp-IsAntisymmetric, same_path-is}
use Rattle.cg_cgroup.proofs.CgroupLaws.{SameRest, same_cgroup}
use Rattle.cg_model.specs.States.{State, row_at, process_at}
use Rattle.cg_model.specs.WellFormed.{has_row, enabled_at, enabled_above, IsWellFormed}
use Rattle.cg_format.specs.Said.{known_said, tables_at, text_at, integer_at, path_said, pid_said, pid_read, number_or, has_path, is_named, is_text_line, told_said, tells, told_row}
use Rattle.cg_format.specs.TextOf.{OthersAreRoots, IsRowOf, IsProcessOf, has_pid, IsDocumentOf, IsTextOf}
use Rattle.cg_format.specs.declared.format.Format.{Format}
use Rattle.cg_format.proofs.Cuts.{is_some-find, any_counted}
use Rattle.cg_format.proofs.SaidRanges.{passed}
use Rattle.cg_format.proofs.ToldSaid.{row_told}
use Rattle.cg_format.proofs.ValueLines.{told_lines}

-- ---- what is found

pub and_then_from : {A B : Type 0} (f : A → Option B) (o : Option A) (y : B) → option_and_then f o ≡ Some y
    → (x : A) × (o ≡ Some x) × (f x ≡ Some y)
and_then_from f None y is = absurd (true≢false (sym (ap is_some is)))
and_then_from f (Some x) y is = (x, refl, is)

-- the first of a list that passes a test
abbrev pub Passes : {A : Type 0} → (A → Type 0) → (A → Bool) → List A → Type 0
Passes {A = A} P p xs = (x : A) × P x × (p x ≡ true) × (find p xs ≡ Some x)

pub one_passes : {A : Type 0} (P : A → Type 0) (p : A → Bool) (xs : List A) (b : Bool) → AllByRecursion P xs
    → count_by p xs ≡ cond b 1 0 → b ≡ true → Passes P p xs
one_passes P p xs b all count is =
    let found = some_value (find p xs) (is_some-find p xs ∙ any_counted p xs b count ∙ is) in
    (found.0, find-all P p xs all found.0 found.1, find-passes p xs found.0 found.1, found.1)

same_test : (a b : Bool) → cond {A = ℕ} a 1 0 ≡ cond b 1 0 → a ≡ b
same_test a b is = grind arith

pub path_is : (path said : Names) (row : Members) → path_said (codes "path") row ≡ Some said → has_path path row ≡ true → path ≡ said
path_is path said row is has =
    same_path-is path said (ap (λ (o : Option Names). elim o [ None ↦ false | Some said ↦ same_path path said ]) (sym is) ∙ has)

pub pid_is : (pid said : ℕ) (row : Members) → pid_said row ≡ Some said → has_pid pid row ≡ true → pid ≡ said
pid_is pid said row is has =
    eqb-true pid said (ap (λ (o : Option ℕ). elim o [ None ↦ false | Some said ↦ nat_eq pid said ]) (sym is) ∙ has)

-- ---- names

pub paths_are_paths : (bytes : List ℕ) (st : State) (path : Names) → IsTextOf st bytes → has_row st path ≡ true → IsPath path
paths_are_paths bytes st path is there =
    let tables : List Members = tables_at (codes "cgroup") is.document in
    let count = is.says.paths path in
    let found = one_passes (IsRowOf is.says.format st) (has_path path) tables (has_row st path) is.says.cgroups count there in
    let read = and_then_from path_at (text_at (codes "path") found.0) found.1.path found.1.named in
    subst IsPath (sym (path_is path found.1.path found.0 found.1.named found.2)) (path_at-is read.0 found.1.path read.2).0

pub others_read : (st : State) (document : Members) → IsDocumentOf st document → (path : Names) (row : Cgroup) → row_at st path ≡ Some row
    → OthersAreRoots row
others_read st document is path row there =
    let found = one_passes (IsRowOf is.format st) (has_path path) (tables_at (codes "cgroup") document) (has_row st path) is.cgroups
    (is.paths path) (ap is_some there) in
    let named : path ≡ found.1.path = path_is path found.1.path found.0 found.1.named found.2 in
    subst OthersAreRoots (same_some found.1.cgroup row (sym (ap (row_at st) named ∙ found.1.there) ∙ there)) found.1.others

-- what a row tells that is told of a path of the state
pub record ToldRead (format : Format) (path : Names) (files : ToldFiles) (row : Members) : Type 0 where
  pub named : path_said (codes "path") row ≡ Some path
  pub tells : tells format row ≡ true
  pub said : Some files ≡ told_row format row
  pub values : (file : OtherFile) → is_named (Other file) row ≡ true → is_some (told_said format row file) ≡ true

-- what is told of a path of a document's state, one of its rows tells
pub told_read : (st : State) (document : Members) (is : IsDocumentOf st document) (path : Names) (files : ToldFiles)
    → map.get st.told path ≡ Some files → (row : Members) × ToldRead is.format path files row
told_read st document is path files there =
    let held = (is.formed.told path files there).0 in
    let found = one_passes (IsRowOf is.format st) (has_path path) (tables_at (codes "cgroup") document) (has_row st path) is.cgroups
    (is.paths path) held in
    let named : path ≡ found.1.path = path_is path found.1.path found.0 found.1.named found.2 in
    let tells : told_row is.format found.0 ≡ Some files = sym found.1.told ∙ ap (map.get st.told) (sym named) ∙ there in
    let told = row_told is.format found.0 files tells in (
      found.0,
      record {
        named = found.1.named ∙ ap Some (sym named);
        tells = told.tells;
        said = sym tells;
        values = found.1.told_values;
      },
    )

-- the value of a file that is told of is lines
pub told_value_read : (st : State) (document : Members) → IsDocumentOf st document → (path : Names) (files : ToldFiles)
    → map.get st.told path ≡ Some files → (file : OtherFile) (told : ToldFile) (text : FileText) → told_in files file ≡ Some told
    → told.value ≡ Some text → list_all is_text_line (slice_split (λ b. b == 10) text) ≡ true
told_value_read st document is path files there file told text known has =
    let read = told_read st document is path files there in
    told_lines is.format read.0 file told text
    (sym ((row_told is.format read.0 files (sym read.1.said)).each file) ∙ known) has

pub pids_are_pids : (bytes : List ℕ) (st : State) (pid : ℕ) → IsTextOf st bytes → is_some (process_at st pid) ≡ true → is_pid pid ≡ true
pids_are_pids bytes st pid is there =
    let lives : List Members = tables_at (codes "process") is.document in
    let found = one_passes (IsProcessOf st) (has_pid pid) lives (is_some (process_at st pid)) is.says.processes (is.says.pids pid) there in
    let read = and_then_from pid_read (integer_at (codes "pid") found.0) found.1.pid found.1.named in
    ap is_pid (pid_is pid found.1.pid found.0 found.1.named found.2) ∙ passed is_pid (number_or 0 (Some read.0)) found.1.pid read.2

-- ---- one cgroup of two states, as a table says it

-- files of root's, where both stand or neither does
same_roots : (one two : Option Entry) → ((entry : Entry) → one ≡ Some entry → entry ≡ root_file)
    → ((entry : Entry) → two ≡ Some entry → entry ≡ root_file) → is_some one ≡ is_some two → one ≡ two
same_roots None None roots also stands = refl
same_roots None (Some two) roots also stands = cc
same_roots (Some one) None roots also stands = cc
same_roots (Some one) (Some two) roots also stands = ap Some (roots one refl ∙ sym (also two refl))

module _ (format : Format) (st other : State) (row : Members) (is : IsRowOf format st row) (also : IsRowOf format other row) where
  same_enabled : is.cgroup.enabled ≡ also.cgroup.enabled
  same_enabled = same_some is.cgroup.enabled also.cgroup.enabled (sym is.enabled ∙ also.enabled)

  same_entry : (name : EntryName) → is_beyond name ≡ false → (one two : Entry) → entry_in is.cgroup name ≡ Some one
      → entry_in also.cgroup name ≡ Some two → one ≡ two
  same_entry name within one two here there =
      same_some one two (sym (is.entries name one within here) ∙ also.entries name two within there)

  same_rest : is.cgroup.freeze ≡ also.cgroup.freeze → SameRest also.cgroup is.cgroup
  same_rest freeze = record {
    dir = same_entry Dir refl is.cgroup.dir also.cgroup.dir refl refl;
    procs = same_entry Procs refl is.cgroup.procs also.cgroup.procs refl refl;
    subtree_control = same_entry SubtreeControl refl is.cgroup.subtree_control also.cgroup.subtree_control refl refl;
    freeze = freeze;
    enabled = same_enabled;
  }

  module _ (stand : (file : LimitFile) → is_some (file_of is.cgroup file) ≡ is_some (file_of also.cgroup file))
      (stand_too : (controller : Controller) → is_some (other_in is.cgroup controller) ≡ is_some (other_in also.cgroup controller))
      (freezes : is_some is.cgroup.freeze ≡ is_some also.cgroup.freeze) where
    same_file : (file : LimitFile) (one two : Option LimitEntry) → file_of is.cgroup file ≡ one → file_of also.cgroup file ≡ two
        → is_some one ≡ is_some two → one ≡ two
    same_file file None None here there stands = refl
    same_file file None (Some two) here there stands = cc
    same_file file (Some one) None here there stands = cc
    same_file file (Some one) (Some two) here there stands =
        let entry_of : Option LimitEntry → Option Entry = option_map (λ (f : LimitEntry). f.entry) in
        let entry : one.entry ≡ two.entry = same_entry (File file) refl one.entry two.entry (ap entry_of here) (ap entry_of there) in
        let value : one.value ≡ two.value = same_some one.value two.value (sym (is.values file one here) ∙ also.values file two there) in
        λ i. Some (record { entry = entry i; value = value i })

    one_cgroup : is.cgroup ≡ also.cgroup
    one_cgroup =
        same_cgroup also.cgroup is.cgroup
        (same_rest (same_roots is.cgroup.freeze also.cgroup.freeze is.others.freeze also.others.freeze freezes))
        (λ file. same_file file (file_of is.cgroup file) (file_of also.cgroup file) refl refl (stand file))
        (λ controller. same_roots (other_in is.cgroup controller) (other_in also.cgroup controller) (is.others.others controller)
        (also.others.others controller) (stand_too controller))

one_process : (st other : State) (row : Members) (is : IsProcessOf st row) (also : IsProcessOf other row) → is.process ≡ also.process
one_process st other row is also =
    let uid : is.process.uid ≡ also.process.uid = same_some is.process.uid also.process.uid (sym is.owner ∙ also.owner) in
    let place : is.process.place ≡ also.process.place = same_some is.process.place also.process.place (sym is.place ∙ also.place) in
    λ i. record { uid = uid i; place = place i }

-- ---- two states of a document

abbrev pub enabled_in : Option Cgroup → ControllerSet
enabled_in found = elim found [ None ↦ no_controllers | Some row ↦ row.enabled ]

module _ (format : Format) (st other : State) (tables : List Members)
    (here : AllByRecursion (IsRowOf format st) tables) (there : AllByRecursion (IsRowOf format other) tables)
    (paths : (path : Names) → count_by (has_path path) tables ≡ cond (has_row st path) 1 0)
    (paths_also : (path : Names) → count_by (has_path path) tables ≡ cond (has_row other path) 1 0) where
  abbrev IsSaid : Members → Type 0
  IsSaid row = IsRowOf format st row × IsRowOf format other row

  all_said : AllByRecursion IsSaid tables
  all_said = all-both (IsRowOf format st) (IsRowOf format other) IsSaid (λ row is also. (is, also)) tables here there

  has_same : (path : Names) → has_row st path ≡ has_row other path
  has_same path = same_test (has_row st path) (has_row other path) (sym (paths path) ∙ paths_also path)

  -- what holds of two cgroups that a table says, and where there is none, holds at each path
  at_each : (path : Names) (P : Option Cgroup → Option Cgroup → Type 0) → P None None
      → ((row : Members) (is : IsRowOf format st row) (also : IsRowOf format other row)
      → path ≡ is.path → path ≡ also.path → P (Some is.cgroup) (Some also.cgroup))
      → P (row_at st path) (row_at other path)
  at_each path P none some =
      elim (has_row st path) as (λ b. has_row st path ≡ b → P (row_at st path) (row_at other path)) [
        | true ↦ λ has.
            let found = one_passes IsSaid (has_path path) tables (has_row st path) all_said (paths path) has in
            let is : IsRowOf format st found.0 = found.1.0 in
            let also : IsRowOf format other found.0 = found.1.1 in
            let named : path ≡ is.path = path_is path is.path found.0 is.named found.2 in
            let named_also : path ≡ also.path = path_is path also.path found.0 also.named found.2 in
            subst (λ o. P o (row_at other path)) (sym (ap (row_at st) named ∙ is.there))
            (subst (P (Some is.cgroup)) (sym (ap (row_at other) named_also ∙ also.there)) (some found.0 is also named named_also))
        | false ↦ λ has.
            subst (λ o. P o (row_at other path)) (sym (none_value (row_at st path) has))
            (subst (P None) (sym (none_value (row_at other path) (sym (has_same path) ∙ has))) none)
      ] refl

  same_enabled_at : (path : Names) → enabled_at st path ≡ enabled_at other path
  same_enabled_at path =
      at_each path (λ one two. enabled_in one ≡ enabled_in two) refl (λ row is also _ _. same_enabled format st other row is also)

  none_told : (state : State) → IsWellFormed state → (path : Names) → has_row state path ≡ false → map.get state.told path ≡ None
  none_told state formed path none =
      none_value (map.get state.told path) (false_from_ne_true (is_some (map.get state.told path)) (λ some.
      let files = some_value (map.get state.told path) some in
      true≢false (sym (formed.told path files.0 files.1).0 ∙ none)))

  module _ (formed : IsWellFormed st) (formed_also : IsWellFormed other) where
    same_told_at : (path : Names) → map.get st.told path ≡ map.get other.told path
    same_told_at path =
        elim (has_row st path) as (λ b. has_row st path ≡ b → map.get st.told path ≡ map.get other.told path) [
          | true ↦ λ has.
              let found = one_passes IsSaid (has_path path) tables (has_row st path) all_said (paths path) has in
              let is : IsRowOf format st found.0 = found.1.0 in
              let also : IsRowOf format other found.0 = found.1.1 in
              ap (map.get st.told) (path_is path is.path found.0 is.named found.2) ∙ is.told ∙ sym also.told
              ∙ sym (ap (map.get other.told) (path_is path also.path found.0 also.named found.2))
          | false ↦ λ has. none_told st formed path has ∙ sym (none_told other formed_also path (sym (has_same path) ∙ has))
        ] refl

    same_row_at : (path : Names) → row_at st path ≡ row_at other path
    same_row_at path = at_each path (λ one two. one ≡ two) refl (λ row is also named named_also.
        ap Some (one_cgroup format st other row is also (λ file.
        (formed.rows is.path is.cgroup is.there).files file
        ∙ ap (λ path. stands_under (enabled_above st path) file) (sym named)
        ∙ ap (λ set. stands_under (cond (is_root path) no_controllers set) file) (same_enabled_at (parent path))
        ∙ ap (λ path. stands_under (enabled_above other path) file) named_also
        ∙ sym ((formed_also.rows also.path also.cgroup also.there).files file))
        (λ controller.
        (formed.rows is.path is.cgroup is.there).others controller
        ∙ ap (λ path. enables (enabled_above st path) controller) (sym named)
        ∙ ap (λ set. enables (cond (is_root path) no_controllers set) controller) (same_enabled_at (parent path))
        ∙ ap (λ path. enables (enabled_above other path) controller) named_also
        ∙ sym ((formed_also.rows also.path also.cgroup also.there).others controller))
        (formed.freeze is.path is.cgroup is.there ∙ ap (λ path. not (is_root path)) (sym named ∙ named_also)
        ∙ sym (formed_also.freeze also.path also.cgroup also.there))))

module _ (st other : State) (lives : List Members)
    (here : AllByRecursion (IsProcessOf st) lives) (there : AllByRecursion (IsProcessOf other) lives)
    (pids : (pid : ℕ) → count_by (has_pid pid) lives ≡ cond (is_some (process_at st pid)) 1 0)
    (pids_also : (pid : ℕ) → count_by (has_pid pid) lives ≡ cond (is_some (process_at other pid)) 1 0) where
  abbrev IsLive : Members → Type 0
  IsLive row = IsProcessOf st row × IsProcessOf other row

  all_live : AllByRecursion IsLive lives
  all_live = all-both (IsProcessOf st) (IsProcessOf other) IsLive (λ row is also. (is, also)) lives here there

  lives_same : (pid : ℕ) → is_some (process_at st pid) ≡ is_some (process_at other pid)
  lives_same pid = same_test (is_some (process_at st pid)) (is_some (process_at other pid)) (sym (pids pid) ∙ pids_also pid)

  same_process_at : (pid : ℕ) → process_at st pid ≡ process_at other pid
  same_process_at pid =
      elim (is_some (process_at st pid)) as (λ b. is_some (process_at st pid) ≡ b → process_at st pid ≡ process_at other pid) [
        | true ↦ λ has.
            let found = one_passes IsLive (has_pid pid) lives (is_some (process_at st pid)) all_live (pids pid) has in
            let is : IsProcessOf st found.0 = found.1.0 in
            let also : IsProcessOf other found.0 = found.1.1 in
            ap (process_at st) (pid_is pid is.pid found.0 is.named found.2) ∙ is.there ∙ ap Some (one_process st other found.0 is also)
            ∙ sym (ap (process_at other) (pid_is pid also.pid found.0 also.named found.2) ∙ also.there)
        | false ↦ λ has.
            none_value (process_at st pid) has ∙ sym (none_value (process_at other pid) (sym (lives_same pid) ∙ has))
      ] refl

one_of_document : (document : Members) (st other : State) → IsDocumentOf st document → IsDocumentOf other document → st ≡ other
one_of_document document st other is also =
    let tables : List Members = tables_at (codes "cgroup") document in
    let lives : List Members = tables_at (codes "process") document in
    let one_format : also.format ≡ is.format = same_some also.format is.format (sym also.form.format ∙ is.form.format) in
    let cgroups_also : AllByRecursion (IsRowOf is.format other) tables =
    subst (λ format. AllByRecursion (IsRowOf format other) tables) one_format also.cgroups in
    let rows : st.rows ≡ other.rows =
    same_map path_cmp_total path_cmp-IsAntisymmetric _ _
    (same_row_at is.format st other tables is.cgroups cgroups_also is.paths also.paths is.formed also.formed) in
    let processes : (pid : ℕ) → process_at st pid ≡ process_at other pid =
    same_process_at st other lives is.processes also.processes is.pids also.pids in
    let live : st.live ≡ other.live = same_map nat_cmp_total nat_cmp-IsAntisymmetric _ _ processes in
    let used : st.used ≡ other.used =
    same_set nat_cmp_total nat_cmp-IsAntisymmetric _ _ (λ pid. is.used pid ∙ ap is_some (processes pid) ∙ sym (also.used pid)) in
    let controllers : st.controllers ≡ other.controllers =
    same_some st.controllers other.controllers (sym is.controllers
    ∙ sym (ap (λ format. known_said format (codes "controllers") document) one_format) ∙ also.controllers) in
    let told : st.told ≡ other.told =
    same_map path_cmp_total path_cmp-IsAntisymmetric _ _
    (same_told_at is.format st other tables is.cgroups cgroups_also is.paths also.paths is.formed also.formed) in
    λ i. record { rows = rows i; told = told i; live = live i; used = used i; controllers = controllers i }

pub one_state : (bytes : List ℕ) (st other : State) → IsTextOf st bytes → IsTextOf other bytes → st ≡ other
one_state bytes st other is also =
    let same : also.document ≡ is.document = same_some also.document is.document (sym also.parsed ∙ is.parsed) in
    one_of_document is.document st other is.says (subst (IsDocumentOf other) same also.says)
