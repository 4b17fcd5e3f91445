-- The state of a text, seen as a machine, is one that the text tells of.
use Rattle.std.proofs.Common.{◌≡◌, ℕ, ◌≤◌, Bool, true, false, not, cond, List, [], ◌∷◌, map, codes, Option, Some, None, is_some, option_and_then, unwrap_or, refl, sym, ap, ◌∙◌, true≢false, subst, arith}
use Rattle.std.specs.Prelude.{nat_eq, count_by, find, slice_get}
use Rattle.std.specs.List.{AllByRecursion}
use Rattle.std.specs.Option.{option_map}
use Rattle.std.specs.FinMap as finite
use Rattle.std.proofs.lemmas.Bool.{false_from_ne_true}
use Rattle.toml.specs.Data.{table, Members, no_members}
use Rattle.cg_cgroup.specs.Paths.{Names, same_path, is_root, parent}
use Rattle.cg_cgroup.specs.Files.{controller_of, brought_by, stands_by, enables, no_controllers, is_beyond}
use Rattle.cg_cgroup.specs.Cgroups.{file_of, other_in, untold_in, entry_in, root_file}
use Rattle.cg_cgroup.specs.Told.{told_in, told_by, file_untold}
use Rattle.cg_cgroup.specs.declared.user.Entry.{Entry}
use Rattle.cg_cgroup.specs.declared.files.Limit.{Limit}
use Rattle.cg_cgroup.specs.declared.files.Controller.{Controller}
use Rattle.cg_cgroup.specs.declared.controllers.ControllerSet.{ControllerSet}
use Rattle.cg_cgroup.specs.declared.files.LimitFile.{LimitFile}
use Rattle.cg_cgroup.specs.declared.files.EntryName.{EntryName}
use Rattle.cg_cgroup.specs.declared.files.EntryName.TheVariants.{Dir as DirName, Procs as ProcsName, SubtreeControl, File as FileName, Other}
use Rattle.cg_cgroup.specs.declared.other_file.OtherFile.{OtherFile}
use Rattle.cg_cgroup.specs.declared.told.FileText.{FileText}
use Rattle.cg_cgroup.specs.declared.told.ToldFile.{ToldFile}
use Rattle.cg_cgroup.specs.declared.told.ToldFiles.{ToldFiles}
use Rattle.cg_cgroup.specs.declared.cgroup.Cgroup.{Cgroup}
use Rattle.cg_cgroup.specs.declared.cgroup.LimitEntry.{LimitEntry}
use Rattle.cg_cgroup.specs.declared.process.Process.{Process}
use Rattle.cg_cgroup.proofs.Options.{some_value, none_value, mapped_from, is_some-mapped, same_some}
use Rattle.cg_cgroup.proofs.ControllerLaws.{enables-set_by}
use Rattle.cg_cgroup.proofs.ToldLaws.{told_in-by}
use Rattle.cg_model.specs.States.{State, row_at, process_at, place_at, told_at, untold_at, entry_at}
use Rattle.cg_model.specs.WellFormed.{has_row, enabled_at, enabled_above, IsFormedRow}
use Rattle.cg_model.proofs.Lists.{all-both}
use Rattle.cg_format.specs.Form.{is_table, row_keys}
use Rattle.cg_format.specs.Said.{elements_at, tables_at, owner_said, mode_missing, table_of, text_said, file_said, told_said, tells as tells_further, told_row, is_named, has_path}
use Rattle.cg_format.specs.TextOf.{IsRowOf, IsProcessOf, has_pid, IsDocumentOf, IsTextOf}
use Rattle.cg_format.specs.declared.format.Format.{Format}
use Rattle.cg_format.specs.declared.format.Format.TheVariants.{One, Two, Four}
use Rattle.cg_format.proofs.Cuts.{is_some-find, any_counted}
use Rattle.cg_format.proofs.OneState.{and_then_from, one_passes, path_is, pid_is}
use Rattle.cg_format.proofs.SaidRanges.{said_of_known}
use Rattle.machine.specs.Machines.{File, Dir, Procs, Control, Limit as LimitAt, Value, Unknown, Inode}
use Rattle.machine_view.proofs.PathsOnce.{keys_once}
use Rattle.machine_view.specs.Views.{limit_names, value_as, value_there, inode_named, view}
use Rattle.machine_text.specs.Telling.{Row, row_named, enables_by_name, is_enabled_above, stands, inode_said, inode_told, file_said_at, Live, TextTells}
use Rattle.machine_text.proofs.Entries.{RowFits, row_fits, said_of, text_value, entry_read, limit_at, text_at_file, plain_dir, plain_procs, plain_control, not_named}
use Rattle.machine_text.proofs.Rows.{row_said, rows_read, live_said, lives_read, all_fit, counts_as, finds_as, same_row, same_live, enables_as}

-- ---- what a document's state has at a path

-- what the table of a further file says, or where there is none is said of it
record Further (format : Format) (entry : Entry) (found : Option Members) (value : Value) : Type 0 where
  text : Option FileText
  owned : owner_said format 420 (unwrap_or found no_members) ≡ Some entry
  valued : text_said (unwrap_or found no_members) ≡ Some text
  there : value ≡ text_value text

nobody_said : (format : Format) → owner_said format 420 no_members ≡ Some root_file
nobody_said One = refl
nobody_said Two = refl
nobody_said Four = refl

parts_said : (entry : Option Entry) (text : Option (Option FileText)) (told : ToldFile)
    → option_and_then (λ (e : Entry). option_and_then (λ (v : Option FileText). Some (record { entry = e; value = v })) text) entry
    ≡ Some told
    → (entry ≡ Some told.entry) × (text ≡ Some told.value)
parts_said None text told is = absurd (true≢false (sym (ap is_some is)))
parts_said (Some e) None told is = absurd (true≢false (sym (ap is_some is)))
parts_said (Some e) (Some v) told is =
    let same = same_some _ told is in (ap (λ (t : ToldFile). Some t.entry) same, ap (λ (t : ToldFile). Some t.value) same)

one_or_none : (b : Bool) (count : ℕ) → count ≡ cond b 1 0 → count ≤ 1
one_or_none true count is = omega (arith, is)
one_or_none false count is = omega (arith, is)

module _ (st : State) (document : Members) (is : IsDocumentOf st document) where
  abbrev tables : List Members
  tables = tables_at (codes "cgroup") document

  abbrev rows : List Row
  rows = map row_said tables

  abbrev IsRead : Members → Type 0
  IsRead said = IsRowOf is.format st said × (is_table (row_keys is.format) (table said) ≡ true)

  all_read : AllByRecursion IsRead tables
  all_read =
      all-both (IsRowOf is.format st) (λ said. is_table (row_keys is.format) (table said) ≡ true) IsRead (λ said row fits. (row, fits))
      tables is.cgroups (all_fit (row_keys is.format) (elements_at (codes "cgroup") document) is.form.cgroups)

  row_found : (path : Names) → row_named rows path ≡ option_map row_said (find (has_path path) tables)
  row_found path =
      finds_as row_said (has_path path) (λ row. same_path path row.path) (IsRowOf is.format st)
      (same_row path is.format st) tables is.cgroups

  -- the table of a cgroup
  record At (path : Names) : Type 0 where
    said : Members
    row : IsRowOf is.format st said
    fits : RowFits is.format said
    named : path ≡ row.path
    found : row_named rows path ≡ Some (row_said said)

  at_row : (path : Names) → has_row st path ≡ true → At path
  at_row path there =
      let met = one_passes IsRead (has_path path) tables (has_row st path) all_read (is.paths path) there in
      let row = met.1.0 in record {
        said = met.0;
        row = row;
        fits = row_fits is.format met.0 met.1.1;
        named = path_is path row.path met.0 row.named met.2;
        found = row_found path ∙ ap (option_map row_said) met.3;
      }

  no_row : (path : Names) → has_row st path ≡ false → row_named rows path ≡ None
  no_row path none =
      row_found path ∙ ap (option_map row_said) (none_value (find (has_path path) tables)
      (is_some-find (has_path path) tables ∙ any_counted (has_path path) tables (has_row st path) (is.paths path) ∙ none))

  module _ (path : Names) (at : At path) where
    abbrev held : Cgroup
    held = at.row.cgroup

    there : row_at st path ≡ Some held
    there = ap (row_at st) at.named ∙ at.row.there

    told : finite.get st.told path ≡ told_row is.format at.said
    told = ap (finite.get st.told) at.named ∙ at.row.told

    silent_at : (file : OtherFile) → tells_further is.format at.said ≡ false → told_said is.format at.said file ≡ None
    silent_at file silent = ap (option_and_then (file_said is.format)) (not_named is.format at.said at.fits file silent)

    -- what is told of a further file is what the table of it says
    told_as_said : (file : OtherFile) → told_at st path file ≡ told_said is.format at.said file
    told_as_said file =
        ap (option_and_then (λ (files : ToldFiles). told_in files file)) told
        ∙ elim (tells_further is.format at.said) as (λ b. tells_further is.format at.said ≡ b
        → option_and_then (λ (files : ToldFiles). told_in files file) (cond b (Some (told_by (told_said is.format at.said))) None)
        ≡ told_said is.format at.said file) [
          | true ↦ λ _. told_in-by (told_said is.format at.said) file
          | false ↦ λ silent. sym (silent_at file silent)
        ] refl

    -- an entry of the eight and of what no controller controller_for
    said_as : (name : EntryName) (entry : Entry) → is_beyond name ≡ false → entry_in held name ≡ Some entry
        → owner_said is.format (mode_missing name) (said_of name at.said) ≡ Some entry
    said_as name entry within has = at.row.entries name entry within has

    row_entry : (name : EntryName) → option_and_then (λ (row : Cgroup). entry_in row name) (row_at st path) ≡ entry_in held name
    row_entry name = ap (option_and_then (λ (row : Cgroup). entry_in row name)) there

    limit_value : (file : LimitFile) (entry : LimitEntry) → file_of held file ≡ Some entry
        → value_there st path (FileName file) ≡ value_as entry.value
    limit_value file entry has =
        ap (λ (found : Option Limit). elim found as (λ (_ : Option Limit). Value) [ None ↦ Unknown | Some limit ↦ value_as limit ])
        (ap (option_and_then (λ (row : Cgroup). option_map (λ (f : LimitEntry). f.value) (file_of row file))) there
        ∙ ap (option_map (λ (f : LimitEntry). f.value)) has)

    text_there : (file : OtherFile) (found : Option ToldFile) → told_said is.format at.said file ≡ found
        → value_there st path (Other file) ≡ text_value (option_and_then (λ (told : ToldFile). told.value) found)
    text_there file found said =
        ap (λ (found : Option ToldFile). text_value (option_and_then (λ (told : ToldFile). told.value) found)) (told_as_said file ∙ said)

    -- a further file of which the row says nothing
    untold_entry : (file : OtherFile) (entry : Entry) → untold_in held file ≡ Some entry → entry ≡ root_file
    untold_entry file entry has =
        elim (brought_by file) as (λ (by : Option Controller).
        elim by as (λ (_ : Option Controller). Option Entry) [ None ↦ held.freeze | Some controller ↦ other_in held controller ]
        ≡ Some entry
        → entry ≡ root_file) [
          | None ↦ λ freeze. at.row.others.freeze entry freeze
          | Some controller ↦ λ brought. at.row.others.others controller entry brought
        ] has

    -- what stands of a further file that is told of, or not
    entry_of : (file : OtherFile) (found : Option ToldFile) → told_said is.format at.said file ≡ found
        → entry_at st path (Other file) ≡ option_map (λ (told : ToldFile). told.entry)
        (elim found as (λ (_ : Option ToldFile). Option ToldFile)
        [ None ↦ option_map file_untold (untold_in held file) | Some told ↦ Some told ])
    entry_of file found said =
        ap (λ (told : Option ToldFile). option_map (λ (told : ToldFile). told.entry)
        (elim told as (λ (_ : Option ToldFile). Option ToldFile)
        [ None ↦ option_map file_untold (untold_at st path file) | Some told ↦ Some told ])) (told_as_said file ∙ said)
        ∙ ap (λ (row : Option Cgroup). option_map (λ (told : ToldFile). told.entry)
        (elim found as (λ (_ : Option ToldFile). Option ToldFile)
        [ None ↦ option_map file_untold (option_and_then (λ (row : Cgroup). untold_in row file) row) | Some told ↦ Some told ])) there

    further_said : (file : OtherFile) (entry : Entry) (found : Option Members) → table_of (Other file) at.said ≡ found
        → entry_at st path (Other file) ≡ Some entry → Further is.format entry found (value_there st path (Other file))
    further_said file entry None none has =
        let said = ap (option_and_then (file_said is.format)) none in
        let met = mapped_from (λ (told : ToldFile). told.entry) (option_map file_untold (untold_in held file)) entry
        (sym (entry_of file None said) ∙ has) in
        let own = mapped_from file_untold (untold_in held file) met.0 met.1 in
        let same : own.0 ≡ entry = ap (λ (told : ToldFile). told.entry) own.2 ∙ met.2 in
        let root : entry ≡ root_file = untold_entry file entry (own.1 ∙ ap Some same) in
        record { text = None; owned = nobody_said is.format ∙ ap Some (sym root); valued = refl; there = text_there file None said }
    further_said file entry (Some inside) some has =
        let named : is_named (Other file) at.said ≡ true = ap is_some some in
        let told = some_value (told_said is.format at.said file) (at.row.told_values file named) in
        let said : file_said is.format inside ≡ Some told.0 = sym (ap (option_and_then (file_said is.format)) some) ∙ told.1 in
        let parts = parts_said (owner_said is.format 420 inside) (text_said inside) told.0 said in
        let own : told.0.entry ≡ entry = same_some told.0.entry entry (sym (entry_of file (Some told.0) told.1) ∙ has) in
        record {
          text = told.0.value;
          owned = parts.0 ∙ ap Some own;
          valued = parts.1;
          there = text_there file (Some told.0) told.1;
        }

    inode_as : (name : EntryName) (entry : Entry) → entry_at st path name ≡ Some entry
        → inode_said name at.said ≡ Some (record { entry = entry; value = value_there st path name })
    inode_as DirName entry has =
        entry_read is.format at.said at.fits DirName entry Unknown (said_as DirName entry refl (sym (row_entry DirName) ∙ has))
        (plain_dir is.format at.said at.fits)
    inode_as ProcsName entry has =
        entry_read is.format at.said at.fits ProcsName entry Unknown (said_as ProcsName entry refl (sym (row_entry ProcsName) ∙ has))
        (plain_procs is.format at.said at.fits)
    inode_as SubtreeControl entry has =
        entry_read is.format at.said at.fits SubtreeControl entry Unknown
        (said_as SubtreeControl entry refl (sym (row_entry SubtreeControl) ∙ has)) (plain_control is.format at.said at.fits)
    inode_as (FileName file) entry has =
        let own : entry_in held (FileName file) ≡ Some entry = sym (row_entry (FileName file)) ∙ has in
        let met = mapped_from (λ (f : LimitEntry). f.entry) (file_of held file) entry own in
        entry_read is.format at.said at.fits (FileName file) entry (value_there st path (FileName file))
        (said_as (FileName file) entry refl own)
        (limit_at is.format at.said at.fits file met.0.value (at.row.values file met.0 met.1)
        ∙ ap Some (sym (limit_value file met.0 met.1)))
    inode_as (Other file) entry has =
        let said = further_said file entry (table_of (Other file) at.said) refl has in
        entry_read is.format at.said at.fits (Other file) entry (value_there st path (Other file)) said.owned
        (text_at_file is.format at.said at.fits file said.text said.valued ∙ ap Some (sym said.there))

  -- ---- which entries stand

  module _ (path : Names) (there : has_row st path ≡ true) where
    brought_above : (controller : Controller) → enables (enabled_above st path) controller ≡ is_enabled_above rows path controller
    brought_above controller = by_root path refl
      where
        by_root : (p : Names) → p ≡ path
            → enables (cond (is_root p) no_controllers (enabled_at st (parent p))) controller ≡ is_enabled_above rows p controller
        by_root [] same = enables-set_by (λ controller. false) controller
        by_root (name ∷ names) same =
            let up : Names = parent (name ∷ names) in
            let at = at_row up (is.formed.parents (name ∷ names) (ap (has_row st) same ∙ there)) in
            let known = said_of_known is.format (codes "enabled") at.said at.row.cgroup.enabled at.row.enabled in
            ap (λ (row : Option Cgroup). enables (elim row [ None ↦ no_controllers | Some row ↦ row.enabled ]) controller)
            (ap (row_at st) at.named ∙ at.row.there)
            ∙ sym (enables_as at.said at.row.cgroup.enabled controller known.0)
            ∙ sym (ap (λ (found : Option Row). elim found as (λ (_ : Option Row). Bool)
            [ None ↦ false | Some above ↦ enables_by_name above controller ]) at.found)

    abbrev found_at : At path
    found_at = at_row path there

    abbrev above : ControllerSet
    above = enabled_above st path

    -- what a controller controller_for, or the core, stands as it is said
    by_brought : (by : Option Controller)
        → stands_by above by ≡ elim by
        as (λ (_ : Option Controller). Bool) [ None ↦ true | Some controller ↦ is_enabled_above rows path controller ]
    by_brought None = refl
    by_brought (Some controller) = brought_above controller

    formed : IsFormedRow above found_at.row.cgroup
    formed =
        subst (λ (p : Names). IsFormedRow (enabled_above st p) found_at.row.cgroup) (sym found_at.named)
        (is.formed.rows found_at.row.path found_at.row.cgroup found_at.row.there)

    freezes : is_some found_at.row.cgroup.freeze ≡ not (is_root path)
    freezes =
        is.formed.freeze found_at.row.path found_at.row.cgroup found_at.row.there ∙ ap (λ (p : Names). not (is_root p)) (sym found_at.named)

    abbrev further_stands : Option Controller → Bool
    further_stands by = elim by as (λ (_ : Option Controller). Bool)
        [ None ↦ not (is_root path) | Some controller ↦ is_enabled_above rows path controller ]

    by_untold : (by : Option Controller)
        → is_some (elim by as (λ (_ : Option Controller). Option Entry)
        [ None ↦ found_at.row.cgroup.freeze | Some controller ↦ other_in found_at.row.cgroup controller ]) ≡ further_stands by
    by_untold None = freezes
    by_untold (Some controller) = formed.others controller ∙ brought_above controller

    by_told : (by : Option Controller) → stands_by above by ≡ true → is_root path ≡ false → further_stands by ≡ true
    by_told None brought below = ap not below
    by_told (Some controller) brought below = sym (brought_above controller) ∙ brought

    further_stands_as : (file : OtherFile) (found : Option ToldFile) → told_at st path file ≡ found
        → further_stands (brought_by file) ≡ is_some (entry_at st path (Other file))
    further_stands_as file None none =
        sym (ap is_some (entry_of path found_at file None (sym (told_as_said path found_at file) ∙ none))
        ∙ is_some-mapped (λ (told : ToldFile). told.entry) (option_map file_untold (untold_in found_at.row.cgroup file))
        ∙ is_some-mapped file_untold (untold_in found_at.row.cgroup file) ∙ by_untold (brought_by file))
    further_stands_as file (Some told) some =
        let met = and_then_from (λ (files : ToldFiles). told_in files file) (finite.get st.told path) told some in
        let below = is.formed.told_below_root path met.0 met.1 in
        let stand = (is.formed.told path met.0 met.1).1.stand file told met.2 in
        by_told (brought_by file) stand below
        ∙ sym (ap is_some (entry_of path found_at file (Some told) (sym (told_as_said path found_at file) ∙ some)))

    stands_as : (name : EntryName) → stands rows path name ≡ is_some (entry_at st path name)
    stands_as DirName = sym (ap is_some (row_entry path found_at DirName))
    stands_as ProcsName = sym (ap is_some (row_entry path found_at ProcsName))
    stands_as SubtreeControl = sym (ap is_some (row_entry path found_at SubtreeControl))
    stands_as (FileName file) =
        sym (ap is_some (row_entry path found_at (FileName file))
        ∙ is_some-mapped (λ (f : LimitEntry). f.entry) (file_of found_at.row.cgroup file)
        ∙ formed.files file ∙ by_brought (controller_of file))
    stands_as (Other file) = further_stands_as file (told_at st path file) refl

    -- each entry that stands is told, and no other
    entry_told : (name : EntryName) → inode_told rows path name ≡ Some (inode_named st path name)
    entry_told name =
        ap (λ (row : Option Row). elim row as (λ (_ : Option Row). Option (Option Inode)) [
          | None ↦ Some None
          | Some row ↦ cond (stands rows path name) (option_map Some (inode_said name row.said))
              (Some None)
        ]) found_at.found
        ∙ ap (λ b. cond b (option_map Some (inode_said name found_at.said)) (Some None)) (stands_as name)
        ∙ by_entry (entry_at st path name) refl
      where
        by_entry : (entry : Option Entry) → entry_at st path name ≡ entry
            → cond (is_some entry) (option_map Some (inode_said name found_at.said)) (Some None)
            ≡ Some (option_map (λ (entry : Entry). record { entry = entry; value = value_there st path name }) entry)
        by_entry None none = refl
        by_entry (Some entry) some = ap (option_map Some) (inode_as path found_at name entry some)

  -- an entry of a path where no cgroup is
  nothing_at : (path : Names) → has_row st path ≡ false → (name : EntryName) → entry_at st path name ≡ None
  nothing_at path none name = by_name name
    where
      row : row_at st path ≡ None
      row = none_value (row_at st path) none

      told_none : finite.get st.told path ≡ None
      told_none =
          none_value (finite.get st.told path) (false_from_ne_true (is_some (finite.get st.told path)) (λ some.
          let files = some_value (finite.get st.told path) some in
          true≢false (sym (is.formed.told path files.0 files.1).0 ∙ none)))

      by_name : (name : EntryName) → entry_at st path name ≡ None
      by_name DirName = ap (option_and_then (λ (row : Cgroup). entry_in row DirName)) row
      by_name ProcsName = ap (option_and_then (λ (row : Cgroup). entry_in row ProcsName)) row
      by_name SubtreeControl = ap (option_and_then (λ (row : Cgroup). entry_in row SubtreeControl)) row
      by_name (FileName file) = ap (option_and_then (λ (row : Cgroup). entry_in row (FileName file))) row
      by_name (Other file) =
          ap (λ (files : Option ToldFiles). option_map (λ (told : ToldFile). told.entry)
          (elim (option_and_then (λ (files : ToldFiles). told_in files file) files) as (λ (_ : Option ToldFile). Option ToldFile)
          [ None ↦ option_map file_untold (untold_at st path file) | Some told ↦ Some told ])) told_none
          ∙ ap (λ (row : Option Cgroup). option_map (λ (told : ToldFile). told.entry)
          (option_map file_untold (option_and_then (λ (row : Cgroup). untold_in row file) row))) row

  inode_as_told : (path : Names) (name : EntryName) → inode_told rows path name ≡ Some (inode_named st path name)
  inode_as_told path name =
      elim (has_row st path) as (λ b. has_row st path ≡ b → inode_told rows path name ≡ Some (inode_named st path name)) [
        | true ↦ λ there. entry_told path there name
        | false ↦ λ none.
            ap (λ (row : Option Row). elim row as (λ (_ : Option Row). Option (Option Inode))
            [ None ↦ Some None | Some row ↦ cond (stands rows path name) (option_map Some (inode_said name row.said)) (Some None) ])
            (no_row path none)
            ∙ ap (λ (entry : Option Entry). Some (option_map (λ
            (entry : Entry). record { entry = entry; value = value_there st path name }) entry))
            (sym (nothing_at path none name))
      ] refl

  file_as_told : (path : Names) (file : File) → file_said_at rows path file ≡ Some ((view st).inode path file)
  file_as_told path Dir = inode_as_told path DirName
  file_as_told path Procs = inode_as_told path ProcsName
  file_as_told path Control = inode_as_told path SubtreeControl
  file_as_told path (LimitAt place) = by_name (slice_get limit_names place)
    where
      by_name : (name : Option EntryName)
          → elim name as (λ (_ : Option EntryName). Option (Option Inode)) [ None ↦ Some None | Some name ↦ inode_told rows path name ]
          ≡ Some (elim name as (λ (_ : Option EntryName). Option Inode) [ None ↦ None | Some name ↦ inode_named st path name ])
      by_name None = refl
      by_name (Some name) = inode_as_told path name

  -- ---- processes

  abbrev lives_said : List Members
  lives_said = tables_at (codes "process") document

  abbrev lives : List Live
  lives = map live_said lives_said

  live_found : (pid : ℕ) → find (λ (live : Live). nat_eq pid live.pid) lives ≡ option_map live_said (find (has_pid pid) lives_said)
  live_found pid =
      finds_as live_said (has_pid pid) (λ (live : Live). nat_eq pid live.pid) (IsProcessOf st) (same_live pid st) lives_said is.processes

  place_as_told : (pid : ℕ) → place_at st pid ≡ option_map (λ (live : Live). live.place) (find (λ (live : Live). nat_eq pid live.pid) lives)
  place_as_told pid =
      elim (is_some (process_at st pid)) as (λ b. is_some (process_at st pid) ≡ b
      → place_at st pid ≡ option_map (λ (live : Live). live.place) (find (λ (live : Live). nat_eq pid live.pid) lives)) [
        | true ↦ λ alive.
            let met =
            one_passes (IsProcessOf st) (has_pid pid) lives_said (is_some (process_at st pid)) is.processes (is.pids pid) alive in
            let of : IsProcessOf st met.0 = met.1 in
            let named : pid ≡ of.pid = pid_is pid of.pid met.0 of.named met.2 in
            ap (option_map (λ (process : Process). process.place)) (ap (process_at st) named ∙ of.there)
            ∙ sym (ap (option_map (λ (live : Live). live.place)) (live_found pid ∙ ap (option_map live_said) met.3)
            ∙ ap (λ (place : Option Names). Some (unwrap_or place [])) of.place)
        | false ↦ λ dead.
            ap (option_map (λ (process : Process). process.place)) (none_value (process_at st pid) dead)
            ∙ sym (ap (option_map (λ (live : Live). live.place)) (live_found pid ∙ ap (option_map live_said)
            (none_value (find (has_pid pid) lives_said) (is_some-find (has_pid pid) lives_said
            ∙ any_counted (has_pid pid) lives_said (is_some (process_at st pid)) (is.pids pid) ∙ dead))))
      ] refl

  -- ---- counts

  path_count : (path : Names) → count_by (λ (row : Row). same_path path row.path) rows ≡ cond (has_row st path) 1 0
  path_count path =
      counts_as row_said (has_path path) (λ (row : Row). same_path path row.path) (IsRowOf is.format st) (same_row path is.format st) tables
      is.cgroups ∙ is.paths path

  pid_count : (pid : ℕ) → count_by (λ (live : Live). nat_eq pid live.pid) lives ≡ cond (is_some (process_at st pid)) 1 0
  pid_count pid =
      counts_as live_said (has_pid pid) (λ (live : Live). nat_eq pid live.pid) (IsProcessOf st) (same_live pid st) lives_said is.processes
      ∙ is.pids pid

pub tells : (text : List ℕ) (st : State) → IsTextOf st text → TextTells text (view st)
tells text st is = record {
  document = is.document;
  parsed = is.parsed;
  rows = rows st is.document is.says;
  cgroups = rows_read is.says.format st is.document is.says.form is.says.cgroups;
  named_once = λ path. one_or_none (has_row st path) _ (path_count st is.document is.says path);
  paths = λ path. keys_once st path ∙ sym (path_count st is.document is.says path);
  files = file_as_told st is.document is.says;
  lives = lives st is.document is.says;
  processes = lives_read is.says.format st is.document is.says.form is.says.processes;
  live_once = λ pid. one_or_none (is_some (process_at st pid)) _ (pid_count st is.document is.says pid);
  places = place_as_told st is.document is.says;
}
