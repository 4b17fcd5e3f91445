-- What is told of limit files beyond `LimitFile` after each change.
use Rattle.std.proofs.Common.{◌≡◌, Bool, true, false, cond, ◌&&◌, refl, sym, ap, ◌∙◌, Option, Some, None, option_map, option_and_then, unwrap_or}
use Rattle.std.specs.FinMap as finite
use Rattle.cg_cgroup.specs.Paths.{Names, same_path, is_child}
use Rattle.cg_cgroup.specs.Identity.{Identity}
use Rattle.cg_cgroup.specs.Files.{same_other, stands_by, brought_by}
use Rattle.cg_cgroup.specs.Told.{told_in, telling, nothing_told, told_under, file_untold}
use Rattle.cg_model.specs.States.{State, told_at, untold_at, file_told, telling_at, without_row, with_enabled}
use Rattle.cg_cgroup.specs.declared.controllers.ControllerSet.{ControllerSet}
use Rattle.cg_cgroup.specs.declared.user.Entry.{Entry}
use Rattle.cg_cgroup.specs.declared.other_file.OtherFile.{OtherFile}
use Rattle.cg_cgroup.specs.declared.told.ToldFile.{ToldFile}
use Rattle.cg_cgroup.specs.declared.told.ToldFiles.{ToldFiles}
use Rattle.cg_cgroup.proofs.CgroupLaws.{same_other-true}
use Rattle.cg_cgroup.proofs.ToldLaws.{told_in-by, told_in-telling, told_in-under}
use Rattle.cg_cgroup.proofs.PathOrder.{path_cmp_total, path_cmp-IsAntisymmetric, same_path-is}
use Rattle.cg_model.proofs.MapLaws.{get-changed}
use Rattle.cg_model.proofs.StateLaws.{path_tie}

-- what is told, and else what is there untold
abbrev pub or_untold : Option ToldFile → Option Entry → Option ToldFile
or_untold told untold = elim told [ None ↦ option_map file_untold untold | Some told ↦ Some told ]

untold_alone : (told : Option ToldFile) (untold : Option Entry) → or_untold told untold ≡ None → told ≡ None
untold_alone None untold h = refl
untold_alone (Some told) untold h = cc

changed_stays : (f : ToldFile → ToldFile) (told : Option ToldFile) (untold : Option Entry)
    → or_untold (option_map f (or_untold told untold)) untold ≡ option_map f (or_untold told untold)
changed_stays f None None = refl
changed_stays f None (Some entry) = refl
changed_stays f (Some told) untold = refl

-- one that is told, or untold, as before
pub file_told-same : (st new : State) (q : Names) (file : OtherFile) → told_at new q file ≡ told_at st q file
    → untold_at new q file ≡ untold_at st q file → file_told new q file ≡ file_told st q file
file_told-same st new q file told untold =
    ap (λ it. or_untold it (untold_at new q file)) told ∙ ap (or_untold (told_at st q file)) untold

-- ---- one changed

pub told_in-base : (files : Option ToldFiles) (file : OtherFile)
    → told_in (unwrap_or files nothing_told) file ≡ option_and_then (λ files. told_in files file) files
told_in-base None file = told_in-by (λ file. None) file
told_in-base (Some files) file = refl

module _ (st : State) (p : Names) (file : OtherFile) (f : ToldFile → ToldFile) (q : Names) (other : OtherFile) where
  -- the file that is changed is none that is there
  changed_none : file_told st p file ≡ None → told_at st q other
      ≡ cond (same_path p q && same_other file other) (option_map f (file_told st q other)) (told_at st q other)
  changed_none none =
      elim (same_path p q) as (λ b. same_path p q ≡ b → told_at st q other
      ≡ cond (b && same_other file other) (option_map f (file_told st q other)) (told_at st q other)) [
        | false ↦ λ e. refl
        | true ↦ λ e.
            elim (same_other file other) as (λ b. same_other file other ≡ b → told_at st q other
            ≡ cond b (option_map f (file_told st q other)) (told_at st q other)) [
              | false ↦ λ e'. refl
              | true ↦ λ e'.
                  let here : file_told st q other ≡ None =
                  sym (ap (λ x. file_told st x other) (same_path-is p q e))
                  ∙ sym (ap (λ x. file_told st p x) (same_other-true file other e'))
                  ∙ none in
                  untold_alone (told_at st q other) (untold_at st q other) here ∙ sym (ap (option_map f) here)
            ] refl
      ] refl

  changed_one : (told : ToldFile) → file_told st p file ≡ Some told
      → option_and_then (λ files. told_in files other)
      (finite.get (finite.insert st.told p (telling file (Some (f told)) (unwrap_or (finite.get st.told p) nothing_told))) q)
      ≡ cond (same_path p q && same_other file other) (option_map f (file_told st q other)) (told_at st q other)
  changed_one told is =
      ap (option_and_then (λ files. told_in files other))
      (finite.get-insert path_cmp_total st.told p (telling file (Some (f told)) (unwrap_or (finite.get st.told p) nothing_told)) q
      ∙ ap (λ b. cond b (Some (telling file (Some (f told)) (unwrap_or (finite.get st.told p) nothing_told))) (finite.get st.told q))
      (path_tie p q))
      ∙ elim (same_path p q) as (λ b. same_path p q ≡ b
      → option_and_then (λ files. told_in files other)
      (cond b (Some (telling file (Some (f told)) (unwrap_or (finite.get st.told p) nothing_told))) (finite.get st.told q))
      ≡ cond (b && same_other file other) (option_map f (file_told st q other)) (told_at st q other)) [
        | false ↦ λ e. refl
        | true ↦ λ e.
            told_in-telling (f told) (unwrap_or (finite.get st.told p) nothing_told) file other
            ∙ ap (cond (same_other file other) (Some (f told)))
            (told_in-base (finite.get st.told p) other ∙ ap (λ x. told_at st x other) (same_path-is p q e))
            ∙ elim (same_other file other) as (λ b. same_other file other ≡ b
            → cond b (Some (f told)) (told_at st q other) ≡ cond b (option_map f (file_told st q other)) (told_at st q other)) [
              | false ↦ λ e'. refl
              | true ↦ λ e'.
                  ap (option_map f)
                  (sym is ∙ ap (λ x. file_told st x file) (same_path-is p q e) ∙ ap (file_told st q) (same_other-true file other e'))
            ] refl
      ] refl

  pub told_at-telling : (new : State) → new.told ≡ telling_at st p file f
      → told_at new q other ≡ cond (same_path p q && same_other file other) (option_map f (file_told st q other)) (told_at st q other)
  told_at-telling new is =
      ap (λ told. option_and_then (λ files. told_in files other) (finite.get told q)) is
      ∙ elim (file_told st p file) as (λ r. file_told st p file ≡ r
      → option_and_then (λ files. told_in files other) (finite.get (elim r [
        | None ↦ st.told
        | Some told ↦ finite.insert st.told p (telling file (Some (f told)) (unwrap_or (finite.get st.told p) nothing_told))
      ]) q)
      ≡ cond (same_path p q && same_other file other) (option_map f (file_told st q other)) (told_at st q other)) [
        | None ↦ changed_none
        | Some told ↦ changed_one told
      ] refl

  pub file_told-telling : (new : State) → new.told ≡ telling_at st p file f → untold_at new q other ≡ untold_at st q other
      → file_told new q other ≡ cond (same_path p q && same_other file other) (option_map f (file_told st q other)) (file_told st q other)
  file_told-telling new is untold =
      ap (λ it. or_untold it (untold_at new q other)) (told_at-telling new is)
      ∙ ap (or_untold (cond (same_path p q && same_other file other) (option_map f (file_told st q other)) (told_at st q other))) untold
      ∙ elim (same_path p q && same_other file other) as (λ b.
      or_untold (cond b (option_map f (file_told st q other)) (told_at st q other)) (untold_at st q other)
      ≡ cond b (option_map f (file_told st q other)) (file_told st q other)) [
        | true ↦ changed_stays f (told_at st q other) (untold_at st q other)
        | false ↦ refl
      ]

-- ---- a cgroup removed, and controllers enabled

read_told : (b : Bool) (r : Option ToldFiles) (file : OtherFile)
    → option_and_then (λ files. told_in files file) (cond b None r) ≡ cond b None (option_and_then (λ files. told_in files file) r)
read_told true r file = refl
read_told false r file = refl

pub get-told-without_row : (st : State) (p q : Names)
    → finite.get (without_row st p).told q ≡ cond (same_path p q) None (finite.get st.told q)
get-told-without_row st p q =
    finite.get-remove path_cmp_total st.told p q ∙ ap (λ b. cond b None (finite.get st.told q)) (path_tie p q)

pub told_at-without_row : (st : State) (p q : Names) (file : OtherFile)
    → told_at (without_row st p) q file ≡ cond (same_path p q) None (told_at st q file)
told_at-without_row st p q file =
    ap (option_and_then (λ files. told_in files file)) (get-told-without_row st p q)
    ∙ read_told (same_path p q) (finite.get st.told q) file

pub get-told-with_enabled : (st : State) (p : Names) (enabled : ControllerSet) (user : Identity) (q : Names)
    → finite.get (with_enabled st p enabled user).told q
    ≡ option_map (λ files. cond (is_child p q) (told_under enabled files) files) (finite.get st.told q)
get-told-with_enabled st p enabled user q =
    get-changed path_cmp-IsAntisymmetric (λ q files. cond (is_child p q) (told_under enabled files) files) st.told q

none_told : (b c : Bool) → None ≡ cond {A = Option ToldFile} b (cond {A = Option ToldFile} c None None) None
none_told true true = refl
none_told true false = refl
none_told false c = refl

pub told_at-with_enabled : (st : State) (p : Names) (enabled : ControllerSet) (user : Identity) (q : Names) (file : OtherFile)
    → told_at (with_enabled st p enabled user) q file
    ≡ cond (is_child p q) (cond (stands_by enabled (brought_by file)) (told_at st q file) None) (told_at st q file)
told_at-with_enabled st p enabled user q file =
    ap (option_and_then (λ files. told_in files file)) (get-told-with_enabled st p enabled user q)
    ∙ each (finite.get st.told q)
  where
    each : (r : Option ToldFiles)
        → option_and_then (λ files. told_in files file) (option_map (λ files. cond (is_child p q) (told_under enabled files) files) r)
        ≡ cond (is_child p q) (cond (stands_by enabled (brought_by file)) (option_and_then (λ files. told_in files file) r) None)
        (option_and_then (λ files. told_in files file) r)
    each None = none_told (is_child p q) (stands_by enabled (brought_by file))
    each (Some files) = elim (is_child p q) as (λ b. told_in (cond b (told_under enabled files) files) file
        ≡ cond b (cond (stands_by enabled (brought_by file)) (told_in files file) None) (told_in files file)) [
          | true ↦ told_in-under enabled files file
          | false ↦ refl
        ]
