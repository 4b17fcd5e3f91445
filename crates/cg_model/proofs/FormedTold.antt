-- Well-formedness once something is told of a limit file beyond `LimitFile`.
use Rattle.std.proofs.Common.{◌≡◌, ◌≤◌, true, false, cond, refl, sym, ap, ◌∙◌, subst, true≢false, Option, Some, None, is_some, option_map, option_and_then, unwrap_or}
use Rattle.std.specs.FinMap as finite
use Rattle.cg_cgroup.specs.Paths.{Names, same_path, is_root, parent}
use Rattle.cg_cgroup.specs.Files.{stands_by, brought_by, enables, no_controllers, same_other}
use Rattle.cg_cgroup.specs.Cgroups.{other_in, untold_in}
use Rattle.cg_cgroup.specs.Told.{told_in, telling, nothing_told, file_untold}
use Rattle.cg_model.specs.States.{State, row_at, told_at, untold_at, file_told, telling_at}
use Rattle.cg_model.specs.WellFormed.{has_row, enabled_at, enabled_above, IsFormedTold, IsWellFormed}
use Rattle.cg_cgroup.specs.declared.user.Entry.{Entry}
use Rattle.cg_cgroup.specs.declared.files.Controller.{Controller}
use Rattle.cg_cgroup.specs.declared.files.EntryName.TheVariants.{Other}
use Rattle.cg_cgroup.specs.declared.other_file.OtherFile.{OtherFile}
use Rattle.cg_cgroup.specs.declared.told.ToldFile.{ToldFile}
use Rattle.cg_cgroup.specs.declared.told.ToldFiles.{ToldFiles}
use Rattle.cg_cgroup.proofs.Options.{mapped_from, same_some}
use Rattle.cg_cgroup.proofs.CgroupLaws.{same_other-true}
use Rattle.std.proofs.lemmas.Bool.{not-true}
use Rattle.cg_cgroup.proofs.ControllerLaws.{enables-set_by}
use Rattle.cg_cgroup.proofs.ToldLaws.{told_in-telling}
use Rattle.cg_cgroup.proofs.PathOrder.{path_cmp_total, same_path-is}
use Rattle.cg_model.proofs.StateLaws.{path_tie}
use Rattle.cg_model.proofs.StateTold.{told_in-base}

chained_from : {A B : Type 0} (g : A → Option B) (o : Option A) (y : B) → option_and_then g o ≡ Some y
    → (x : A) × (o ≡ Some x) × (g x ≡ Some y)
chained_from g None y is = absurd (true≢false (sym (ap is_some is)))
chained_from g (Some x) y is = (x, refl, is)

-- What holds of a file that stands, whether it is told of or not.
pub record Stands (st : State) (path : Names) (file : OtherFile) (told : ToldFile) : Type 0 where
  pub there : has_row st path ≡ true
  pub below_root : is_root path ≡ false
  pub brought : stands_by (enabled_above st path) (brought_by file) ≡ true
  pub mode : told.entry.mode ≤ 511

module _ (st : State) (whole : IsWellFormed st) (path : Names) where
  told_stands : (file : OtherFile) (told : ToldFile) → told_at st path file ≡ Some told → Stands st path file told
  told_stands file told is =
      let files = chained_from (λ files. told_in files file) (finite.get st.told path) told is in
      let formed = whole.told path files.0 files.1 in
      record {
        there = formed.0;
        below_root = whole.told_below_root path files.0 files.1;
        brought = formed.1.stand file told files.2;
        mode = formed.1.modes file told files.2;
      }

  untold_stands : (file : OtherFile) (entry : Entry) → untold_at st path file ≡ Some entry → Stands st path file (file_untold entry)
  untold_stands file entry is =
      let row = chained_from (λ row. untold_in row file) (row_at st path) entry is in
      let formed = whole.rows path row.0 row.1 in
      record {
        there = ap is_some row.1;
        below_root = elim (brought_by file) as
            (λ by. elim by [ None ↦ row.0.freeze | Some controller ↦ other_in row.0 controller ] ≡ Some entry → is_root path ≡ false) [
              | None ↦ λ is. not-true (is_root path) (sym (whole.freeze path row.0 row.1) ∙ ap is_some is)
              | Some controller ↦ λ is. brought_below_root controller (sym (formed.others controller) ∙ ap is_some is)
            ] row.2;
        brought = elim (brought_by file) as (λ by. brought_by file ≡ by
            → elim by [ None ↦ row.0.freeze | Some controller ↦ other_in row.0 controller ] ≡ Some entry
            → stands_by (enabled_above st path) by ≡ true) [
              | None ↦ λ _ _. refl
              | Some controller ↦ λ _ is. sym (formed.others controller) ∙ ap is_some is
            ] refl row.2;
        mode = formed.modes (Other file) entry row.2;
      }
    where
      -- nothing is enabled above the root
      brought_below_root : (controller : Controller) → enables (enabled_above st path) controller ≡ true → is_root path ≡ false
      brought_below_root controller =
          elim (is_root path) as (λ b. enables (cond b no_controllers (enabled_at st (parent path))) controller ≡ true → b ≡ false) [
            | true ↦ λ on. absurd (true≢false (sym on ∙ enables-set_by (λ other. false) controller))
            | false ↦ λ _. refl
          ]

  pub stands : (file : OtherFile) (told : ToldFile) → file_told st path file ≡ Some told → Stands st path file told
  stands file told is =
      elim (told_at st path file) as (λ known. told_at st path file ≡ known
      → elim known [ None ↦ option_map file_untold (untold_at st path file) | Some told ↦ Some told ] ≡ Some told
      → Stands st path file told) [
        | None ↦ λ _ is.
            let entry = mapped_from file_untold (untold_at st path file) told is in
            subst (Stands st path file) entry.2 (untold_stands file entry.0 entry.1)
        | Some known ↦ λ e is. subst (Stands st path file) (same_some known told is) (told_stands file known e)
      ] refl is

  module _ (file : OtherFile) (f : ToldFile → ToldFile)
      (keeps : (told : ToldFile) → told.entry.mode ≤ 511 → (f told).entry.mode ≤ 511) where
    formed-files : (told : ToldFile) → file_told st path file ≡ Some told
        → IsFormedTold (enabled_above st path) (telling file (Some (f told)) (unwrap_or (finite.get st.told path) nothing_told))
    formed-files told is = record {
      stand = λ other known at. (each other known at).0;
      modes = λ other known at. (each other known at).1;
    }
      where
        each : (other : OtherFile) (known : ToldFile)
            → told_in (telling file (Some (f told)) (unwrap_or (finite.get st.told path) nothing_told)) other ≡ Some known
            → (stands_by (enabled_above st path) (brought_by other) ≡ true) × (known.entry.mode ≤ 511)
        each other known at =
            elim (same_other file other) as (λ b. same_other file other ≡ b
            → cond b (Some (f told)) (told_in (unwrap_or (finite.get st.told path) nothing_told) other) ≡ Some known
            → (stands_by (enabled_above st path) (brought_by other) ≡ true) × (known.entry.mode ≤ 511)) [
              | true ↦ λ same at.
                  let held = stands file told is in (
                    ap (λ file. stands_by (enabled_above st path) (brought_by file)) (sym (same_other-true file other same)) ∙ held.brought,
                    subst (λ (told : ToldFile). told.entry.mode ≤ 511) (same_some (f told) known at) (keeps told held.mode),
                  )
              | false ↦ λ _ at.
                  let held = told_stands other known (sym (told_in-base (finite.get st.told path) other) ∙ at) in (held.brought, held.mode)
            ] refl (sym (told_in-telling (f told) (unwrap_or (finite.get st.told path) nothing_told) file other) ∙ at)

    -- what is told of a path
    abbrev IsToldOf : Names → ToldFiles → Type 0
    IsToldOf q files = (has_row st q ≡ true) × (is_root q ≡ false) × IsFormedTold (enabled_above st q) files

    told_before : (q : Names) (files : ToldFiles) → finite.get st.told q ≡ Some files → IsToldOf q files
    told_before q files is = ((whole.told q files is).0, whole.told_below_root q files is, (whole.told q files is).1)

    telling_told : (q : Names) (files : ToldFiles) → finite.get (telling_at st path file f) q ≡ Some files
        → IsToldOf q files
    telling_told q files is =
        elim (file_told st path file) as (λ r. file_told st path file ≡ r
        → finite.get (elim r [
          | None ↦ st.told
          | Some told ↦ finite.insert st.told path (telling file (Some (f told)) (unwrap_or (finite.get st.told path) nothing_told))
        ]) q ≡ Some files
        → IsToldOf q files) [
          | None ↦ λ _ is. told_before q files is
          | Some told ↦ λ known is.
              elim (same_path path q) as (λ b. same_path path q ≡ b
              → cond b (Some (telling file (Some (f told)) (unwrap_or (finite.get st.told path) nothing_told))) (finite.get st.told q)
              ≡ Some files
              → IsToldOf q files) [
                | true ↦ λ same is.
                    subst (λ q. IsToldOf q files) (same_path-is path q same) (
                      (stands file told known).there,
                      (stands file told known).below_root,
                      subst (IsFormedTold (enabled_above st path)) (same_some _ files is) (formed-files told known),
                    )
                | false ↦ λ _ is. told_before q files is
              ] refl
              (sym (finite.get-insert path_cmp_total st.told path
              (telling file (Some (f told)) (unwrap_or (finite.get st.told path) nothing_told)) q
              ∙ ap
              (λ b. cond b (Some (telling file (Some (f told)) (unwrap_or (finite.get st.told path) nothing_told))) (finite.get st.told q))
              (path_tie path q)) ∙ is)
        ] refl is

    pub formed-telling : IsWellFormed (record st { told = telling_at st path file f })
    formed-telling = record {
      root = whole.root;
      parents = whole.parents;
      top_down = whole.top_down;
      rows = whole.rows;
      freeze = whole.freeze;
      told = λ q files is. let of = telling_told q files is in (of.0, of.2);
      told_below_root = λ q files is. (telling_told q files is).1;
      places = whole.places;
      used = whole.used;
    }
