-- What a set, and a change of the mode, of a limit file beyond `LimitFile` tell of it, where it stands.
use Rattle.std.proofs.Common.{◌≡◌, ℕ, refl, sym, ap, ◌∙◌, subst, ◌≤◌, Option, Some, None, option_map, unwrap_or}
use Rattle.std.specs.FinMap as finite
use Rattle.cg_cgroup.specs.Paths.{Names}
use Rattle.cg_cgroup.specs.Cgroups.{with_mode_of}
use Rattle.cg_cgroup.specs.Told.{telling, nothing_told, file_untold, with_mode_told, with_value_told}
use Rattle.cg_cgroup.specs.declared.user.Entry.{Entry}
use Rattle.cg_cgroup.specs.declared.cgroup.Cgroup.{Cgroup}
use Rattle.cg_cgroup.specs.declared.files.EntryName.TheVariants.{Other}
use Rattle.cg_cgroup.specs.declared.other_file.OtherFile.{OtherFile}
use Rattle.cg_cgroup.specs.declared.told.FileText.{FileText}
use Rattle.cg_cgroup.specs.declared.told.ToldFile.{ToldFile}
use Rattle.cg_cgroup.proofs.Options.{mapped_from, same_some}
use Rattle.cg_cgroup.proofs.PathOrder.{path_cmp_total, path_cmp-IsAntisymmetric}
use Rattle.cg_model.specs.States.{State, row_at, told_at, untold_at, file_told, told_text, entry_at, telling_of, telling_at, told_as, with_text, with_mode}
use Rattle.cg_model.specs.WellFormed.{IsWellFormed}
use Rattle.cg_model.proofs.MapFolds.{insert_again}
use Rattle.cg_model.proofs.FormedLaws.{formed-with_text, formed-with_mode}

module _ (st : State) (at : Names) (file : OtherFile) where
  -- the value of a file that stands is what is told
  text_stands : (told : ToldFile) → file_told st at file ≡ Some told → told_text st at file ≡ told.value
  text_stands told is =
      elim (told_at st at file) as (λ known.
      elim known [ None ↦ option_map file_untold (untold_at st at file) | Some told ↦ Some told ] ≡ Some told
      → elim known as (λ _. Option FileText) [ None ↦ None | Some told ↦ told.value ] ≡ told.value) [
        | None ↦ λ is. ap (λ (told : ToldFile). told.value) (mapped_from file_untold (untold_at st at file) told is).2
        | Some known ↦ λ is. ap (λ (told : ToldFile). told.value) (same_some known told is)
      ] is

  told_stands : (told : ToldFile) → file_told st at file ≡ Some told → (f : ToldFile → ToldFile)
      → telling_at st at file f ≡ told_as st at file (f told)
  told_stands told is f =
      ap (λ found. elim found [
        | None ↦ st.told
        | Some told ↦ finite.insert st.told at (telling file (Some (f told)) (unwrap_or (finite.get st.told at) nothing_told))
      ]) is

  -- a row that is left as it is
  row_kept : (found : Option Cgroup) → row_at st at ≡ found
      → elim found [ None ↦ st.rows | Some row ↦ finite.insert st.rows at row ] ≡ st.rows
  row_kept None is = refl
  row_kept (Some row) is = insert_again path_cmp_total path_cmp-IsAntisymmetric st.rows at row is

  module _ (entry : Entry) (stands : Some entry ≡ entry_at st at (Other file)) where
    pub text_told : (value : FileText) → with_text st at file value ≡ telling_of st at file (record { entry = entry; value = Some value })
    text_told value =
        let told = mapped_from (λ (told : ToldFile). told.entry) (file_told st at file) entry (sym stands) in
        λ i. record st {
          told = (told_stands told.0 told.1 (with_value_told value)
              ∙ ap (λ entry. told_as st at file (record { entry = entry; value = Some value })) told.2) i;
        }

    pub mode_told : (mode : ℕ) → with_mode st at (Other file) mode
        ≡ telling_of st at file (record { entry = with_mode_of mode entry; value = told_text st at file })
    mode_told mode =
        let told = mapped_from (λ (told : ToldFile). told.entry) (file_told st at file) entry (sym stands) in
        λ i. record st {
          rows = row_kept (row_at st at) refl i;
          told = (told_stands told.0 told.1 (with_mode_told mode)
              ∙ (ap (λ entry. told_as st at file (record { entry = with_mode_of mode entry; value = told.0.value })) told.2
              ∙ ap (λ value. told_as st at file (record { entry = with_mode_of mode entry; value = value }))
              (sym (text_stands told.0 told.1)))) i;
        }

    pub text_formed : (value : FileText) → IsWellFormed st
        → IsWellFormed (telling_of st at file (record { entry = entry; value = Some value }))
    text_formed value whole = subst IsWellFormed (text_told value) (formed-with_text st at file value whole)

    pub mode_formed : (mode : ℕ) → mode ≤ 511 → IsWellFormed st
        → IsWellFormed (telling_of st at file (record { entry = with_mode_of mode entry; value = told_text st at file }))
    mode_formed mode small whole = subst IsWellFormed (mode_told mode) (formed-with_mode st at (Other file) mode small whole)
