-- The files that controllers bring, taken from elsewhere one by one.
use Rattle.std.proofs.Common.{◌≡◌, ℕ, ◌+◌, ◌<◌, ◌≤◌, true, false, cond, nat_eq, length, refl, sym, ap, ◌∙◌, arith, eqb-true, Option, None, get_or, map}
use Rattle.std.proofs.lemmas.List.{get_or-set_same, get_or-set_other}
use Rattle.cg_cgroup.specs.Files.{all_controllers, controller_kind, brought_files, place_of}
use Rattle.cg_cgroup.specs.Cgroups.{held_at, holding, file_of}
use Rattle.cg_cgroup.specs.declared.controllers.ControllerSet.{ControllerSet}
use Rattle.cg_cgroup.specs.declared.files.LimitFile.{LimitFile}
use Rattle.cg_cgroup.specs.declared.files.LimitFile.TheVariants.{MaxDescendants, MaxDepth}
use Rattle.cg_cgroup.specs.declared.brought.BroughtFiles.{BroughtFiles}
use Rattle.cg_cgroup.specs.declared.cgroup.LimitEntry.{LimitEntry}
use Rattle.cg_cgroup.specs.declared.cgroup.Cgroup.{Cgroup}
use Rattle.cg_cgroup.specs.declared.others.OtherFiles.{OtherFiles}
use Rattle.cg_cgroup.proofs.CgroupLaws.{same_cgroup}
use Rattle.cg_places.specs.Nodes.{other_from, with_files_from}
use Rattle.cg_places.specs.Taken.{Takes, brings}

-- those before `n` are taken, and the others are as they were
pub record TakenBelow (changed : ControllerSet) (from old new : BroughtFiles) (n : ℕ) : Type 0 where
  pub each : (place : ℕ) → place < n → held_at new place ≡ cond (brings changed place) (held_at from place) (held_at old place)
  pub rest : (place : ℕ) → n ≤ place → held_at new place ≡ held_at old place

held_holding : (files : BroughtFiles) (n place : ℕ) (held : Option LimitEntry) → n < length brought_files
    → held_at (holding n held files) place ≡ cond (nat_eq n place) held (held_at files place)
held_holding files n place held within =
    elim (nat_eq n place) as (λ b. nat_eq n place ≡ b → held_at (holding n held files) place ≡ cond b held (held_at files place)) [
      | true ↦ λ e.
          ap (held_at (holding n held files)) (sym (eqb-true n place e))
          ∙ get_or-set_same files.entries n held None (omega (arith, within, files.whole))
      | false ↦ λ e. get_or-set_other files.entries n place held None (grind (arith, e))
    ] refl

module _ (changed : ControllerSet) (from old now : BroughtFiles) (n : ℕ) (below : TakenBelow changed from old now n) where
  pub taken_one : (new : BroughtFiles) → n < length brought_files → brings changed n ≡ true → new ≡ holding n (held_at from n) now
      → TakenBelow changed from old new (n + 1)
  taken_one new within on is =
      let got : (place : ℕ) → held_at new place ≡ cond (nat_eq n place) (held_at from n) (held_at now place) =
      λ place. ap (λ files. held_at files place) is ∙ held_holding now n place (held_at from n) within in
      record {
        each = λ place before.
            elim (nat_eq n place) as
            (λ b. nat_eq n place ≡ b → held_at new place ≡ cond (brings changed place) (held_at from place) (held_at old place)) [
              | true ↦ λ e.
                  let same : n ≡ place = eqb-true n place e in
                  got place ∙ ap (λ b. cond b (held_at from n) (held_at now place)) e ∙ ap (held_at from) same
                  ∙ ap (λ b. cond b (held_at from place) (held_at old place)) (sym on ∙ ap (brings changed) same)
              | false ↦ λ e.
                  got place ∙ ap (λ b. cond b (held_at from n) (held_at now place)) e ∙ below.each place (grind (arith, e, before))
            ] refl;
        rest = λ place behind.
            elim (nat_eq n place) as (λ b. nat_eq n place ≡ b → held_at new place ≡ held_at old place) [
              | true ↦ λ e. let same : n ≡ place = eqb-true n place e in absurd (omega (arith, behind, same))
              | false ↦ λ e.
                  got place ∙ ap (λ b. cond b (held_at from n) (held_at now place)) e ∙ below.rest place (omega (arith, behind))
            ] refl;
      }

  pub taken_none : brings changed n ≡ false → TakenBelow changed from old now (n + 1)
  taken_none off =
      record {
        each = λ place before.
            elim (nat_eq n place) as
            (λ b. nat_eq n place ≡ b → held_at now place ≡ cond (brings changed place) (held_at from place) (held_at old place)) [
              | true ↦ λ e.
                  let same : n ≡ place = eqb-true n place e in
                  below.rest place (omega (arith, same))
                  ∙ ap (λ b. cond b (held_at from place) (held_at old place)) (sym off ∙ ap (brings changed) same)
              | false ↦ λ e. below.each place (grind (arith, e, before))
            ] refl;
        rest = λ place behind. below.rest place (omega (arith, behind));
      }

module _ (changed : ControllerSet) (fresh old : Cgroup) (files : BroughtFiles) (takes : Takes changed fresh.files old.files files)
    (others : OtherFiles) (taken : others.entries ≡ map (other_from changed fresh old) all_controllers) where
  taken_file : (file : LimitFile)
      → file_of (record old { files = files; others = others }) file ≡ file_of (with_files_from changed fresh old) file
  unfolding with_files_from
  taken_file MaxDescendants = refl
  taken_file MaxDepth = refl
  taken_file file = takes.each (place_of file) (omega arith)

  pub all_taken : record old { files = files; others = others } ≡ with_files_from changed fresh old
  unfolding with_files_from
  all_taken =
      same_cgroup (with_files_from changed fresh old) (record old { files = files; others = others })
      (record { dir = refl; procs = refl; subtree_control = refl; freeze = refl; enabled = refl }) taken_file
      (λ controller. ap (λ entries. get_or entries (controller_kind controller).number None) taken)
