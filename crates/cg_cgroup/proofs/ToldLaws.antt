-- What is told of a cgroup's other files after each change.
use Rattle.std.proofs.Common.{◌≡◌, ℕ, ◌+◌, ◌<◌, ◌≤◌, true, false, cond, refl, sym, ap, ◌∙◌, arith, eqb-true, List, [], ◌∷◌, ◌++◌, length, map, take, set, get_or}
use Rattle.std.specs.Prelude.{Option, Some, None}
use Rattle.std.specs.List.{range_with_len}
use Rattle.std.proofs.lemmas.List.{get_or-map, get_or_default, get_or-set_same, get_or-set_other, length-set, map_more, take_all, take_more, take_more_set}
use Rattle.std.proofs.lemmas.List.FromFn.{get_or-range_with_len}
use mathlib.Core.HLevel.{is_prop→PathP}
use native.Mathlib.Nat.{ℕ_set}
use Rattle.cg_cgroup.specs.OtherKinds.{all_others, other_kind, brought_by}
use Rattle.cg_cgroup.specs.Files.{same_other, stands_by}
use Rattle.cg_cgroup.specs.Told.{told_in, told_by, telling, told_under}
use Rattle.cg_cgroup.specs.declared.controllers.ControllerSet.{ControllerSet}
use Rattle.cg_cgroup.specs.declared.other_file.OtherFile.{OtherFile}
use Rattle.cg_cgroup.specs.declared.other_file.OtherFile.TheVariants.{CpuMax}
use Rattle.cg_cgroup.specs.declared.told.ToldFile.{ToldFile}
use Rattle.cg_cgroup.specs.declared.told.ToldFiles.{ToldFiles}

pub same_told : (old new : ToldFiles) → new.entries ≡ old.entries → new ≡ old
same_told old new same =
    λ i. record {
      entries = same i;
      whole = is_prop→PathP (λ j. length (same j) ≡ length all_others) (λ j. ℕ_set _ _) new.whole old.whole i;
    }

-- what stands at the place of a file in a list made of all
pub told_at_number : (held : OtherFile → Option ToldFile) (file : OtherFile)
    → get_or (map held all_others) (other_kind file).number None ≡ held file
told_at_number held CpuMax = refl
told_at_number held file = refl

pub told_in-by : (held : OtherFile → Option ToldFile) (file : OtherFile) → told_in (told_by held) file ≡ held file
told_in-by held file = told_at_number held file

within_all : (file : OtherFile) → (other_kind file).number < length all_others
within_all CpuMax = omega arith
within_all file = omega arith

pub told_in-telling : (told : ToldFile) (files : ToldFiles) (file other : OtherFile)
    → told_in (telling file (Some told) files) other ≡ cond (same_other file other) (Some told) (told_in files other)
told_in-telling told files file other =
    elim (same_other file other) as
    (λ b. same_other file other ≡ b → told_in (telling file (Some told) files) other ≡ cond b (Some told) (told_in files other)) [
      | true ↦ λ e.
          let same : (other_kind file).number ≡ (other_kind other).number = eqb-true (other_kind file).number (other_kind other).number e in
          ap (λ n. get_or (telling file (Some told) files).entries n None) (sym same)
          ∙ get_or-set_same files.entries (other_kind file).number (Some told) None (omega (arith, within_all file, files.whole))
      | false ↦ λ e.
          get_or-set_other files.entries (other_kind file).number (other_kind other).number (Some told) None (grind (arith, e))
    ] refl

pub told_in-under : (enabled : ControllerSet) (files : ToldFiles) (file : OtherFile)
    → told_in (told_under enabled files) file ≡ cond (stands_by enabled (brought_by file)) (told_in files file) None
told_in-under enabled files file =
    told_in-by (λ file. cond (stands_by enabled (brought_by file)) (told_in files file) None) file

-- ---- each file in turn

-- the files stand in the order of their numbers
in_order : map (λ file. (other_kind file).number) all_others ≡ range_with_len 0 (length all_others)
in_order = refl

pub number_at : (i : ℕ) (d : OtherFile) → i < length all_others → (other_kind (get_or all_others i d)).number ≡ i
number_at i d within =
    sym (get_or-map (λ file. (other_kind file).number) all_others i d 0 within)
    ∙ ap (λ numbers. get_or numbers i 0) in_order ∙ get_or-range_with_len 0 (length all_others) i 0 within ∙ omega arith

abbrev pub kept_of : ControllerSet → ToldFiles → OtherFile → Option ToldFile
kept_of enabled files file = cond (stands_by enabled (brought_by file)) (told_in files file) None

-- what is told of the first files is kept where it is brought, and of the others as it was
pub record AreKept (enabled : ControllerSet) (files : ToldFiles) (i : ℕ) (entries : List (Option ToldFile)) : Type 0 where
  pub long : length entries ≡ length all_others
  pub front : take i entries ≡ map (kept_of enabled files) (take i all_others)
  pub rest : (k : ℕ) → i ≤ k → get_or entries k None ≡ get_or files.entries k None

module _ (enabled : ControllerSet) (files : ToldFiles) where
  pub kept_none : (entries : List (Option ToldFile)) → entries ≡ files.entries → AreKept enabled files 0 entries
  kept_none entries same = record {
    long = ap length same ∙ files.whole;
    front = refl;
    rest = λ k from. ap (λ xs. get_or xs k None) same;
  }

  pub kept_more : (i : ℕ) (entries : List (Option ToldFile)) (d : OtherFile) (e new : Option ToldFile) → AreKept enabled files i entries
      → i < length all_others → new ≡ cond (stands_by enabled (brought_by (get_or all_others i d))) (get_or entries i e) None
      → AreKept enabled files (i + 1) (set entries i new)
  kept_more i entries d e new so_far within is = record {
    long = length-set entries i new ∙ so_far.long;
    front =
        take_more_set entries i new there
        ∙ (λ j. so_far.front j ++ one j ∷ []) ∙ sym (map_more (kept_of enabled files) all_others i d within);
    rest = λ k from. get_or-set_other entries i k new None (omega (arith, from)) ∙ so_far.rest k (omega (arith, from));
  }
    where
      there : i < length entries
      there = omega (arith, within, so_far.long)

      one : new ≡ kept_of enabled files (get_or all_others i d)
      one = is ∙ ap (λ told. cond (stands_by enabled (brought_by (get_or all_others i d))) told None)
          (get_or_default entries i e None there ∙ so_far.rest i (omega arith)
          ∙ ap (λ n. get_or files.entries n None) (sym (number_at i d within)))

  pub kept_all : (i : ℕ) (left : ToldFiles) → AreKept enabled files i left.entries → length all_others ≤ i
      → left ≡ told_under enabled files
  kept_all i left so_far past =
      same_told (told_under enabled files) left
      (sym (take_all i left.entries (omega (arith, past, so_far.long))) ∙ so_far.front
      ∙ ap (map (kept_of enabled files)) (take_all i all_others past))

-- the first entries are copied
pub record AreCopied (files : ToldFiles) (i : ℕ) (entries : List (Option ToldFile)) : Type 0 where
  pub long : length entries ≡ length all_others
  pub front : take i entries ≡ take i files.entries

module _ (files : ToldFiles) where
  pub copied_more : (i : ℕ) (entries : List (Option ToldFile)) (e new : Option ToldFile) → AreCopied files i entries
      → i < length all_others → new ≡ get_or files.entries i e → AreCopied files (i + 1) (set entries i new)
  copied_more i entries e new so_far within is = record {
    long = length-set entries i new ∙ so_far.long;
    front =
        take_more_set entries i new (omega (arith, within, so_far.long))
        ∙ (λ j. so_far.front j ++ is j ∷ []) ∙ sym (take_more files.entries i e (omega (arith, within, files.whole)));
  }

  pub copied_all : (i : ℕ) (copy : ToldFiles) → AreCopied files i copy.entries → length all_others ≤ i → copy ≡ files
  copied_all i copy so_far past =
      same_told files copy
      (sym (take_all i copy.entries (omega (arith, past, so_far.long))) ∙ so_far.front
      ∙ take_all i files.entries (omega (arith, past, files.whole)))
