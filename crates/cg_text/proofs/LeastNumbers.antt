-- What one more row adds to the least numbers of rows that fail.
use Rattle.std.proofs.Common.{◌≡◌, ℕ, ◌≤◌, Bool, true, false, cond, ◌⊎◌, inl, inr, ⊎_elim, List, [], ◌∷◌, ◌++◌, Option, Some, None, refl, sym, ap, subst, ◌∙◌, append_assoc, arith}
use Rattle.std.specs.Prelude.{◌&&◌, nat_lt}
use Rattle.std.proofs.lemmas.Bool.Decides.{nat_tests}
use Rattle.cg_cgroup.specs.Paths.{Names, is_root}
use Rattle.cg_cgroup.specs.Files.{no_controllers}
use Rattle.cg_cgroup.specs.declared.controllers.ControllerSet.{ControllerSet}
use Rattle.cg_text.specs.Walk.{has_met, over_in, is_orphan, is_past, is_not_within, has_no_file, IsLeast, noted, least_behind, HasTested}
use Rattle.cg_text.specs.declared.tree.row.Row.{Row}
use Rattle.cg_text.specs.declared.tree.walk.Least.{Least}
use Rattle.cg_format.proofs.Cuts.{not_empty, cut_last}

-- ---- the lesser of two numbers

noted_is : (least : Option ℕ) (number : ℕ) (fails : Bool) (found : ℕ) → noted least number fails ≡ Some found
    → (least ≡ Some found) ⊎ ((fails ≡ true) × (number ≡ found))
noted_is least number false found is = inl is
noted_is None number true found is = inr (refl, cc)
noted_is (Some old) number true found is =
    elim (nat_lt old number) as (λ b. Some (cond b old number) ≡ Some found → (Some old ≡ Some found) ⊎ ((true ≡ true) ×
    (number ≡ found))) [
      | true ↦ λ same. inl same
      | false ↦ λ same. inr (refl, cc)
    ] is

noted_old : (least : Option ℕ) (number : ℕ) (fails : Bool) (old other : ℕ) → least ≡ Some old → old ≤ other
    → (found : ℕ) × (noted least number fails ≡ Some found) × (found ≤ other)
noted_old least number fails old other is low =
    (cond (fails && nat_lt number old) number old, grind (arith, nat_tests), grind (arith, nat_tests))

noted_own : (least : Option ℕ) (number : ℕ) (fails : Bool) (other : ℕ) → fails ≡ true → number ≤ other
    → (found : ℕ) × (noted least number fails ≡ Some found) × (found ≤ other)
noted_own None number fails other is low = (number, ap (noted None number) is, low)
noted_own (Some old) number fails other is low =
    (cond (nat_lt old number) old number, ap (noted (Some old) number) is, grind (arith, nat_tests))

-- ---- one more row

pub least_none : (fails : List Row → Row → Bool) → IsLeast fails [] None
least_none fails = record {
  found = λ number is. cc;
  below = λ front row back cut failed. absurd (not_empty front row back cut);
}

module _ (fails : List Row → Row → Bool) (met : List Row) (row : Row) (least : Option ℕ) (is : IsLeast fails met least) where
  found_push : (number : ℕ) → noted least row.number (fails met row) ≡ Some number
      → (front : List Row) × (other : Row) × (back : List Row) × (front ++ other ∷ back ≡ met ++ row ∷ []) × (fails front other ≡ true)
      × (other.number ≡ number)
  found_push number found =
      ⊎_elim
      (λ earlier.
      let cut = is.found number earlier in
      let whole = sym (append_assoc cut.0 (cut.1 ∷ cut.2) (row ∷ [])) ∙ ap (λ some. some ++ row ∷ []) cut.3 in
      (cut.0, cut.1, cut.2 ++ row ∷ [], whole, cut.4, cut.5))
      (λ own. (met, row, [], refl, own.0, own.1))
      (noted_is least row.number (fails met row) number found)

  least_push : IsLeast fails (met ++ row ∷ []) (noted least row.number (fails met row))
  least_push = record {
    found = found_push;
    below = λ front other back cut failed.
        ⊎_elim
        (λ earlier.
        let old = is.below front other earlier.0 earlier.1 failed in
        noted_old least row.number (fails met row) old.0 other.number old.1 old.2)
        (λ last.
        let same = ap (λ (one : Row). one.number) last.1 in
        noted_own least row.number (fails met row) other.number (sym (λ i. fails (last.0 i) (last.1 i)) ∙ failed) (omega arith))
        (cut_last front other back met row cut);
  }

available_is : (controllers : ControllerSet) (met : List Row) (path : Names)
    → over_in controllers met path ≡ cond (is_root path) (Some controllers) (over_in no_controllers met path)
available_is controllers met [] = refl
available_is controllers met (name ∷ path) = refl

pub tested_push : (controllers : ControllerSet) (met : List Row) (row : Row) (least : Least) (over : Option ControllerSet)
    → HasTested controllers met least → over ≡ over_in no_controllers met row.path
    → HasTested controllers (met ++ row ∷ []) (least_behind controllers (has_met met row.path) over row least)
tested_push controllers met row least over tested is =
    let all : List Row = met ++ row ∷ [] in
    subst (λ over. HasTested controllers all (least_behind controllers (has_met met row.path) over row least)) (sym is) (record {
      twice = least_push (λ earlier row. has_met earlier row.path) met row least.twice tested.twice;
      orphan = least_push is_orphan met row least.orphan tested.orphan;
      not_within =
          subst (λ available. IsLeast (is_not_within controllers) all
          (noted least.not_within row.number (is_past row.cgroup.enabled available))) (available_is controllers met row.path)
          (least_push (is_not_within controllers) met row least.not_within tested.not_within);
      no_file = least_push has_no_file met row least.no_file tested.no_file;
    })
