-- What is above and below the cgroups of a well-formed tree.
use Rattle.std.proofs.Common.{◌≡◌, ℕ, zero, suc, ◌+◌, ◌-◌, ◌≤◌, ◌<◌, true, false, length, take, refl, sym, ap, ◌∙◌, arith, eq-eqb, ltb-true, leb-true, leb-false, nat_le, length-take-le, take_all, take-take}
use Rattle.std.specs.Cmp.{first_so, second_so}
use Rattle.std.specs.Cmp.Derive.{both_true}
use Rattle.cg_cgroup.specs.Paths.{Names, inside, below, parent}
use Rattle.cg_model.specs.States.{State, row_at, has_child}
use Rattle.cg_model.specs.WellFormed.{has_row, IsWellFormed}
use Rattle.cg_cgroup.proofs.Options.{some_value}
use Rattle.cg_cgroup.proofs.PathParents.{inside-take, inside-is}
use Rattle.cg_model.proofs.StateTests.{row-has_child}

parent-take : (path : Names) (n : ℕ) → n < length path → parent (take (suc n) path) ≡ take n path
parent-take path n h =
    let long : suc n ≤ length path = omega arith in
    let shorter : length (take (suc n) path) - 1 ≡ n = omega (arith, length-take-le (suc n) path long) in
    ap (λ k. take k (take (suc n) path)) shorter ∙ take-take n (suc n) path (omega arith)

pub inside-parts : (top path : Names) → inside top path ≡ true → (n : ℕ) → length top ≤ n → inside top (take n path) ≡ true
inside-parts top path h n long =
    let cut = take-take (length top) n path long ∙ inside-is top path h in
    ap (λ t. inside t (take n path)) (sym cut) ∙ inside-take (length top) (take n path)

-- each cgroup above one that is there is there, where each one's parent is
module _ (st : State) (parents : (path : Names) → has_row st path ≡ true → has_row st (parent path) ≡ true) where
  above_there : (path : Names) (k n : ℕ) → n + k ≡ length path → has_row st path ≡ true → has_row st (take n path) ≡ true
  above_there path zero n e there = ap (has_row st) (take_all n path (omega arith)) ∙ there
  above_there path (suc k) n e there = ap (has_row st) (sym (parent-take path n (omega arith)))
      ∙ parents (take (suc n) path) (above_there path k (suc n) (omega arith) there)

  pub take-there-by_parents : (path : Names) (n : ℕ) → has_row st path ≡ true → has_row st (take n path) ≡ true
  take-there-by_parents path n there =
      elim (nat_le n (length path)) as (λ b. nat_le n (length path) ≡ b → has_row st (take n path) ≡ true) [
        | true ↦ λ h. let short = leb-true n (length path) h in above_there path (length path - n) n (omega arith) there
        | false ↦ λ h. let long = leb-false n (length path) h in ap (has_row st) (take_all n path (omega arith)) ∙ there
      ] refl

module _ (st : State) (whole : IsWellFormed st) where
  pub take-there : (path : Names) (n : ℕ) → has_row st path ≡ true → has_row st (take n path) ≡ true
  take-there = take-there-by_parents st whole.parents

  -- what has a cgroup below it has a child
  pub below-has_child : (top path : Names) → below top path ≡ true → has_row st path ≡ true → has_child st top ≡ true
  below-has_child top path h there =
      let within = first_so (inside top path) _ h in
      let longer = ltb-true (length top) (length path) (second_so (inside top path) _ h) in
      let child = take (suc (length top)) path in
      let row = some_value (row_at st child) (take-there path (suc (length top)) there) in
      let level : length child ≡ length top + 1 = omega (arith, length-take-le (suc (length top)) path (omega arith)) in
      row-has_child st top child row.0 row.1
      (both_true (inside-parts top path within (suc (length top)) (omega arith)) (eq-eqb (length child) (length top + 1) level))
