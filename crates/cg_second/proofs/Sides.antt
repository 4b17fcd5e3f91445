-- Places by the common ancestor that they have with a subtree.
use Rattle.std.proofs.Common.{◌≡◌, true, false, ◌&&◌, cond, [], ◌∷◌, length, refl, sym, ap, ◌∙◌, true≢false, ⊎_elim, arith, take_all, ◌-◌}
use Rattle.std.proofs.lemmas.Bool.{false_from_ne_true, and_parts, cases_lt}
use Rattle.std.specs.Cmp.Lexicographic.{bytes_decides}
use Rattle.cg_cgroup.specs.Paths.{Names, Name, same_name, same_path, parent, inside, common}
use Rattle.cg_cgroup.proofs.PathLaws.{inside_trans, common-inside_first, common-inside_second, common-longest, common-only}
use Rattle.cg_cgroup.proofs.PathOrder.{same_path-is, same_path_refl}
use Rattle.cg_cgroup.proofs.PathParents.{inside-is, inside-take}
use Rattle.cg_model.proofs.TreeLaws.{inside-parts}

same_name-is : (name other : Name) → same_name name other ≡ true → name ≡ other
same_name-is name other = (bytes_decides name other).0

-- of a place inside and one outside the common ancestor is that of the subtree and the one outside
pub common-inside : (subtree from to : Names) → inside subtree from ≡ true → inside subtree to ≡ false
    → common from to ≡ common subtree to
common-inside [] from to within without = absurd (true≢false without)
common-inside (name ∷ subtree) [] to within without = absurd (true≢false (sym within))
common-inside (name ∷ subtree) (other ∷ from) [] within without = refl
common-inside (name ∷ subtree) (other ∷ from) (third ∷ to) within without =
    let parts = and_parts (same_name name other) (inside subtree from) within in
    let is = same_name-is name other parts.0 in
    elim (same_name name third) as (λ b. same_name name third ≡ b → (b && inside subtree to) ≡ false
    → cond (same_name other third) (other ∷ common from to) [] ≡ cond b (name ∷ common subtree to) []) [
      | true ↦ λ tied apart.
          ap (λ b. cond b (other ∷ common from to) []) (ap (λ n. same_name n third) (sym is) ∙ tied)
          ∙ (λ i. sym is i ∷ common-inside subtree from to parts.1 apart i)
      | false ↦ λ tied _. ap (λ b. cond b (other ∷ common from to) []) (ap (λ n. same_name n third) (sym is) ∙ tied)
    ] refl without

-- the parent of a place that is inside and isn't the subtree is inside
pub inside-parent : (subtree path : Names) → inside subtree path ≡ true → same_path path subtree ≡ false
    → inside subtree (parent path) ≡ true
inside-parent subtree path within other =
    ⊎_elim
    (λ longer. inside-parts subtree path within (length path - 1) (omega arith))
    (λ short.
    let whole : path ≡ subtree = sym (take_all (length subtree) path short) ∙ inside-is subtree path within in
    absurd (true≢false (sym (ap (same_path path) (sym whole) ∙ same_path_refl path) ∙ other)))
    (cases_lt (length subtree) (length path))

-- a place that isn't above the subtree has the same common ancestor with it as its parent
pub common-parent : (subtree path : Names) → inside path subtree ≡ false → common subtree path ≡ common subtree (parent path)
common-parent subtree path apart =
    let top = common subtree path in
    let shared = common-inside_first subtree path in
    common-only top subtree (parent path) shared
    (inside-parent top path (common-inside_second subtree path) (false_from_ne_true (same_path path top) (λ tied.
    true≢false (sym shared ∙ ap (λ p. inside p subtree) (sym (same_path-is path top tied)) ∙ apart))))
    (λ r first second. common-longest r subtree path first (inside_trans r (parent path) path second (inside-take (length path - 1) path)))
