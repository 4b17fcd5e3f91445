-- The order of paths is total, ties only equal paths, and `same_path` tests its ties.
use Rattle.std.proofs.Common.{◌≡◌, true, false, ◌≢◌, refl, sym, ◌∙◌, true≢false}
use Rattle.std.specs.Bool.{Decides}
use Rattle.std.specs.Ordering.{eq_by_cmp, nat_cmp}
use Rattle.std.specs.Cmp.{IsTotalOrder, IsEquivalence}
use Rattle.std.specs.Cmp.Lexicographic.{slice_cmp, nat_list_cmp_total, nat_list_eq_equiv, lists_total, lists_ties, lists_equiv, texts_ties, pointwise_decides, bytes_decides}
use Rattle.std.specs.FinMap.{IsAntisymmetric, slice_cmp-IsAntisymmetric, nat_cmp-IsAntisymmetric}
use Rattle.cg_cgroup.specs.Paths.{Names, path_cmp, same_path}

pub path_cmp_total : IsTotalOrder path_cmp
path_cmp_total = lists_total nat_list_cmp_total

pub path_cmp-IsAntisymmetric : IsAntisymmetric path_cmp
path_cmp-IsAntisymmetric = slice_cmp-IsAntisymmetric (slice_cmp-IsAntisymmetric nat_cmp-IsAntisymmetric)

pub same_path-ties : (p q : Names) → same_path p q ≡ eq_by_cmp path_cmp p q
same_path-ties = lists_ties (slice_cmp nat_cmp) texts_ties

pub same_path_equiv : IsEquivalence same_path
same_path_equiv = lists_equiv nat_list_eq_equiv

pub same_path_decides : (p q : Names) → Decides (same_path p q) (p ≡ q)
same_path_decides p q = pointwise_decides bytes_decides p q

pub same_path-is : (p q : Names) → same_path p q ≡ true → p ≡ q
same_path-is p q = (same_path_decides p q).0

pub same_path_refl : (p : Names) → same_path p p ≡ true
same_path_refl = same_path_equiv.refl

pub same_path_comm : (p q : Names) → same_path p q ≡ same_path q p
same_path_comm = same_path_equiv.symm

pub same_path-not : (p q : Names) → (p ≢ q) → same_path p q ≡ false
same_path-not p q apart =
    elim (same_path p q) as (λ b. same_path p q ≡ b → b ≡ false) [ true ↦ λ e. absurd (apart (same_path-is p q e)) | false ↦ λ e. refl ]
    refl

pub same_path-other : (p q : Names) → same_path p q ≡ false → p ≢ q
same_path-other p q e is = true≢false (sym ((same_path_decides p q).1 is) ∙ e)
