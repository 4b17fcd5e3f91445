-- Counts of the children that enable a controller, and how they follow changes.
use Rattle.std.proofs.Common.{◌≡◌, ℕ, ◌+◌, ◌<◌, ◌≤◌, Bool, true, false, cond, ◌&&◌, List, length, count_by, refl, sym, ap, ◌∙◌, true≢false, Some, None, is_some, arith}
use Rattle.std.specs.List.{list_any}
use Rattle.std.proofs.lemmas.List.{length-map}
use Rattle.std.proofs.lemmas.List.Sums.{count_by-le-length}
use Rattle.std.specs.Cmp.{first_so}
use Rattle.std.specs.FinMap as map
use Rattle.std.specs.FinMap.{FinMap}
use Rattle.cg_cgroup.specs.Paths.{Names, path_cmp, same_path, inside, below, is_child, parent, is_root}
use Rattle.cg_cgroup.specs.Files.{enables, no_controllers}
use Rattle.cg_cgroup.specs.declared.files.Controller.{Controller}
use Rattle.cg_cgroup.specs.declared.controllers.ControllerSet.{ControllerSet}
use Rattle.cg_cgroup.proofs.ControllerLaws.{mapped_at, enables-set_by}
use Rattle.cg_cgroup.proofs.PathOrder.{path_cmp_total, path_cmp-IsAntisymmetric, same_path-is, same_path_refl}
use Rattle.cg_cgroup.proofs.PathParents.{is_child-parent, parent-is_child}
use Rattle.cg_model.proofs.MapLaws.{any_entry}
use Rattle.cg_model.proofs.MapFolds.{gathered, gathered-insert, gathered-remove, insert-remove, get-remove-same}
use Rattle.cg_model.proofs.StateCounts.{gathered-map, one_more, one_more-Commutes}
use Rattle.cg_places.proofs.Counted.{gathered-count, count-none}
use Rattle.cg_places.specs.Nodes.{Node, more_if, less_if, uses_of, uses_then, uses_after}
use Rattle.cg_places.specs.Values.{values_of}
use Rattle.cg_places.proofs.Values.{keys-values}
use Rattle.cg_counts.specs.Kept.{enabled_of, child_uses}
use Rattle.cg_places.specs.declared.uses.Uses.{Uses}
use Rattle.cg_counts.proofs.Climb.{below_parent}

-- ---- children that enable a controller

abbrev enabling_child : Names → Controller → Names × ControllerSet → Bool
enabling_child q controller e = is_child q e.0 && enables e.1 controller

module _ (sets : FinMap path_cmp ControllerSet) (p : Names) where
  pub uses-insert : (s : ControllerSet) → map.get sets p ≡ None → (q : Names) (controller : Controller)
      → child_uses (map.insert sets p s) q controller
      ≡ cond (is_child q p && enables s controller) (1 + child_uses sets q controller) (child_uses sets q controller)
  uses-insert s none q controller =
      let test = enabling_child q controller in
      sym (gathered-count test (map.entries (map.insert sets p s)))
      ∙ gathered-insert path_cmp_total (one_more test) 0 (one_more-Commutes test) sets p s none
      ∙ ap (one_more test (p, s)) (gathered-count test (map.entries sets))

  pub uses-remove : (s : ControllerSet) → map.get sets p ≡ Some s → (q : Names) (controller : Controller)
      → child_uses sets q controller ≡ cond (is_child q p && enables s controller) (1 + child_uses (map.remove sets p) q controller)
      (child_uses (map.remove sets p) q controller)
  uses-remove s is q controller =
      let test = enabling_child q controller in
      sym (gathered-count test (map.entries sets))
      ∙ gathered-remove path_cmp_total (one_more test) 0 (one_more-Commutes test) path_cmp-IsAntisymmetric sets p s is
      ∙ ap (one_more test (p, s)) (gathered-count test (map.entries (map.remove sets p)))

  pub uses-put : (s : ControllerSet) (q : Names) (controller : Controller)
      → child_uses (map.insert sets p s) q controller ≡ cond (is_child q p && enables s controller)
      (1 + child_uses (map.remove sets p) q controller) (child_uses (map.remove sets p) q controller)
  uses-put s q controller =
      let test = enabling_child q controller in
      sym (gathered-count test (map.entries (map.insert sets p s)))
      ∙ ap (λ m. gathered (one_more test) 0 (map.entries m)) (sym (insert-remove path_cmp_total path_cmp-IsAntisymmetric sets p s))
      ∙ gathered-insert path_cmp_total (one_more test) 0 (one_more-Commutes test) (map.remove sets p) p s
      (get-remove-same path_cmp_total sets p)
      ∙ ap (one_more test (p, s)) (gathered-count test (map.entries (map.remove sets p)))

  few_uses : (q : Names) (controller : Controller) → child_uses sets q controller ≤ map.len sets
  few_uses q controller =
      let most = count_by-le-length (enabling_child q controller) (map.entries sets) in
      omega (arith, most, map.len-entries sets)

  -- no child of a path enables anything where none is there
  pub no_uses-childless : (q : Names) (controller : Controller) → ((r : Names) → is_child q r ≡ true → map.get sets r ≡ None)
      → child_uses sets q controller ≡ 0
  no_uses-childless q controller childless =
      let test = enabling_child q controller in
      count-none test (map.entries sets)
      (elim (list_any test (map.entries sets)) as (λ b. list_any test (map.entries sets) ≡ b → b ≡ false) [
        | true ↦ λ one.
            let found = any_entry path_cmp_total test sets one in
            absurd (true≢false (ap is_some (sym found.2 ∙ childless found.0 (first_so (is_child q found.0) _ found.3))))
        | false ↦ λ no_one. refl
      ] refl)

-- ---- what a recount gives

uses-after : (had has : ControllerSet) (uses : Uses) (controller : Controller)
    → uses_of (uses_after had has uses) controller
    ≡ more_if (enables has controller) (less_if (enables had controller) (uses_of uses controller))
unfolding uses_then
uses-after had has uses controller = mapped_at (uses_then had has uses) 0 controller

exact : (was is : Bool) (n r : ℕ) → n ≡ cond was (1 + r) r → r < 9223372036854775808 → more_if is (less_if was n) ≡ cond is (1 + r) r
exact true true n r h small = omega (arith, h)
exact true false n r h small = omega (arith, h)
exact false true n r h small = omega (arith, h)
exact false false n r h small = h

pub recount_exact : (had has : ControllerSet) (uses : Uses) (controller : Controller) (r : ℕ)
    → uses_of uses controller ≡ cond (enables had controller) (1 + r) r → r < 9223372036854775808
    → uses_of (uses_after had has uses) controller ≡ cond (enables has controller) (1 + r) r
recount_exact had has uses controller r h small =
    uses-after had has uses controller ∙ exact (enables had controller) (enables has controller) (uses_of uses controller) r h small

exact_less : (was : Bool) (n r : ℕ) → n ≡ cond was (1 + r) r → less_if was n ≡ r
exact_less true n r h = omega (arith, h)
exact_less false n r h = h

-- a child fewer
pub recount_fewer : (had : ControllerSet) (uses : Uses) (controller : Controller) (r : ℕ)
    → uses_of uses controller ≡ cond (enables had controller) (1 + r) r → uses_of (uses_after had no_controllers uses) controller ≡ r
recount_fewer had uses controller r h =
    uses-after had no_controllers uses controller
    ∙ ap (λ on. more_if on (less_if (enables had controller) (uses_of uses controller))) (enables-set_by (λ other. false) controller)
    ∙ exact_less (enables had controller) (uses_of uses controller) r h

-- ---- who is a child

pub is_child-parents : (q p : Names) → is_root p ≡ false → is_child q p ≡ same_path q (parent p)
is_child-parents q p root =
    elim (same_path q (parent p)) as (λ b. same_path q (parent p) ≡ b → is_child q p ≡ b) [
      | true ↦ λ e. ap (λ x. is_child x p) (same_path-is q (parent p) e) ∙ is_child-parent p root
      | false ↦ λ e. elim (is_child q p) as (λ b. is_child q p ≡ b → b ≡ false) [
        | true ↦ λ c. absurd (true≢false (sym (ap (same_path q) (parent-is_child q p c) ∙ same_path_refl q) ∙ e))
        | false ↦ λ c. refl
      ] refl
    ] refl

-- fewer than there are places
pub few_kept : (places : FinMap path_cmp ℕ) (nodes : List Node) → map.len places < 9223372036854775808
    → (q : Names) (controller : Controller) → child_uses (values_of enabled_of places nodes) q controller < 9223372036854775808
few_kept places nodes few q controller =
    let sets = values_of enabled_of places nodes in
    let most = few_uses sets q q controller in
    let long = ap length (keys-values enabled_of places nodes) in
    omega (
      arith,
      few,
      most,
      long,
      length-map (map.entries sets) (λ e. e.0),
      length-map (map.entries places) (λ e. e.0),
      map.len-entries sets,
      map.len-entries places,
    )

-- ---- paths that lie below one

keys_below : {X : Type 0} (m : FinMap path_cmp X) (q : Names)
    → gathered (λ e. one_more (below q) e.0) 0 (map.entries m) ≡ count_by (below q) (map.keys m)
keys_below m q = sym (gathered-map (one_more (below q)) 0 (λ e. e.0) (map.entries m)) ∙ gathered-count (below q) (map.keys m)

module _ {X : Type 0} (places : FinMap path_cmp X) (p : Names) (root : is_root p ≡ false) (v : X) where
  -- where a path comes to others
  pub below-insert : map.get places p ≡ None → (q : Names) → count_by (below q) (map.keys (map.insert places p v))
      ≡ cond (inside q (parent p)) (1 + count_by (below q) (map.keys places)) (count_by (below q) (map.keys places))
  below-insert none q =
      sym (keys_below (map.insert places p v) q)
      ∙ gathered-insert path_cmp_total (λ e. one_more (below q) e.0) 0 (λ x y. one_more-Commutes (below q) x.0 y.0) places p v none
      ∙ (λ t. cond (below_parent q p root t) (1 + keys_below places q t) (keys_below places q t))

  -- and where it goes
  pub below-remove : map.get places p ≡ Some v → (q : Names) → count_by (below q) (map.keys places)
      ≡ cond (inside q (parent p)) (1 + count_by (below q) (map.keys (map.remove places p)))
      (count_by (below q) (map.keys (map.remove places p)))
  below-remove is q =
      let left = keys_below (map.remove places p) q in
      sym (keys_below places q)
      ∙ gathered-remove path_cmp_total (λ e. one_more (below q) e.0) 0 (λ x y. one_more-Commutes (below q) x.0 y.0) path_cmp-IsAntisymmetric
      places p v is
      ∙ (λ t. cond (below_parent q p root t) (1 + left t) (left t))
