-- Maps of what is read at places, and how they follow changes of the places and of what is there.
use Rattle.std.proofs.Common.{◌≡◌, ℕ, true, false, cond, ◌&&◌, T, List, [], ◌∷◌, map as map_list, refl, sym, ap, ◌∙◌, subst, Some, None, Option, option_map}
use Rattle.std.specs.Ordering.{eq_by_cmp, is_lt}
use Rattle.std.specs.FinMap as map
use Rattle.std.specs.FinMap.{FinMap, find}
use Rattle.std.specs.FinMap.Entries.{is_sorted, below_all}
use Rattle.cg_cgroup.specs.Paths.{Names, path_cmp, same_path}
use Rattle.cg_cgroup.proofs.PathOrder.{path_cmp_total, path_cmp-IsAntisymmetric, same_path-ties, same_path-is}
use Rattle.cg_model.proofs.MapLaws.{get-changed, change_entries, change_value, change_value-there}
use Rattle.cg_places.specs.Nodes.{Node, node_at}
use Rattle.cg_places.specs.Values.{map_values, values_of}

-- ---- a map with each value mapped

module _ {X Y : Type 0} (f : X → Y) where
  abbrev mapped : List (Names × X) → List (Names × Y)
  mapped es = map_list (λ e. (e.0, f e.1)) es

  below_all-mapped : (k : Names) (es : List (Names × X)) → below_all path_cmp k (mapped es) ≡ below_all path_cmp k es
  below_all-mapped k [] = refl
  below_all-mapped k (e ∷ es) = ap (λ b. is_lt (path_cmp k e.0) && b) (below_all-mapped k es)

  is_sorted-mapped : (es : List (Names × X)) → is_sorted path_cmp (mapped es) ≡ is_sorted path_cmp es
  is_sorted-mapped [] = refl
  is_sorted-mapped (e ∷ es) = λ i. below_all-mapped e.0 es i && is_sorted-mapped es i

  find-mapped : (q : Names) (es : List (Names × X)) → find path_cmp q (mapped es) ≡ option_map f (find path_cmp q es)
  find-mapped q [] = refl
  find-mapped q (e ∷ es) =
      elim (eq_by_cmp path_cmp q e.0) as
      (λ b. cond b (Some (f e.1)) (find path_cmp q (mapped es)) ≡ option_map f (cond b (Some e.1) (find path_cmp q es)))
      [ true ↦ refl | false ↦ find-mapped q es ]

  pub entries-mapped : (m : FinMap path_cmp X) → map.entries (map_values f m) ≡ mapped (map.entries m)
  entries-mapped m = map.entries-from_sorted path_cmp _ (subst T (sym (is_sorted-mapped (map.entries m))) (map.entries_sorted m))

  pub get-mapped : (m : FinMap path_cmp X) (q : Names) → map.get (map_values f m) q ≡ option_map f (map.get m q)
  get-mapped m q =
      map.get-entries _ q ∙ ap (find path_cmp q) (entries-mapped m) ∙ find-mapped q (map.entries m)
      ∙ ap (option_map f) (sym (map.get-entries m q))

  pub keys-mapped : (m : FinMap path_cmp X) → map.keys (map_values f m) ≡ map.keys m
  keys-mapped m = ap (map_list (λ e. e.0)) (entries-mapped m) ∙ same_keys (map.entries m)
    where
      same_keys : (es : List (Names × X)) → map_list (λ e. e.0) (mapped es) ≡ map_list (λ e. e.0) es
      same_keys [] = refl
      same_keys (e ∷ es) = ap (λ ks. e.0 ∷ ks) (same_keys es)

pub option_map-twice : {X Y Z : Type 0} (f : Y → Z) (g : X → Y) (o : Option X) → option_map f (option_map g o) ≡ option_map (λ x. f (g x)) o
option_map-twice f g None = refl
option_map-twice f g (Some x) = refl

-- ---- maps that are equal since they give the same

pub same_maps : {X : Type 0} (m n : FinMap path_cmp X) → ((q : Names) → map.get m q ≡ map.get n q) → m ≡ n
same_maps m n = map.same_map path_cmp_total path_cmp-IsAntisymmetric m n

pub get-put : {X : Type 0} (m : FinMap path_cmp X) (p : Names) (v : X) (q : Names)
    → map.get (map.insert m p v) q ≡ cond (same_path q p) (Some v) (map.get m q)
get-put m p v q = map.get-insert path_cmp_total m p v q ∙ ap (λ b. cond b (Some v) (map.get m q)) (sym (same_path-ties q p))

pub get-without : {X : Type 0} (m : FinMap path_cmp X) (p q : Names) → map.get (map.remove m p) q ≡ cond (same_path q p) None (map.get m q)
get-without m p q = map.get-remove path_cmp_total m p q ∙ ap (λ b. cond b None (map.get m q)) (sym (same_path-ties q p))

pub values-insert : {X Y : Type 0} (f : X → Y) (m : FinMap path_cmp X) (p : Names) (v : X)
    → map_values f (map.insert m p v) ≡ map.insert (map_values f m) p (f v)
values-insert f m p v = same_maps _ _ (λ q.
    get-mapped f (map.insert m p v) q ∙ ap (option_map f) (get-put m p v q)
    ∙ elim (same_path q p) as (λ b. option_map f (cond b (Some v) (map.get m q)) ≡ cond b (Some (f v)) (option_map f (map.get m q)))
    [ true ↦ refl | false ↦ refl ]
    ∙ ap (cond (same_path q p) (Some (f v))) (sym (get-mapped f m q)) ∙ sym (get-put (map_values f m) p (f v) q))

pub values-remove : {X Y : Type 0} (f : X → Y) (m : FinMap path_cmp X) (p : Names)
    → map_values f (map.remove m p) ≡ map.remove (map_values f m) p
values-remove f m p = same_maps _ _ (λ q.
    get-mapped f (map.remove m p) q ∙ ap (option_map f) (get-without m p q)
    ∙ elim (same_path q p) as (λ b. option_map f (cond b None (map.get m q)) ≡ cond b None (option_map f (map.get m q)))
    [ true ↦ refl | false ↦ refl ]
    ∙ ap (cond (same_path q p) None) (sym (get-mapped f m q)) ∙ sym (get-without (map_values f m) p q))

-- ---- what is read at the places of paths

module _ {A : Type 0} (g : Node → A) where
  pub get-values : (places : FinMap path_cmp ℕ) (nodes : List Node) (q : Names)
      → map.get (values_of g places nodes) q ≡ option_map (λ i. g (node_at nodes i)) (map.get places q)
  get-values places nodes q = get-mapped (λ i. g (node_at nodes i)) places q

  pub keys-values : (places : FinMap path_cmp ℕ) (nodes : List Node) → map.keys (values_of g places nodes) ≡ map.keys places
  keys-values places nodes = keys-mapped (λ i. g (node_at nodes i)) places

  pub value_there : (places : FinMap path_cmp ℕ) (nodes : List Node) (q : Names) (j : ℕ) → map.get places q ≡ Some j
      → map.get (values_of g places nodes) q ≡ Some (g (node_at nodes j))
  value_there places nodes q j is = get-values places nodes q ∙ ap (option_map (λ i. g (node_at nodes i))) is

  pub value_none : (places : FinMap path_cmp ℕ) (nodes : List Node) (q : Names) → map.get places q ≡ None
      → map.get (values_of g places nodes) q ≡ None
  value_none places nodes q is = get-values places nodes q ∙ ap (option_map (λ i. g (node_at nodes i))) is

  -- what is read at the place of a path where that is as it was
  read_same : (places : FinMap path_cmp ℕ) (ns ms : List Node) (q : Names)
      → ((j : ℕ) → map.get places q ≡ Some j → g (node_at ms j) ≡ g (node_at ns j))
      → option_map (λ i. g (node_at ms i)) (map.get places q) ≡ map.get (values_of g places ns) q
  read_same places ns ms q same =
      elim (map.get places q) as (λ o. map.get places q ≡ o → option_map (λ i. g (node_at ms i)) o ≡ option_map (λ i. g (node_at ns i)) o)
      [ None ↦ λ e. refl | Some j ↦ λ e. ap Some (same j e) ] refl
      ∙ sym (get-values places ns q)

  pub values_same : (places : FinMap path_cmp ℕ) (ns ms : List Node)
      → ((q : Names) (j : ℕ) → map.get places q ≡ Some j → g (node_at ns j) ≡ g (node_at ms j))
      → values_of g places ns ≡ values_of g places ms
  values_same places ns ms same = same_maps _ _ (λ q. get-values places ns q ∙ read_same places ms ns q (same q))

  -- each changed by its path
  pub values_each : (f : Names → A → A) (places : FinMap path_cmp ℕ) (ns ms : List Node)
      → ((q : Names) (j : ℕ) → map.get places q ≡ Some j → g (node_at ms j) ≡ f q (g (node_at ns j)))
      → values_of g places ms ≡ map.from_sorted (change_entries f (map.entries (values_of g places ns)))
  values_each f places ns ms same = same_maps _ _ (λ q.
      get-values places ms q
      ∙ elim (map.get places q) as
      (λ o. map.get places q ≡ o → option_map (λ i. g (node_at ms i)) o ≡ option_map (f q) (option_map (λ i. g (node_at ns i)) o))
      [ None ↦ λ e. refl | Some j ↦ λ e. ap Some (same q j e) ] refl
      ∙ ap (option_map (f q)) (sym (get-values places ns q)) ∙ sym (get-changed path_cmp-IsAntisymmetric f (values_of g places ns) q))

  -- one path, new or there, has this place, and what is read at the others' is as it was
  pub values_put : (places next : FinMap path_cmp ℕ) (ns ms : List Node) (p : Names) (i : ℕ) (v : A)
      → ((q : Names) → map.get next q ≡ cond (same_path q p) (Some i) (map.get places q)) → g (node_at ms i) ≡ v
      → ((q : Names) (j : ℕ) → same_path q p ≡ false → map.get places q ≡ Some j → g (node_at ms j) ≡ g (node_at ns j))
      → values_of g next ms ≡ map.insert (values_of g places ns) p v
  values_put places next ns ms p i v nexts new same = same_maps _ _ (λ q.
      get-values next ms q ∙ ap (option_map (λ j. g (node_at ms j))) (nexts q)
      ∙ elim (same_path q p) as (λ b. same_path q p ≡ b
      → option_map (λ j. g (node_at ms j)) (cond b (Some i) (map.get places q)) ≡ cond b (Some v) (map.get (values_of g places ns) q)) [
        | true ↦ λ e. ap Some new
        | false ↦ λ e. read_same places ns ms q (λ j has. same q j e has)
      ] refl
      ∙ sym (get-put (values_of g places ns) p v q))

  pub values_gone : (places next : FinMap path_cmp ℕ) (ns ms : List Node) (p : Names)
      → ((q : Names) → map.get next q ≡ cond (same_path q p) None (map.get places q))
      → ((q : Names) (j : ℕ) → same_path q p ≡ false → map.get places q ≡ Some j → g (node_at ms j) ≡ g (node_at ns j))
      → values_of g next ms ≡ map.remove (values_of g places ns) p
  values_gone places next ns ms p nexts same = same_maps _ _ (λ q.
      get-values next ms q ∙ ap (option_map (λ j. g (node_at ms j))) (nexts q)
      ∙ elim (same_path q p) as (λ b. same_path q p ≡ b
      → option_map (λ j. g (node_at ms j)) (cond b None (map.get places q)) ≡ cond b None (map.get (values_of g places ns) q)) [
        | true ↦ λ e. refl
        | false ↦ λ e. read_same places ns ms q (λ j has. same q j e has)
      ] refl
      ∙ sym (get-without (values_of g places ns) p q))

  -- the value of a path that is there changed
  pub values_change : (places : FinMap path_cmp ℕ) (ns ms : List Node) (p : Names) (i : ℕ) (f : A → A) → map.get places p ≡ Some i
      → g (node_at ms i) ≡ f (g (node_at ns i))
      → ((q : Names) (j : ℕ) → same_path q p ≡ false → map.get places q ≡ Some j → g (node_at ms j) ≡ g (node_at ns j))
      → values_of g places ms ≡ change_value (values_of g places ns) p f
  values_change places ns ms p i f is new same =
      values_put places places ns ms p i (f (g (node_at ns i))) (λ q. again q) new same
      ∙ sym (change_value-there (values_of g places ns) p f (g (node_at ns i)) (value_there places ns p i is))
    where
      again : (q : Names) → map.get places q ≡ cond (same_path q p) (Some i) (map.get places q)
      again q =
          elim (same_path q p) as (λ b. same_path q p ≡ b → map.get places q ≡ cond b (Some i) (map.get places q))
          [ true ↦ λ e. ap (map.get places) (same_path-is q p e) ∙ is | false ↦ λ e. refl ] refl
