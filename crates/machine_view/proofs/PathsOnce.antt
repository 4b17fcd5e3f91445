-- A cgroup's path is listed once among the paths of a state.
use Rattle.std.proofs.Common.{◌≡◌, ℕ, Bool, true, false, cond, List, [], ◌∷◌, map, length, Option, Some, is_some, refl, sym, ap, ◌∙◌, T}
use Rattle.std.specs.Prelude.{◌&&◌, count_by, filter}
use Rattle.std.specs.Ordering.{is_eq, is_lt, eq_by_cmp}
use Rattle.std.specs.declared.cmp.Ordering.TheVariants.{Less}
use Rattle.std.specs.FinMap as finite
use Rattle.std.specs.FinMap.{is_sorted}
use Rattle.std.proofs.lemmas.List.{length-map}
use Rattle.std.proofs.lemmas.List.Sums.{length-filter}
use Rattle.cg_cgroup.specs.Paths.{Names, path_cmp, same_path}
use Rattle.cg_cgroup.specs.declared.cgroup.Cgroup.{Cgroup}
use Rattle.cg_cgroup.proofs.PathOrder.{same_path-ties, same_path-is}
use Rattle.cg_model.specs.States.{State, paths_of}
use Rattle.cg_model.specs.WellFormed.{has_row}
use Rattle.cg_model.proofs.MapLaws.{first_of_both, second_of_both, is_less}

both_hold : (a b : Bool) → T a → T b → T (a && b)
both_hold true b here there = there
both_hold false b here there = here

abbrev tied_to : Names → Names × Cgroup → Bool
tied_to path e = eq_by_cmp path_cmp path e.0

-- whether the keys of all entries lie behind one
abbrev rises : Names → List (Names × Cgroup) → Bool
rises path [] = true
rises path (e ∷ es) = is_lt (path_cmp path e.0) && rises path es

-- no entry behind one in their order is tied to its key
none_later : (path : Names) (e : Names × Cgroup) (es : List (Names × Cgroup)) → path ≡ e.0 → T (is_sorted path_cmp (e ∷ es))
    → filter (tied_to path) es ≡ []
none_later path e [] same sorted = refl
none_later path e (f ∷ es) same sorted =
    let ordered = is_sorted path_cmp es in
    let above = first_of_both (rises e.0 (f ∷ es)) (rises f.0 es && ordered) sorted in
    let later = second_of_both (rises e.0 (f ∷ es)) (rises f.0 es && ordered) sorted in
    let first = first_of_both (is_lt (path_cmp e.0 f.0)) (rises e.0 es) above in
    let others = second_of_both (is_lt (path_cmp e.0 f.0)) (rises e.0 es) above in
    let less : path_cmp path f.0 ≡ Less = ap (λ (p : Names). path_cmp p f.0) same ∙ is_less (path_cmp e.0 f.0) first in
    ap (λ r. cond (is_eq r) (f ∷ filter (tied_to path) es) (filter (tied_to path) es)) less
    ∙ none_later path e es same (both_hold (rises e.0 es) ordered others (second_of_both (rises f.0 es) ordered later))

tied_once : (path : Names) (es : List (Names × Cgroup)) → T (is_sorted path_cmp es)
    → length (filter (tied_to path) es) ≡ cond (is_some (finite.find path_cmp path es)) 1 0
tied_once path [] sorted = refl
tied_once path (e ∷ es) sorted =
    let rest = tied_once path es (second_of_both (rises e.0 es) (is_sorted path_cmp es) sorted) in
    elim (tied_to path e) as (λ b. tied_to path e ≡ b
    → length (cond b (e ∷ filter (tied_to path) es) (filter (tied_to path) es))
    ≡ cond {A = ℕ} (is_some (cond b (Some e.1) (finite.find path_cmp path es))) 1 0) [
      | true ↦ λ tied.
          let same : path ≡ e.0 = same_path-is path e.0 (same_path-ties path e.0 ∙ tied) in
          ap (λ (rest : List (Names × Cgroup)). length (e ∷ rest)) (none_later path e es same sorted)
      | false ↦ λ _. rest
    ] refl

mapped_test : {A B : Type 0} (g : A → B) (p : B → Bool) (xs : List A) → filter p (map g xs) ≡ map g (filter (λ x. p (g x)) xs)
mapped_test g p [] = refl
mapped_test g p (x ∷ xs) =
    ap (λ rest. cond (p (g x)) (g x ∷ rest) rest) (mapped_test g p xs)
    ∙ elim (p (g x)) as (λ b. cond b (g x ∷ map g (filter (λ x. p (g x)) xs)) (map g (filter (λ x. p (g x)) xs))
    ≡ map g (cond b (x ∷ filter (λ x. p (g x)) xs) (filter (λ x. p (g x)) xs))) [ true ↦ refl | false ↦ refl ]

pub keys_once : (st : State) (path : Names) → count_by (same_path path) (paths_of st) ≡ cond (has_row st path) 1 0
keys_once st path =
    let entries = finite.entries st.rows in
    ap (λ (test : Names → Bool). count_by test (paths_of st)) (λ i other. same_path-ties path other i)
    ∙ sym (length-filter (eq_by_cmp path_cmp path) (paths_of st))
    ∙ ap length (mapped_test (λ (e : Names × Cgroup). e.0) (eq_by_cmp path_cmp path) entries)
    ∙ length-map (filter (tied_to path) entries) (λ e. e.0)
    ∙ tied_once path entries (finite.entries_sorted st.rows)
    ∙ sym (ap (λ (o : Option Cgroup). cond {A = ℕ} (is_some o) 1 0) (finite.get-entries st.rows path))
