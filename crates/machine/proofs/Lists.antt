-- Paths and lists of them.
use Rattle.std.proofs.Common.{◌≡◌, ℕ, suc, ◌+◌, ◌<◌, ◌≤◌, Bool, true, false, cond, ◌&&◌, ◌||◌, not, List, [], ◌∷◌, length, take, filter, count_by, refl, sym, ap, ◌∙◌, true≢false, arith, take-take, length-take-le, eq-eqb, ⊎_elim}
use Rattle.std.specs.List.{list_any}
use Rattle.std.specs.Cmp.Derive.{both_true}
use Rattle.std.proofs.lemmas.Bool.{cases_lt, or_left, or_right}
use Rattle.std.proofs.lemmas.List.Recursion.{is_count_by}
use Rattle.std.proofs.lemmas.Map.Views.{any-filter_same}
use Rattle.cg_cgroup.specs.Paths.{Names, same_path, inside, is_child, common}
use Rattle.cg_cgroup.proofs.PathOrder.{same_path-is}
use Rattle.cg_cgroup.proofs.PathParents.{inside-take, inside-is}
use Rattle.cg_cgroup.proofs.PathLaws.{inside_trans, common-inside_second, common-take_first}

-- ---- counts from the front

counted : {A : Type 0} → (A → Bool) → List A → ℕ
counted test [] = 0
counted test (x ∷ xs) = cond (test x) (1 + counted test xs) (counted test xs)

counted-is : {A : Type 0} (test : A → Bool) (xs : List A) → counted test xs ≡ count_by test xs
unfolding counted
counted-is test xs = is_count_by (counted test) test refl (λ y ys. refl) xs

pub count-cons : {A : Type 0} (test : A → Bool) (x : A) (xs : List A)
    → count_by test (x ∷ xs) ≡ cond (test x) (1 + count_by test xs) (count_by test xs)
unfolding counted
count-cons test x xs = sym (counted-is test (x ∷ xs)) ∙ ap (λ n. cond (test x) (1 + n) n) (counted-is test xs)

pub count-filter : {A : Type 0} (test kept : A → Bool) (xs : List A) → count_by test (filter kept xs) ≤ count_by test xs
count-filter test kept [] = omega arith
count-filter test kept (x ∷ xs) =
    let rest = count-filter test kept xs in
    let whole = count-cons test x xs in
    by_cases (kept x) (test x) (count_by test (filter kept xs)) (count_by test xs) (count_by test (x ∷ xs))
    (count_by test (cond (kept x) (x ∷ filter kept xs) (filter kept xs))) rest whole
    (by_kept (kept x))
  where
    by_kept : (b : Bool) → count_by test (cond b (x ∷ filter kept xs) (filter kept xs))
        ≡ cond b (cond (test x) (1 + count_by test (filter kept xs)) (count_by test (filter kept xs))) (count_by test (filter kept xs))
    by_kept true = count-cons test x (filter kept xs)
    by_kept false = refl

    by_cases : (b c : Bool) (n m whole part : ℕ) → n ≤ m → whole ≡ cond c (1 + m) m → part ≡ cond b (cond c (1 + n) n) n → part ≤ whole
    by_cases true true n m whole part le w p = omega arith
    by_cases true false n m whole part le w p = omega arith
    by_cases false true n m whole part le w p = omega arith
    by_cases false false n m whole part le w p = omega arith

-- ---- what a list has

pub any-found : (test : Names → Bool) (path : Names) (paths : List Names) → list_any (same_path path) paths ≡ true → test path ≡ true
    → list_any test paths ≡ true
any-found test path [] there passes = absurd (true≢false (sym there))
any-found test path (other ∷ paths) there passes =
    elim (same_path path other) as (λ b. same_path path other ≡ b → (b || list_any (same_path path) paths) ≡ true
    → (test other || list_any test paths) ≡ true) [
      | true ↦
          λ same _. or_left (test other) (list_any test paths) (ap test (sym (same_path-is path other same)) ∙ passes)
      | false ↦ λ _ rest. or_right (test other) (list_any test paths) (any-found test path paths rest passes)
    ] refl there

-- a path is in a list that another is filtered out of exactly where it is another and was there
pub has-filter : (gone path : Names) (paths : List Names)
    → list_any (same_path path) (filter (λ other. not (same_path gone other)) paths)
    ≡ (not (same_path gone path) && list_any (same_path path) paths)
has-filter gone path paths =
    any-filter_same (same_path path) (λ other. not (same_path gone other)) (not (same_path gone path))
    (λ other same. ap (λ (p : Names). not (same_path gone p)) (sym (same_path-is path other same))) paths

-- ---- paths

pub child-taken : (len : ℕ) (path : Names) → len < length path → is_child (take len path) (take (suc len) path) ≡ true
child-taken len path shorter =
    let cut : take len (take (suc len) path) ≡ take len path = take-take len (suc len) path (omega arith) in
    both_true (ap (λ (top : Names). inside top (take (suc len) path)) (sym cut) ∙ inside-take len (take (suc len) path))
    (eq-eqb _ _ (length-take-le (suc len) path (omega arith) ∙ omega (arith, length-take-le len path (omega arith))))

-- of a place inside and one outside the common ancestor is a proper ancestor of the subtree
pub common-above : (subtree from to : Names) → inside subtree from ≡ true → inside subtree to ≡ false
    → (length (common from to) < length subtree) × (common from to ≡ take (length (common from to)) subtree)
common-above subtree from to within without =
    let top = common from to in
    let at = inside-is subtree from within in
    ⊎_elim
    (λ above.
    (above, common-take_first from to ∙ sym (take-take (length top) (length subtree) from (omega arith)) ∙ ap (take (length top)) at))
    (λ below.
    let cut : take (length subtree) top ≡ subtree =
    ap (take (length subtree)) (common-take_first from to) ∙ take-take (length subtree) (length top) from below ∙ at in
    let higher : inside subtree top ≡ true = ap (λ p. inside p top) (sym cut) ∙ inside-take (length subtree) top in
    absurd (true≢false (sym (inside_trans subtree top to higher (common-inside_second from to)) ∙ without)))
    (cases_lt (length top) (length subtree))
