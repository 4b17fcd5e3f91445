-- Laws of paths: inside, the longest common prefix, the order, texts.
use Rattle.std.proofs.Common.{◌≡◌, ◌≤◌, Bool, true, false, cond, [], ◌∷◌, length, take, refl, ap, sym, ◌∙◌, arith, Some, Decides, Ordering, Less, Equal, Greater}
use Rattle.std.specs.Prelude.{◌≢◌}
use Rattle.std.specs.Ordering.{nat_cmp, ordering_then, ordering_reverse, is_gt, is_eq}
use Rattle.std.specs.Cmp.Lexicographic.{slice_cmp, nat_list_cmp_total, nat_list_eq_equiv, texts_ties, bytes_decides}
use Rattle.std.proofs.lemmas.Bool.{and_parts, and_from, true≢false}
use Rattle.cg_cgroup.specs.Paths.{Name, Names, names_of, path_cmp, same_name, inside, common, path_text, path_at, IsPath}
use Rattle.cg_cgroup.proofs.PathEnds.{path_names}
use Rattle.cg_cgroup.proofs.PathNames.{names_of-text}
use Rattle.cg_cgroup.proofs.PathAt.{path_at-text}
use Rattle.cg_cgroup.proofs.PathParents.{inside-take, inside-is}

same_name-is : (a b : Name) → same_name a b ≡ true → a ≡ b
same_name-is a b = (bytes_decides a b).0

-- ---- inside

pub inside_refl : (p : Names) → inside p p ≡ true
inside_refl [] = refl
inside_refl (name ∷ p) = and_from (same_name name name) (inside p p) (nat_list_eq_equiv.refl name) (inside_refl p)

pub inside_trans : (p q r : Names) → inside p q ≡ true → inside q r ≡ true → inside p r ≡ true
inside_trans [] q r h k = refl
inside_trans (a ∷ p) [] r h k = absurd (true≢false (sym h))
inside_trans (a ∷ p) (b ∷ q) [] h k = absurd (true≢false (sym k))
inside_trans (a ∷ p) (b ∷ q) (c ∷ r) h k =
    let first = and_parts (same_name a b) (inside p q) h in
    let second = and_parts (same_name b c) (inside q r) k in
    and_from (same_name a c) (inside p r) (nat_list_eq_equiv.congr a b c first.0 ∙ second.0) (inside_trans p q r first.1 second.1)

pub inside_antisym : (p q : Names) → inside p q ≡ true → inside q p ≡ true → p ≡ q
inside_antisym [] [] h k = refl
inside_antisym [] (b ∷ q) h k = absurd (true≢false (sym k))
inside_antisym (a ∷ p) [] h k = absurd (true≢false (sym h))
inside_antisym (a ∷ p) (b ∷ q) h k =
    let first = and_parts (same_name a b) (inside p q) h in
    let second = and_parts (same_name b a) (inside q p) k in
    let names = same_name-is a b first.0 in
    let rest = inside_antisym p q first.1 second.1 in
    λ i. names i ∷ rest i

-- a path is inside its first names, and no other lists
pub inside_decides : (p q : Names) → Decides (inside p q) (p ≡ take (length p) q)
inside_decides p q =
    (λ h. sym (inside-is p q h), λ h. ap (λ (x : Names). inside x q) h ∙ inside-take (length p) q)

pub inside-length : (p q : Names) → inside p q ≡ true → length p ≤ length q
inside-length [] q h = omega arith
inside-length (a ∷ p) [] h = absurd (true≢false (sym h))
inside-length (a ∷ p) (b ∷ q) h = omega (arith, inside-length p q (and_parts (same_name a b) (inside p q) h).1)

-- ---- the longest common prefix

pub common-inside_first : (p q : Names) → inside (common p q) p ≡ true
common-inside_first [] q = refl
common-inside_first (a ∷ p) [] = refl
common-inside_first (a ∷ p) (b ∷ q) =
    elim (same_name a b) as (λ t. inside (cond t (a ∷ common p q) []) (a ∷ p) ≡ true)
    [ true ↦ and_from (same_name a a) (inside (common p q) p) (nat_list_eq_equiv.refl a) (common-inside_first p q) | false ↦ refl ]

pub common-inside_second : (p q : Names) → inside (common p q) q ≡ true
common-inside_second [] q = refl
common-inside_second (a ∷ p) [] = refl
common-inside_second (a ∷ p) (b ∷ q) =
    elim (same_name a b) as (λ t. same_name a b ≡ t → inside (cond t (a ∷ common p q) []) (b ∷ q) ≡ true)
    [ true ↦ λ e. and_from (same_name a b) (inside (common p q) q) e (common-inside_second p q) | false ↦ λ e. refl ] refl

pub common-longest : (r p q : Names) → inside r p ≡ true → inside r q ≡ true → inside r (common p q) ≡ true
common-longest [] p q h k = refl
common-longest (c ∷ r) [] q h k = absurd (true≢false (sym h))
common-longest (c ∷ r) (a ∷ p) [] h k = absurd (true≢false (sym k))
common-longest (c ∷ r) (a ∷ p) (b ∷ q) h k =
    let first = and_parts (same_name c a) (inside r p) h in
    let second = and_parts (same_name c b) (inside r q) k in
    let same : same_name a b ≡ true =
    nat_list_eq_equiv.symm a b ∙ sym (ap (same_name b) (same_name-is c a first.0)) ∙ nat_list_eq_equiv.symm b c ∙ second.0 in
    ap (λ (t : Bool). inside (c ∷ r) (cond t (a ∷ common p q) [])) same
    ∙ and_from (same_name c a) (inside r (common p q)) first.0 (common-longest r p q first.1 second.1)

-- no other list is inside both and holds all that is inside both
pub common-only : (c p q : Names) → inside c p ≡ true → inside c q ≡ true
    → ((r : Names) → inside r p ≡ true → inside r q ≡ true → inside r c ≡ true) → c ≡ common p q
common-only c p q h k longest =
    inside_antisym c (common p q) (common-longest c p q h k) (longest (common p q) (common-inside_first p q) (common-inside_second p q))

pub common-take : (p q : Names) → common p q ≡ take (length (common p q)) q
common-take p q = (inside_decides (common p q) q).0 (common-inside_second p q)

pub common-take_first : (p q : Names) → common p q ≡ take (length (common p q)) p
common-take_first p q = (inside_decides (common p q) p).0 (common-inside_first p q)

pub common_comm : (p q : Names) → common p q ≡ common q p
common_comm p q =
    common-only (common p q) q p (common-inside_second p q) (common-inside_first p q) (λ r h k. common-longest r p q k h)

-- ---- the order

then_not_gt : (r s : Ordering) → is_gt (ordering_then r s) ≡ false → is_gt r ≡ false
then_not_gt Less s h = refl
then_not_gt Equal s h = refl
then_not_gt Greater s h = h

is_eq-is : (r : Ordering) → is_eq r ≡ true → r ≡ Equal
is_eq-is Less h = absurd (true≢false (sym h))
is_eq-is Equal h = refl
is_eq-is Greater h = absurd (true≢false (sym h))

-- what is neither greater than the other is the same
names_tied : (a b : Name) (r : Ordering) → slice_cmp nat_cmp b a ≡ r → is_gt (slice_cmp nat_cmp a b) ≡ false → is_gt r ≡ false
    → slice_cmp nat_cmp a b ≡ Equal
names_tied a b Less e h k =
    absurd (true≢false (ap (λ (x : Ordering). is_gt (ordering_reverse x)) (sym e) ∙ ap is_gt (sym (nat_list_cmp_total.antisymm a b)) ∙ h))
names_tied a b Equal e h k = nat_list_cmp_total.antisymm a b ∙ ap ordering_reverse e
names_tied a b Greater e h k = absurd (true≢false k)

-- a path comes before what is inside it
pub inside-first : (p q : Names) → inside p q ≡ true → is_gt (path_cmp p q) ≡ false
inside-first [] [] h = refl
inside-first [] (b ∷ q) h = refl
inside-first (a ∷ p) [] h = absurd (true≢false (sym h))
inside-first (a ∷ p) (b ∷ q) h =
    let both = and_parts (same_name a b) (inside p q) h in
    let tie = is_eq-is (slice_cmp nat_cmp a b) (sym (texts_ties a b) ∙ both.0) in
    ap (λ (x : Ordering). is_gt (ordering_then x (path_cmp p q))) tie ∙ inside-first p q both.1

-- what lies between a path and something inside it is inside it
pub inside_between : (p q r : Names) → is_gt (path_cmp p q) ≡ false → is_gt (path_cmp q r) ≡ false → inside p r ≡ true → inside p q ≡ true
inside_between [] q r h k l = refl
inside_between (a ∷ p) [] r h k l = absurd (true≢false h)
inside_between (a ∷ p) (b ∷ q) [] h k l = absurd (true≢false (sym l))
inside_between (a ∷ p) (b ∷ q) (c ∷ r) h k l =
    let both = and_parts (same_name a c) (inside p r) l in
    let names = same_name-is a c both.0 in
    let ab = then_not_gt (slice_cmp nat_cmp a b) (path_cmp p q) h in
    let bc = then_not_gt (slice_cmp nat_cmp b c) (path_cmp q r) k in
    let ba : is_gt (slice_cmp nat_cmp b a) ≡ false = ap (λ (x : Name). is_gt (slice_cmp nat_cmp b x)) names ∙ bc in
    let tie = names_tied a b (slice_cmp nat_cmp b a) refl ab ba in
    let back = names_tied b a (slice_cmp nat_cmp a b) refl ba ab in
    let same : same_name a b ≡ true = texts_ties a b ∙ ap is_eq tie in
    let pq : is_gt (path_cmp p q) ≡ false = ap (λ (x : Ordering). is_gt (ordering_then x (path_cmp p q))) (sym tie) ∙ h in
    let qr : is_gt (path_cmp q r) ≡ false =
    ap (λ (x : Ordering). is_gt (ordering_then x (path_cmp q r))) (sym back ∙ ap (slice_cmp nat_cmp b) names) ∙ k in
    and_from (same_name a b) (inside p q) same (inside_between p q r pq qr both.1)

-- ---- texts

pub path_text-injective : (p q : Names) → IsPath p → IsPath q → path_text p ≡ path_text q → p ≡ q
path_text-injective p q h k e =
    let found : Some p ≡ Some q = sym (path_at-text p h) ∙ ap path_at e ∙ path_at-text q k in
    cc

pub names_of-a_path : (p : Names) → IsPath p → p ≢ [] → names_of (path_text p) ≡ p
names_of-a_path [] h some = absurd (some refl)
names_of-a_path (name ∷ p) h some = names_of-text (name ∷ p) (path_names (name ∷ p) h)
