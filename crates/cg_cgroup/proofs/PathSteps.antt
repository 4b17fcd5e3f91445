-- When two kept paths are the same, and where two paths part.
use Rattle.std.proofs.Common.{◌≡◌, ℕ, ◌<◌, ◌≤◌, Bool, true, false, List, [], ◌∷◌, length, get_or, take, refl, ap, sym, ◌∙◌, arith, cond, Ordering, Less, Equal, Greater, ⊎_elim, ◌⊎◌, inl, inr, true≢false}
use Rattle.std.specs.Prelude.{nat_eq}
use Rattle.std.specs.List.{list_all}
use Rattle.std.specs.Cmp.Lexicographic.{slice_cmp, pointwise, bytes_decides, texts_ties}
use Rattle.std.specs.Ordering.{nat_cmp, ordering_then, is_eq}
use Rattle.std.proofs.lemmas.Bool.Decides.{same_from_decides, Decides-like, nat_tests}
use Rattle.std.proofs.lemmas.Bool.{cases_lt}
use Rattle.std.proofs.lemmas.List.{get_or-take, length-take-le, take-take}
use Rattle.cg_cgroup.specs.Paths.{Name, Names, names_of, path_cmp, same_path, same_name, is_name, inside, common}
use Rattle.cg_cgroup.specs.PathText.{names_text}
use Rattle.cg_cgroup.proofs.PathOrder.{same_path_decides}
use Rattle.cg_cgroup.proofs.PathNames.{names_of-text}
use Rattle.cg_cgroup.proofs.PathParents.{inside-take}
use Rattle.cg_cgroup.proofs.PathLaws.{inside_decides, inside-length, common-longest, common-take, common-take_first, common-inside_first, common-inside_second}

-- paths are the same where their texts are
pub same_text_path : (p q : Names) (s t : List ℕ) → list_all is_name p ≡ true → list_all is_name q ≡ true → names_text p ≡ s
    → names_text q ≡ t → (r : Bool) → r ≡ pointwise nat_eq s t → r ≡ same_path p q
same_text_path p q s t h k e f r d =
    let by_text : s ≡ t → p ≡ q = λ g. sym (names_of-text p h) ∙ ap names_of (e ∙ g ∙ sym f) ∙ names_of-text q k in
    let by_path : p ≡ q → s ≡ t = λ g. sym e ∙ ap names_text g ∙ f in
    d ∙ same_from_decides (pointwise nat_eq s t) (same_path p q) (Decides-like (pointwise nat_eq s t) by_text by_path (bytes_decides s t))
    (same_path_decides p q)

-- ---- the first names of two paths

-- the first names are inside where they are the same
pub inside_shared : (p q : Names) (len : ℕ) → len ≤ length p → len ≤ length q → same_path (take len p) (take len q) ≡ inside (take len p) q
inside_shared p q len h k =
    let n = length-take-le len p h in
    let decides = inside_decides (take len p) q in
    let there : take len p ≡ take len q → inside (take len p) q ≡ true = λ e. decides.1 (e ∙ ap (λ (x : ℕ). take x q) (sym n)) in
    let back : inside (take len p) q ≡ true → take len p ≡ take len q = λ e. decides.0 e ∙ ap (λ (x : ℕ). take x q) n in
    same_from_decides (same_path (take len p) (take len q)) (inside (take len p) q) (same_path_decides (take len p) (take len q))
    (back, there)

inside_longer : (p q : Names) → length q < length p → inside p q ≡ false
inside_longer [] q h = absurd (omega arith)
inside_longer (x ∷ p) [] h = refl
inside_longer (x ∷ p) (y ∷ q) h =
    elim (inside (x ∷ p) (y ∷ q)) as (λ t. inside (x ∷ p) (y ∷ q) ≡ t → t ≡ false)
    [ true ↦ λ e. absurd (omega (arith, inside-length (x ∷ p) (y ∷ q) e)) | false ↦ λ e. refl ] refl

pub shorter_holds_none : (p q : Names) (len : ℕ) → len ≤ length p → length q < len → false ≡ inside (take len p) q
shorter_holds_none p q len h k = sym (inside_longer (take len p) q (omega (arith, length-take-le len p h)))

common_bounds : (p q : Names) → (length (common p q) ≤ length p) × (length (common p q) ≤ length q)
common_bounds p q =
    (inside-length (common p q) p (common-inside_first p q), inside-length (common p q) q (common-inside_second p q))

-- ---- the search of `shared_len`, where p is compared to the first `len` names of q

-- as many names are common as the length of first names that are the same
pub shared_low : (p q : Names) (len m : ℕ) → m ≤ length p → m ≤ len → len ≤ length q → (t : Bool) → t ≡ same_path (take m p) (take m q)
    → t ≡ true → m ≤ length (common p (take len q))
shared_low p q len m h k l t d e =
    let front = take-take m len q k in
    let within = inside_shared p (take len q) m h (omega (arith, length-take-le len q l)) in
    let same : same_path (take m p) (take m (take len q)) ≡ true = ap (same_path (take m p)) front ∙ sym d ∙ e in
    omega (
      arith,
      inside-length (take m p) (common p (take len q)) (common-longest (take m p) p (take len q) (inside-take m p) (sym within ∙ same)),
      length-take-le m p h,
    )

-- and fewer than the length of first names that aren't
pub shared_high : (p q : Names) (len m : ℕ) → m ≤ len → (t : Bool) → t ≡ same_path (take m p) (take m q) → t ≡ false
    → length (common p (take len q)) < m
shared_high p q len m k t d e =
    let n = length (common p (take len q)) in
    ⊎_elim
    (λ less. less)
    (λ more.
    let ends : take n p ≡ take n (take len q) = sym (common-take_first p (take len q)) ∙ common-take p (take len q) in
    let same : take m p ≡ take m q =
    sym (take-take m n p more) ∙ ap (take m) ends ∙ take-take m n (take len q) more ∙ take-take m len q k in
    absurd (true≢false (sym ((same_path_decides (take m p) (take m q)).1 same) ∙ sym d ∙ e)))
    (cases_lt n m)

pub shared_within : (p q : Names) (len : ℕ) → len ≤ length q
    → (length (common p (take len q)) ≤ length p) × (length (common p (take len q)) ≤ len)
shared_within p q len l =
    let bounds = common_bounds p (take len q) in
    (bounds.0, omega (arith, bounds.1, length-take-le len q l))

-- what is said of the first m names of p is said of the first m of its first names
pub shared_front : (p q : Names) (own m : ℕ) → m ≤ own → (t : Bool) → t ≡ same_path (take m p) (take m q)
    → t ≡ same_path (take m (take own p)) (take m q)
shared_front p q own m h t d = d ∙ ap (λ (x : Names). same_path x (take m q)) (sym (take-take m own p h))

-- ---- the order of paths from where they part

then_first : (r s : Ordering) → is_eq r ≡ false → ordering_then r s ≡ r
then_first Less s h = refl
then_first Equal s h = absurd (true≢false h)
then_first Greater s h = refl

then_second : (r s : Ordering) → is_eq r ≡ true → ordering_then r s ≡ s
then_second Less s h = absurd (true≢false (sym h))
then_second Equal s h = refl
then_second Greater s h = absurd (true≢false (sym h))

-- where they part, the names decide
pub cmp_parted : (p q : Names) → length (common p q) < length p → length (common p q) < length q
    → path_cmp p q ≡ slice_cmp nat_cmp (get_or p (length (common p q)) []) (get_or q (length (common p q)) [])
cmp_parted [] q h k = absurd (omega arith)
cmp_parted (a ∷ p) [] h k = absurd (omega arith)
cmp_parted (a ∷ p) (b ∷ q) h k =
    elim (same_name a b) as (λ t. same_name a b ≡ t → length (cond t (a ∷ common p q) []) < length (a ∷ p)
    → length (cond t (a ∷ common p q) []) < length (b ∷ q) → path_cmp (a ∷ p) (b ∷ q)
    ≡ slice_cmp nat_cmp (get_or (a ∷ p) (length (cond t (a ∷ common p q) [])) [])
    (get_or (b ∷ q) (length (cond t (a ∷ common p q) [])) [])) [
      | true ↦
          λ e l m. then_second (slice_cmp nat_cmp a b) (path_cmp p q) (sym (texts_ties a b) ∙ e)
          ∙ cmp_parted p q (omega arith) (omega arith)
      | false ↦ λ e l m. then_first (slice_cmp nat_cmp a b) (path_cmp p q) (sym (texts_ties a b) ∙ e)
    ] refl h k

-- where one of the two ends there, the lengths do
pub cmp_ended : (p q : Names) → (length (common p q) ≡ length p) ⊎ (length (common p q) ≡ length q)
    → path_cmp p q ≡ nat_cmp (length p) (length q)
cmp_ended [] [] h = refl
cmp_ended [] (b ∷ q) h = grind (arith, nat_tests)
cmp_ended (a ∷ p) [] h = grind (arith, nat_tests)
cmp_ended (a ∷ p) (b ∷ q) h =
    elim (same_name a b) as (λ t. same_name a b ≡ t
    → (length (cond t (a ∷ common p q) []) ≡ length (a ∷ p)) ⊎ (length (cond t (a ∷ common p q) []) ≡ length (b ∷ q))
    → path_cmp (a ∷ p) (b ∷ q) ≡ nat_cmp (length (a ∷ p)) (length (b ∷ q))) [
      | true ↦
          λ e l. then_second (slice_cmp nat_cmp a b) (path_cmp p q) (sym (texts_ties a b) ∙ e)
          ∙ cmp_ended p q (⊎_elim (λ m. inl (omega arith)) (λ m. inr (omega arith)) l) ∙ grind (arith, nat_tests)
      | false ↦ λ e l. ⊎_elim (λ m. absurd (omega arith)) (λ m. absurd (omega arith)) l
    ] refl h

-- ---- the same with p compared to the first `len` names of q, and n how many they have in common

pub order_ended : (p q : Names) (len n m : ℕ) (o : Ordering) → n ≡ length (common p (take len q)) → m ≡ length p → len ≤ length q
    → (n ≡ m) ⊎ (n ≡ len) → o ≡ nat_cmp m len → o ≡ path_cmp p (take len q)
order_ended p q len n m o d e l ends t =
    let k = length-take-le len q l in
    t ∙ (λ i. nat_cmp (e i) (sym k i))
    ∙ sym (cmp_ended p (take len q) (⊎_elim (λ a. inl (sym d ∙ a ∙ e)) (λ b. inr (sym d ∙ b ∙ sym k)) ends))

pub order_parted : (p q : Names) (len n : ℕ) (a b : Name) (o : Ordering) → n ≡ length (common p (take len q)) → n < length p → n < len
    → len ≤ length q → a ≡ get_or p n [] → b ≡ get_or q n [] → o ≡ slice_cmp nat_cmp a b → o ≡ path_cmp p (take len q)
order_parted p q len n a b o d h k l e f t =
    let m : n < length (take len q) = omega (arith, length-take-le len q l) in
    let parted = cmp_parted p (take len q) (omega arith) (omega arith) in
    let names : slice_cmp nat_cmp (get_or p n []) (get_or (take len q) n []) ≡ path_cmp p (take len q) =
    ap (λ (x : ℕ). slice_cmp nat_cmp (get_or p x []) (get_or (take len q) x [])) d ∙ sym parted in
    t ∙ (λ i. slice_cmp nat_cmp (e i) ((f ∙ sym (get_or-take len q n [] k)) i)) ∙ names
