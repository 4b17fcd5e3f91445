-- A path and its parent.
use Rattle.std.proofs.Common.{◌≡◌, ℕ, zero, suc, ◌+◌, ◌-◌, ◌<◌, true, false, [], ◌∷◌, length, take, refl, sym, ap, ◌∙◌, true≢false, arith, eq-eqb, eqb-true, length-take-le}
use Rattle.std.specs.Cmp.{first_so, second_so}
use Rattle.std.specs.Cmp.Derive.{both_true}
use Rattle.std.specs.Cmp.Lexicographic.{bytes_decides, nat_list_eq_equiv}
use Rattle.cg_cgroup.specs.Paths.{Names, same_name, same_path, is_root, inside, parent, is_child}
use Rattle.cg_cgroup.proofs.PathOrder.{same_path-not}

pub inside-take : (n : ℕ) (path : Names) → inside (take n path) path ≡ true
inside-take zero path = refl
inside-take (suc n) [] = refl
inside-take (suc n) (name ∷ path) = both_true (nat_list_eq_equiv.refl name) (inside-take n path)

pub inside-is : (top path : Names) → inside top path ≡ true → take (length top) path ≡ top
inside-is [] path h = refl
inside-is (name ∷ top) [] h = absurd (true≢false (sym h))
inside-is (name ∷ top) (other ∷ path) h =
    let names = (bytes_decides name other).0 (first_so _ _ h) in
    let rest = inside-is top path (second_so (same_name name other) _ h) in
    λ i. sym names i ∷ rest i

is_root-length : (path : Names) → is_root path ≡ false → 0 < length path
is_root-length [] h = absurd (true≢false h)
is_root-length (name ∷ path) h = omega arith

pub length-parent : (path : Names) → is_root path ≡ false → length (parent path) + 1 ≡ length path
length-parent path h =
    let long = is_root-length path h in
    omega (arith, length-take-le (length path - 1) path (omega arith))

-- a path other than the root is a child of its parent, and of no other
pub is_child-parent : (path : Names) → is_root path ≡ false → is_child (parent path) path ≡ true
is_child-parent path h = both_true (inside-take (length path - 1) path) (eq-eqb _ _ (sym (length-parent path h)))

pub parent-is_child : (top path : Names) → is_child top path ≡ true → parent path ≡ top
parent-is_child top path h =
    let level = eqb-true (length path) (length top + 1) (second_so (inside top path) _ h) in
    let shorter : length path - 1 ≡ length top = omega arith in
    ap (λ n. take n path) shorter ∙ inside-is top path (first_so _ _ h)

pub is_root-is_child : (top path : Names) → is_child top path ≡ true → is_root path ≡ false
is_root-is_child top [] h =
    let level = eqb-true 0 (length top + 1) (second_so (inside top []) _ h) in
    absurd (omega arith)
is_root-is_child top (name ∷ path) h = refl

pub is_root-is : (path : Names) → is_root path ≡ true → path ≡ []
is_root-is [] h = refl
is_root-is (name ∷ path) h = absurd (true≢false (sym h))

-- no path but the root is its own parent
pub parent-other : (path : Names) → is_root path ≡ false → same_path path (parent path) ≡ false
parent-other path h =
    same_path-not path (parent path) (λ is. let level = ap length is in let longer = length-parent path h in absurd (omega arith))

pub parent-root : (path : Names) → is_root path ≡ true → parent path ≡ path
parent-root [] h = refl
parent-root (name ∷ path) h = absurd (true≢false (sym h))
