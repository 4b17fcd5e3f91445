-- Prefixes of paths as the code has them: so many first names.
use Rattle.std.proofs.Common.{◌≡◌, ℕ, ◌+◌, ◌-◌, ◌<◌, ◌≤◌, true, false, [], ◌∷◌, length, take, refl, sym, ap, arith, take_all}
use Rattle.cg_cgroup.specs.Paths.{Names, is_root, parent, common}
use Rattle.cg_cgroup.proofs.PathLaws.{common-take, common-inside_second, inside-length}

-- the common ancestor, as first names of the second path
pub take_common : (p q : Names) → take (length (common p q)) q ≡ common p q
take_common p q = sym (common-take p q)

pub length_common : (p q : Names) → length (common p q) ≤ length q
length_common p q = inside-length (common p q) q (common-inside_second p q)

pub take_parent : (path : Names) (len : ℕ) → len + 1 ≡ length path → take len path ≡ parent path
take_parent path len h = ap (λ n. take n path) (let e : len ≡ length path - 1 = omega arith in e)

pub take_whole : (path : Names) (len : ℕ) → len ≡ length path → take len path ≡ path
take_whole path len h = take_all len path (omega arith)

-- the root is the path of no names

pub root_of_length : (p : Names) → length p ≡ 0 → is_root p ≡ true
root_of_length [] h = refl
root_of_length (name ∷ names) h = absurd (omega arith)

pub no_root_of_length : (p : Names) → 0 < length p → is_root p ≡ false
no_root_of_length [] h = absurd (omega arith)
no_root_of_length (name ∷ names) h = refl
