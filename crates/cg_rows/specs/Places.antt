-- How a tree is kept: nobody has to believe it.
-- How tables are kept: a list of entries whose keys rise. Where a key stands in it, or belongs.
use Rattle.std.specs.Prelude.{◌≡◌, ℕ, ◌<◌, ◌≤◌, Bool, true, false, List, length}
use Rattle.std.specs.List.{AllWithin, HoldsAt}
use Rattle.std.specs.List.Sorted.{IsPartitionPoint}
use Rattle.std.specs.declared.cmp.Ordering.{Ordering}
use Rattle.std.specs.declared.cmp.Ordering.TheVariants.{Less, Equal, Greater}

-- the key q is that of the entry at i
abbrev pub IsPlace : {K X : Type 0} → (K → K → Ordering) → K → List (K × X) → ℕ → Type 0
IsPlace R q es i = (i < length es) × HoldsAt (λ e. R e.0 q ≡ Equal) es i

-- the entries before i have keys below q, and all others have keys above it
abbrev pub IsGap : {K X : Type 0} → (K → K → Ordering) → K → List (K × X) → ℕ → Type 0
IsGap R q es i = (i ≤ length es) × IsPartitionPoint (λ e. R e.0 q ≡ Less) (λ e. R e.0 q ≡ Greater) es i

-- the entries from i up to j are those whose keys pass a test
pub record IsRange {K X : Type 0} (test : K → Bool) (es : List (K × X)) (i j : ℕ) : Type 0 where
  pub ordered : i ≤ j
  pub within : j ≤ length es
  pub before : AllWithin (λ e. test e.0 ≡ false) es 0 i
  pub between : AllWithin (λ e. test e.0 ≡ true) es i j
  pub after : AllWithin (λ e. test e.0 ≡ false) es j (length es)
