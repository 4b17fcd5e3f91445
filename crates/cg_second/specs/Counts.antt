-- How an answer is found: nobody has to believe it.
-- Counts of the cgroups before each place, in the order of their paths.
use Rattle.std.specs.Prelude.{◌≡◌, ◌<◌, ◌≤◌, ℕ, ◌+◌, Bool, List, [], length, take, count_by, slice_index, slice_index_or}
use Rattle.cg_cgroup.specs.Paths.{Names}
use Rattle.cg_cgroup.specs.Identity.{Identity}
use Rattle.cg_cgroup.specs.declared.files.Controller.TheVariants.{Memory}
use Rattle.cg_model.specs.States.{State, paths_of, count_below}
use Rattle.cg_model.specs.WellFormed.{IsWellFormed}
use Rattle.cg_second.specs.Greatest.{greatest}
use Rattle.cg_second.specs.Anchors.{is_fixed}

-- for each number up to one, how many of the first so many pass a test
abbrev pub AreCounts : (Names → Bool) → List Names → ℕ → List ℕ → Type 0
AreCounts test paths n counts = (length counts ≡ n + 1) × ((k : ℕ) → k ≤ n → slice_index counts k ≡ count_by test (take k paths))

-- for each of the first so many cgroups, the place of the next that isn't below it
abbrev pub AreEnds : State → ℕ → List ℕ → Type 0
AreEnds st n ends = (length ends ≡ n) × ((k : ℕ) → k < n → slice_index ends k ≡ k + 1 + count_below st (slice_index_or (paths_of st) k []))

-- counts of the first so many, and how many these are
pub record IsTally (test : Names → Bool) (paths : List Names) (n : ℕ) (counts : List ℕ) (count : ℕ) : Type 0 where
  pub each : AreCounts test paths n counts
  pub last : count ≡ count_by test (take n paths)

-- All cgroups, where what lies below each ends, and how many before each place stay and how many go on enabling memory.
pub record IsSurvey (st : State) (users : List Identity) (paths : List Names) (ends kept fixed : List ℕ) : Type 0 where
  pub formed : IsWellFormed st
  pub all : paths ≡ paths_of st
  pub until : AreEnds st (length (paths_of st)) ends
  pub staying : AreCounts (greatest st users).stays (paths_of st) (length (paths_of st)) kept
  pub enabling : AreCounts (is_fixed st users Memory) (paths_of st) (length (paths_of st)) fixed
