-- Users who are the same, and lists that are read and of which each element counts once. Own.
use Rattle.std.specs.Prelude.{◌≡◌, Bool, ◌&&◌, nat_eq, List, Result, Ok}
use Rattle.std.specs.Cmp.Lexicographic.{pointwise}
use Rattle.cg_cgroup.specs.Identity.{Identity}
use Rattle.cg_model.specs.Once.{once}
use Rattle.cg_faults.specs.declared.fault.CliFault.{CliFault}

-- the same uid, and the same gids in the same order
abbrev pub same_user : Identity → Identity → Bool
same_user user other = nat_eq user.uid other.uid && pointwise nat_eq user.gids other.gids

-- All of it is read, and each counts once.
abbrev pub IsReadOnce : {A : Type 0} → (A → A → Bool) → Result (List A) CliFault → List A → Type 0
IsReadOnce {A} same given read = (all : List A) × (given ≡ Ok all) × (read ≡ once same all)
