-- What a mode opens to its owner, and what a user has made.
use Rattle.std.proofs.Common.{◌≡◌, ℕ, ◌≤◌, true, refl, arith}
use Rattle.std.proofs.lemmas.Bool.{eq-eqb}
use Rattle.std.proofs.lemmas.Nat.{or_lt}
use Rattle.cg_cgroup.specs.Identity.{Identity}
use Rattle.cg_cgroup.specs.Users.{writes, has_bit, opened, entry_made_by}

pub opened-le : (mode : ℕ) → mode ≤ 511 → opened mode ≤ 511
opened-le mode h = omega (arith, or_lt 9 mode 128 (omega arith) (omega arith))

-- a user writes what they have made
pub writes-made_by : (user : Identity) (mode : ℕ) → has_bit mode 128 ≡ true → writes user (entry_made_by user mode) ≡ true
unfolding writes
writes-made_by user mode h = rw (eq-eqb user.uid user.uid refl) h
