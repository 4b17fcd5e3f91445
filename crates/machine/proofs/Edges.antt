-- No process crosses the edge of a subtree by an act of a user to whom it is closed.
use Rattle.std.proofs.Common.{◌≡◌, ℕ, Bool, true, false, cond, length, take, nat_eq, refl, sym, ap, ◌∙◌, true≢false, Option, Some, None, is_none, is_some, eqb-true}
use Rattle.std.proofs.lemmas.Bool.{true_from_ne_false, false_from_ne_true}
use Rattle.cg_cgroup.specs.Paths.{Names, inside, common}
use Rattle.cg_cgroup.specs.Identity.{Identity}
use Rattle.cg_cgroup.specs.Users.{writes}
use Rattle.cg_cgroup.proofs.Options.{same_some}
use Rattle.cg_cgroup.proofs.PathLaws.{common_comm}
use Rattle.machine.specs.Machines.{Procs, Machine, entry_is, Act, Move, Mkdir, Rmdir, Write, Chmod, Enable, Fork, Exit, lets, placed, done, EdgeHolds, IsClosed}
use Rattle.machine.proofs.Lists.{common-above}
use Rattle.machine.proofs.Acts.{unwritten}

-- where each process stays where it is
pub edge-same : (machine : Machine) (subtree : Names) → EdgeHolds machine machine subtree
edge-same machine subtree pid from to was is = ap (inside subtree) (same_some from to (sym was ∙ is))

-- where one process is placed
edge-placed : (machine : Machine) (subtree : Names) (pid : ℕ) (place : Option Names)
    → ((from to : Names) → machine.cgroup pid ≡ Some from → place ≡ Some to → inside subtree from ≡ inside subtree to)
    → EdgeHolds machine (record machine { cgroup = placed pid place machine.cgroup }) subtree
edge-placed machine subtree pid place side other from to was is =
    elim (nat_eq pid other) as (λ b. nat_eq pid other ≡ b → cond b place (machine.cgroup other) ≡ Some to
    → inside subtree from ≡ inside subtree to) [
      | true ↦ λ same now. side from to (ap machine.cgroup (eqb-true pid other same) ∙ was) now
      | false ↦ λ _ now. edge-same machine subtree other from to was now
    ] refl is

module _ (machine : Machine) (user : Identity) (subtree : Names) (closed : IsClosed machine user subtree) where
  never_passes : {P : Type 0} → (from to : Names) → inside subtree from ≡ true → inside subtree to ≡ false → (at : Names)
      → at ≡ common from to → entry_is machine at Procs (writes user) ≡ true → P
  never_passes from to within without at is can =
      let above = common-above subtree from to within without in
      unwritten machine user (take (length (common from to)) subtree) Procs (closed.above (length (common from to)) above.0)
      (ap (λ (p : Names). entry_is machine p Procs (writes user)) (sym (is ∙ above.1)) ∙ can)

  -- the common ancestor of a place inside and one outside is above the subtree
  edge-move : (pid : ℕ) (to : Names) → lets machine user (Move pid to) ≡ true → EdgeHolds machine (done machine (Move pid to)) subtree
  edge-move pid to free = edge-placed machine subtree pid (Some to) (λ from other was is.
      let can : entry_is machine (common from other) Procs (writes user) ≡ true =
      (λ i. entry_is machine (common from (sym (same_some to other is) i)) Procs (writes user))
      ∙ sym (ap (λ place. elim place as (λ (_ : Option Names). Bool)
      [ None ↦ false | Some from ↦ entry_is machine (common from to) Procs (writes user) ]) was) ∙ free in
      elim (inside subtree from) as (λ b. inside subtree from ≡ b → b ≡ inside subtree other) [
        | true ↦
            λ within. sym (true_from_ne_false (inside subtree other)
            (λ without. never_passes from other within without (common from other) refl can))
        | false ↦
            λ without. sym (false_from_ne_true (inside subtree other)
            (λ within. never_passes other from within without (common from other) (common_comm from other) can))
      ] refl)

  -- a process that is made was nowhere
  edge-fork : (parent child : ℕ) → lets machine user (Fork parent child) ≡ true
      → EdgeHolds machine (done machine (Fork parent child)) subtree
  edge-fork parent child free = edge-placed machine subtree child (machine.cgroup parent) (λ from to was is.
      absurd (true≢false (sym free ∙ ap is_none was)))

  edge-exit : (pid : ℕ) → EdgeHolds machine (done machine (Exit pid)) subtree
  edge-exit pid = edge-placed machine subtree pid None (λ from to was is. absurd (true≢false (sym (ap is_some is))))

  pub edge-done : (act : Act) → lets machine user act ≡ true → EdgeHolds machine (done machine act) subtree
  edge-done (Move pid to) free = edge-move pid to free
  edge-done (Mkdir path made) free = edge-same machine subtree
  edge-done (Rmdir path) free = edge-same machine subtree
  edge-done (Write path limit values) free = edge-same machine subtree
  edge-done (Chmod path file gid mode) free = edge-same machine subtree
  edge-done (Enable path made) free = edge-same machine subtree
  edge-done (Fork parent child) free = edge-fork parent child free
  edge-done (Exit pid) free = edge-exit pid
