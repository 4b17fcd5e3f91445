-- Runs of users against whom the guards of a subtree hold, and of others among them.
use Rattle.std.proofs.Common.{◌≡◌, ℕ, zero, suc, true, false, List, [], ◌∷◌, length, take, refl, sym, ap, ◌∙◌, subst, Option, Some, None, option_map, arith, take_all, ⊎_elim}
use Rattle.std.specs.List.{Contains}
use Rattle.cg_cgroup.specs.Paths.{Names, parent}
use Rattle.cg_cgroup.specs.Identity.{Identity}
use Rattle.cg_cgroup.specs.Users.{reaches}
use Rattle.machine.specs.Machines.{File, Dir, Procs, Control, Limit, Inode, Machine, has, value_of, entry_is, Act, done, step, run, Fits, Stands, EdgeHolds, IsContainedAgainst, IsPresent, IsClosed, IsGuarded}
use Rattle.machine.specs.Several.{Turn, run_of_all, AreTurnsOf, IsContainedAgainstAll, IsGuardedAgainstAll, StandsThroughout, OthersLeaveClosed}
use Rattle.machine.proofs.Acts.{step-by}
use Rattle.machine.proofs.Untouched.{Untouched, untouched-done, present-done}
use Rattle.machine.proofs.Rooms.{fits-done}
use Rattle.machine.proofs.Edges.{edge-same, edge-done}

-- ---- what is untouched

module _ (machine new : Machine) (subtree : Names) (untouched : Untouched machine new subtree) where
  values-same : (limit : ℕ) → value_of new subtree limit ≡ value_of machine subtree limit
  values-same limit = ap (option_map (λ inode. inode.value)) (untouched.limits limit)

  closed-same : (user : Identity) → IsClosed machine user subtree → IsClosed new user subtree
  closed-same user closed =
      let still = λ (path : Names) (file : File) (same : new.inode path file ≡ machine.inode path file)
      (shut : entry_is machine path file (reaches user) ≡ false).
      ap (λ (found : Option Inode). elim found [ None ↦ false | Some inode ↦ reaches user inode.entry ]) same ∙ shut in
      record {
        above = λ len shorter. still (take len subtree) Procs (untouched.above len shorter) (closed.above len shorter);
        limits = λ limit. still subtree (Limit limit) (untouched.limits limit) (closed.limits limit);
        control = still (parent subtree) Control untouched.control closed.control;
        dir = still (parent subtree) Dir untouched.dir closed.dir;
      }

-- ---- an act of one of the users

-- On the way of a run the subtree and all above it is there, its limits are those of the start, and its guards hold.
pub record IsKeptFor (users : List Identity) (start machine : Machine) (subtree : Names) : Type 0 where
  pub present : IsPresent machine subtree
  pub limits : (limit : ℕ) → value_of machine subtree limit ≡ value_of start subtree limit
  pub fits : Fits machine subtree
  pub closed : (user : Identity) → Contains users user → IsClosed machine user subtree

module _ (users : List Identity) (start : Machine) (subtree : Names) where
  there : (machine : Machine) → IsPresent machine subtree → has machine subtree ≡ true
  there machine present =
      ap (has machine) (sym (take_all (length subtree) subtree (omega arith))) ∙ present (length subtree) (omega arith)

  stands : (machine : Machine) → IsKeptFor users start machine subtree → Stands start machine subtree
  stands machine kept = record { there = there machine kept.present; limits = kept.limits; fits = kept.fits }

  pub step-kept : (machine : Machine) → IsKeptFor users start machine subtree → (user : Identity) → Contains users user → (act : Act)
      → IsKeptFor users start (step machine user act) subtree × EdgeHolds machine (step machine user act) subtree
  step-kept machine kept user named act =
      step-by (λ new. IsKeptFor users start new subtree × EdgeHolds machine new subtree) machine user act
      (λ free.
      let closed = kept.closed user named in
      let new = done machine act in
      let untouched = untouched-done machine user subtree kept.present closed act free in
      let values = values-same machine new subtree untouched in (
        record {
          present = untouched.present;
          limits = λ limit. values limit ∙ kept.limits limit;
          fits = fits-done machine user subtree act free values kept.fits;
          closed = λ other listed. closed-same machine new subtree untouched other (kept.closed other listed);
        },
        edge-done machine user subtree closed act free,
      ))
      (kept, edge-same machine subtree)

  -- ---- an act of another

  -- that breaks nothing, and leaves what is guarded out of the users' reach
  other-kept : (machine : Machine) → IsKeptFor users start machine subtree → (user : Identity) (act : Act)
      → Stands start (step machine user act) subtree
      → ((other : Identity) → Contains users other → IsClosed (step machine user act) other subtree)
      → IsKeptFor users start (step machine user act) subtree
  other-kept machine kept user act standing closed = record {
    present = step-by (λ new. has new subtree ≡ true → IsPresent new subtree) machine user act
        (present-done machine user subtree kept.present act) (λ _. kept.present) standing.there;
    limits = standing.limits;
    fits = standing.fits;
    closed = closed;
  }

  -- ---- runs

  pub run-kept : (machine : Machine) → IsKeptFor users start machine subtree → (turns : List Turn) → AreTurnsOf users turns
      → IsKeptFor users start (run_of_all machine turns) subtree
  run-kept machine kept [] all = kept
  run-kept machine kept (turn ∷ turns) all =
      run-kept (step machine turn.0 turn.1) (step-kept machine kept turn.0 all.0 turn.1).0 turns all.1

  others-kept : (machine : Machine) → IsKeptFor users start machine subtree → (turns : List Turn)
      → StandsThroughout start machine turns subtree → OthersLeaveClosed users machine turns subtree
      → IsKeptFor users start (run_of_all machine turns) subtree
  others-kept machine kept [] standing leaving = kept
  others-kept machine kept (turn ∷ turns) standing leaving =
      others-kept (step machine turn.0 turn.1)
      (⊎_elim (λ named. (step-kept machine kept turn.0 named turn.1).0)
      (λ closed. other-kept machine kept turn.0 turn.1 standing.0 closed) leaving.0) turns standing.2 leaving.1

  -- what the next act of one of the users leaves
  pub next-stands : (machine : Machine) → IsKeptFor users start machine subtree → (user : Identity) → Contains users user → (act : Act)
      → Stands start (step machine user act) subtree × EdgeHolds machine (step machine user act) subtree
  next-stands machine kept user named act =
      let next = step-kept machine kept user named act in
      (stands (step machine user act) next.0, next.1)

-- ---- the theorems

module _ (machine : Machine) (users : List Identity) (subtree : Names) (present : IsPresent machine subtree)
    (guarded : IsGuardedAgainstAll machine users subtree) where
  kept-start : (user : Identity) → Contains users user → IsKeptFor users machine machine subtree
  kept-start user named = record {
    present = present;
    limits = λ limit. refl;
    fits = (guarded user named).fits;
    closed = λ other listed. (guarded other listed).closed;
  }

  pub contained-all : IsContainedAgainstAll machine users subtree
  contained-all turns user act all named =
      let kept = run-kept users machine subtree machine (kept-start user named) turns all in (
        stands users machine subtree (run_of_all machine turns) kept,
        (step-kept users machine subtree (run_of_all machine turns) kept user named act).1,
      )

  pub strangers-all : (turns : List Turn) (user : Identity) (act : Act)
      → StandsThroughout machine machine turns subtree → OthersLeaveClosed users machine turns subtree → Contains users user
      → Stands machine (step (run_of_all machine turns) user act) subtree
      × EdgeHolds (run_of_all machine turns) (step (run_of_all machine turns) user act) subtree
  strangers-all turns user act standing leaving named =
      next-stands users machine subtree (run_of_all machine turns)
      (others-kept users machine subtree machine (kept-start user named) turns standing leaving) user named act

  pub again-all : (turns : List Turn) → AreTurnsOf users turns
      → IsPresent (run_of_all machine turns) subtree × IsGuardedAgainstAll (run_of_all machine turns) users subtree
  again-all [] all = (present, guarded)
  again-all (turn ∷ turns) all =
      let kept = run-kept users machine subtree machine (kept-start turn.0 all.0) (turn ∷ turns) all in
      (kept.present, λ user named. record { closed = kept.closed user named; fits = kept.fits })

-- one user is a list of one
pub contained-one : (machine : Machine) (user : Identity) (subtree : Names) → IsPresent machine subtree → IsGuarded machine user subtree
    → IsContainedAgainst machine user subtree
contained-one machine user subtree present guarded acts act =
    subst (λ now. Stands machine now subtree × EdgeHolds now (step now user act) subtree) (same machine acts)
    (contained-all machine (user ∷ []) subtree present
    (λ other listed. subst (λ it. IsGuarded machine it subtree) (alone other listed) guarded)
    (turns acts) user act (all acts) (0, omega arith, refl))
  where
    turns : List Act → List Turn
    turns [] = []
    turns (act ∷ acts) = (user, act) ∷ turns acts

    all : (acts : List Act) → AreTurnsOf (user ∷ []) (turns acts)
    all [] = tt
    all (act ∷ acts) = ((0, omega arith, refl), all acts)

    same : (start : Machine) (acts : List Act) → run_of_all start (turns acts) ≡ run start user acts
    same start [] = refl
    same start (act ∷ acts) = same (step start user act) acts

    alone : (other : Identity) → Contains (user ∷ []) other → user ≡ other
    alone other (zero, below, is) = is
    alone other (suc i, below, is) = absurd (omega (arith, below))
