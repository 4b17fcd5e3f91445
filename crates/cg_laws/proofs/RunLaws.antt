-- Runs of users for whom the guards hold, and of others.
use Rattle.std.proofs.Common.{◌≡◌, ◌≢◌, zero, suc, ◌&&◌, List, [], ◌∷◌, refl, sym, ◌∙◌, subst, arith}
use Rattle.std.proofs.lemmas.Bool.{and_parts, and_from}
use Rattle.std.specs.List.{Contains}
use Rattle.cg_cgroup.specs.Paths.{Names}
use Rattle.cg_cgroup.specs.Identity.{Identity}
use Rattle.cg_model.specs.States.{State}
use Rattle.cg_model.specs.WellFormed.{IsWellFormed}
use Rattle.cg_model.specs.Bars.{bars}
use Rattle.cg_model.specs.Steps.{after, after_all, Deed}
use Rattle.cg_model.specs.declared.operation.Op.{Op}
use Rattle.cg_model.specs.declared.outcome.Refusal.{Refusal}
use Rattle.cg_model.proofs.ClauseLaws.{no_parts, no_unless}
use Rattle.cg_model.proofs.StepFormed.{after-barred}
use Rattle.cg_model.specs.Limits.{limits, fits_descendants, fits_depth}
use Rattle.cg_model.specs.Guards.{GuardsHold, over_failures, IsSubtree}
use Rattle.cg_laws.specs.Guarding.{AreUntouched}
use Rattle.cg_laws.specs.Sound.{IsSound}
use Rattle.cg_laws.proofs.Steps.{sound-formed, sound-after, kept-after, untouched-guarded, hold-untouched}
use Rattle.cg_model.proofs.Edges.{none-crosses-same}
use Rattle.cg_model.specs.Held.{IsHeld, by_user, IsContained, AreBy}
use Rattle.cg_model.specs.Strangers.{GuardsHoldForAll}
use Rattle.cg_model.proofs.BrokenLaws.{IsWhole, unless-so}
use Rattle.cg_laws.proofs.Ways.{way-after_all, held-on_way}

-- a state on the way, at which the guards of a subtree hold for each of these users
pub record IsGuarded (users : List Identity) (start st : State) (subtree : Names) : Type 0 where
  pub sound : IsSound st
  pub is : IsSubtree st subtree
  pub limits : limits st subtree ≡ limits start subtree
  pub guards : GuardsHoldForAll st users subtree

pub guarded-start : (users : List Identity) (st : State) (subtree : Names) → IsWellFormed st → IsSubtree st subtree
    → GuardsHoldForAll st users subtree → IsGuarded users st st subtree
guarded-start users st subtree formed is guards = record { sound = sound-formed st formed; is = is; limits = refl; guards = guards }

module _ (users : List Identity) (start : State) (subtree : Names) where
  -- a step that touches no guarded entry and breaks nothing, whoever makes it
  pub guarded-on : (st : State) → IsGuarded users start st subtree → (user : Identity) (op : Op)
      → AreUntouched st (after st user op) subtree → IsWhole (limits start subtree) st (after st user op) subtree
      → IsGuarded users start (after st user op) subtree
  guarded-on st at user op untouched whole =
      let fits : over_failures (after st user op) subtree ≡ [] = unless-so _ _ (and_from _ _ whole.descendants whole.depth) in
      record {
        sound = sound-after st user op at.sound;
        is = (whole.there, at.is.1);
        limits = whole.limits;
        guards = λ other named. hold-untouched st (after st user op) other subtree (at.guards other named) untouched fits;
      }

  -- a refused step
  pub guarded-barred : (st : State) → IsGuarded users start st subtree → (user : Identity) (op : Op) (bar : Refusal) (others : List Refusal)
      → bars st user op ≡ bar ∷ others → IsGuarded users start (after st user op) subtree
  guarded-barred st at user op bar others is = subst (λ s. IsGuarded users start s subtree) (sym (after-barred st user op bar others is)) at

  -- a step of one of the users breaks nothing
  pub whole-own : (st : State) → IsGuarded users start st subtree → (user : Identity) → Contains users user → (op : Op)
      → IsWhole (limits start subtree) st (after st user op) subtree
  whole-own st at user named op =
      let kept = kept-after st user subtree op at.sound at.is (at.guards user named) in
      record { there = kept.there; edge = kept.edge; limits = kept.limits ∙ at.limits; descendants = kept.descendants; depth = kept.depth }

  -- and leaves the guards of all of them
  pub guarded-own : (st : State) → IsGuarded users start st subtree → (user : Identity) → Contains users user → (op : Op)
      → IsGuarded users start (after st user op) subtree
  guarded-own st at user named op =
      guarded-on st at user op (untouched-guarded st user subtree op at.sound at.is (at.guards user named)) (whole-own st at user named op)

  pub step-own : (st : State) → IsGuarded users start st subtree → (user : Identity) → Contains users user → (op : Op)
      → IsGuarded users start (after st user op) subtree × IsWhole (limits start subtree) st (after st user op) subtree
  step-own st at user named op = (guarded-own st at user named op, whole-own st at user named op)

  -- where nothing moves, nothing is broken
  pub whole-still : (st : State) → IsGuarded users start st subtree → (user : Identity) → Contains users user
      → IsWhole (limits start subtree) st st subtree
  whole-still st at user named =
      let fits =
      and_parts _ _ (no_unless (fits_descendants st subtree && fits_depth st subtree) _ (no_parts _ _ (at.guards user named)).1) in
      record { there = at.is.0; edge = none-crosses-same st subtree; limits = at.limits; descendants = fits.0; depth = fits.1 }

-- ---- runs of these users alone

pub a_member : (users : List Identity) → users ≢ [] → (user : Identity) × Contains users user
a_member [] some = absurd (some refl)
a_member (user ∷ users) some = (user, (0, omega arith, refl))

pub held-by : (users : List Identity) (st : State) (subtree : Names) → users ≢ [] → IsGuarded users st st subtree → (deeds : List Deed)
    → AreBy users deeds → IsHeld st deeds subtree
held-by users st subtree some at deeds all =
    let one = a_member users some in
    held-on_way users st subtree (λ s. IsGuarded users st s subtree) (step-own users st subtree) at
    (whole-still users st subtree st at one.0 one.1) deeds all

pub held-guarded : (st : State) (users : List Identity) (subtree : Names) (deeds : List Deed) → IsWellFormed st → IsSubtree st subtree
    → users ≢ [] → GuardsHoldForAll st users subtree → AreBy users deeds → IsHeld st deeds subtree
held-guarded st users subtree deeds formed is some guards all =
    held-by users st subtree some (guarded-start users st subtree formed is guards) deeds all

pub guarded-again : (st : State) (users : List Identity) (subtree : Names) (deeds : List Deed) → IsWellFormed st → IsSubtree st subtree
    → GuardsHoldForAll st users subtree → AreBy users deeds
    → IsSubtree (after_all st deeds) subtree × GuardsHoldForAll (after_all st deeds) users subtree
guarded-again st users subtree deeds formed is guards all =
    let end =
    way-after_all users st subtree (λ s. IsGuarded users st s subtree) (step-own users st subtree) st
    (guarded-start users st subtree formed is guards) deeds all in
    (end.is, end.guards)

-- ---- one user

alone : (user other : Identity) → Contains (user ∷ []) other → user ≡ other
alone user other (zero, below, is) = is
alone user other (suc i, below, is) = absurd (omega (arith, below))

some-one : (user : Identity) → user ∷ [] ≢ []
some-one user h = cc

pub all-own : (user : Identity) (ops : List Op) → AreBy (user ∷ []) (by_user user ops)
all-own user [] = tt
all-own user (op ∷ ops) = ((0, omega arith, refl), all-own user ops)

pub contained-guarded : (st : State) (user : Identity) (subtree : Names) → IsWellFormed st → IsSubtree st subtree
    → GuardsHold st user subtree → IsContained st user subtree
contained-guarded st user subtree formed is held ops =
    held-by (user ∷ []) st subtree (some-one user)
    (guarded-start (user ∷ []) st subtree formed is (λ other c. subst (λ u. GuardsHold st u subtree) (alone user other c) held))
    (by_user user ops) (all-own user ops)
