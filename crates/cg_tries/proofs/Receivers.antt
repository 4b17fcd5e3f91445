-- The first places to which a process goes over the edge, among those to which one may come.
use Rattle.std.proofs.Common.{◌≡◌, Bool, true, false, ◌&&◌, not, find, refl, ◌∙◌}
use Rattle.cg_cgroup.specs.Paths.{Names, inside}
use Rattle.cg_cgroup.specs.Identity.{Identity}
use Rattle.cg_model.specs.States.{State, paths_of}
use Rattle.cg_model.specs.Bars.{passes}
use Rattle.cg_model.specs.Receiving.{receives, receivers}
use Rattle.cg_model.proofs.Lists.{find-same, find-filter}
use Rattle.cg_tries.specs.Finding.{leads_out, can_leave_to, can_enter_at}

both_swapped : (a b : Bool) → a && b ≡ b && a
both_swapped true true = refl
both_swapped true false = refl
both_swapped false true = refl
both_swapped false false = refl

first_last : (a b c : Bool) → a && (b && c) ≡ b && (a && c)
first_last true b c = refl
first_last false true c = refl
first_last false false c = refl

module _ (st : State) (user : Identity) (subtree : Names) where
  pub first_left_to : find (leads_out st user subtree) (receivers st user) ≡ find (can_leave_to st user subtree) (paths_of st)
  first_left_to =
      find-filter (leads_out st user subtree) (receives st user) (paths_of st)
      ∙ find-same (λ p. receives st user p && leads_out st user subtree p) (can_leave_to st user subtree) (paths_of st)
      (λ p. first_last (receives st user p) (not (inside subtree p)) (passes st user subtree p))

  pub first_entered_at : find (inside subtree) (receivers st user) ≡ find (can_enter_at st user subtree) (paths_of st)
  first_entered_at =
      find-filter (inside subtree) (receives st user) (paths_of st)
      ∙ find-same (λ p. receives st user p && inside subtree p) (can_enter_at st user subtree) (paths_of st)
      (λ p. both_swapped (receives st user p) (inside subtree p))
