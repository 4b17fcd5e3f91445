-- The pair that an audit names is one of its lists, and its answer can be shown.
use Rattle.std.proofs.Common.{◌≡◌, refl, ℕ, suc, ◌<◌, List, [], ◌∷◌, ◌++◌, length, get_or, Option, Some, None, Ok, arith, subst, sym, ap, ◌∙◌, append_assoc, length-append}
use Rattle.std.specs.Prelude.{unwrap_or}
use Rattle.std.specs.List.{AllByRecursion, flat_map}
use Rattle.cg_cgroup.specs.Paths.{Names}
use Rattle.cg_cgroup.specs.Identity.{Identity}
use Rattle.cg_model.specs.States.{State}
use Rattle.cg_model.specs.Clauses.{first}
use Rattle.cg_model.specs.declared.fault.CheckFault.{CheckFault}
use Rattle.cg_model.specs.Answers.{answer}
use Rattle.cg_model.specs.AllAnswers.{pair_unless_contained, pairs_of, pairs_from, all_answers}
use Rattle.cg_model.specs.Checks.{subtree_faults, unless_fault, all_checked}
use Rattle.cg_model.specs.declared.answer.Answer.{Answer}
use Rattle.cg_model.specs.declared.answer.Answer.TheVariants as one
use Rattle.cg_model.specs.declared.answer.AllAnswer.{AllAnswer}
use Rattle.cg_model.specs.declared.answer.AllAnswer.TheVariants.{Contained}
use Rattle.cg_model.proofs.Lists.{all-append}
use Rattle.cg_report.specs.AnswerLines.{IsShown}
use Rattle.cg_report.specs.AuditLines.{subtree_at, IsPairShown}
use Rattle.cg_report.proofs.Shown.{answer_is_shown}

-- the one between two lists
at_front : (front : List Names) (subtree : Names) (others : List Names) → get_or (front ++ subtree ∷ others) (length front) [] ≡ subtree
at_front [] subtree others = refl
at_front (name ∷ front) subtree others = at_front front subtree others

module _ (st : State) (users : List Identity) (place : ℕ) (listed : place < length users) (user : Identity) where
  one_shown : (subtrees : List Names) (from : ℕ) (found : Answer) → from < length subtrees → IsShown (subtree_at subtrees from) found
      → AllByRecursion (IsPairShown users subtrees) (pair_unless_contained place from found)
  one_shown subtrees from one.Contained within shown = tt
  one_shown subtrees from (one.Escapes ops) within shown = ((listed, within, shown), tt)
  one_shown subtrees from (one.Unsettled failed) within shown = ((listed, within, shown), tt)

  -- the pairs of a user with the subtrees behind a front
  of_user_shown : (front subtrees all : List Names) (from : ℕ) → front ++ subtrees ≡ all → length front ≡ from
      → AllByRecursion (IsPairShown users all) (pairs_of st place user from subtrees)
  of_user_shown front [] all from whole count = tt
  of_user_shown front (subtree ∷ subtrees) all from whole count =
      let at : subtree_at all from ≡ subtree =
      ap (λ l. get_or l from []) (sym whole) ∙ ap (λ (n : ℕ). get_or (front ++ subtree ∷ subtrees) n []) (sym count)
      ∙ at_front front subtree subtrees in
      let within : from < length all = omega (arith, ap length whole, length-append front (subtree ∷ subtrees), count) in
      let shown = subst (λ s. IsShown s (answer st user subtree)) (sym at) (answer_is_shown st user subtree) in
      let more : length (front ++ subtree ∷ []) ≡ suc from = omega (arith, length-append front (subtree ∷ []), count) in
      all-append (IsPairShown users all) (pair_unless_contained place from (answer st user subtree))
      (pairs_of st place user (suc from) subtrees)
      (one_shown all from (answer st user subtree) within shown)
      (of_user_shown (front ++ subtree ∷ []) subtrees all (suc from) (append_assoc front (subtree ∷ []) subtrees ∙ whole) more)

of_users_shown : (st : State) (all : List Identity) (subtrees : List Names) (front users : List Identity) (from : ℕ) → front ++ users ≡ all
    → length front ≡ from → AllByRecursion (IsPairShown all subtrees) (pairs_from st from users subtrees)
of_users_shown st all subtrees front [] from whole count = tt
of_users_shown st all subtrees front (user ∷ users) from whole count =
    let listed : from < length all = omega (arith, ap length whole, length-append front (user ∷ users), count) in
    let more : length (front ++ user ∷ []) ≡ suc from = omega (arith, length-append front (user ∷ []), count) in
    all-append (IsPairShown all subtrees) (pairs_of st from user 0 subtrees) (pairs_from st (suc from) users subtrees)
    (of_user_shown st all from listed user [] subtrees subtrees 0 refl refl)
    (of_users_shown st all subtrees (front ++ user ∷ []) users (suc from) (append_assoc front (user ∷ []) users ∙ whole) more)

first_shown : (users : List Identity) (subtrees : List Names) (pairs : List AllAnswer) → AllByRecursion (IsPairShown users subtrees) pairs
    → IsPairShown users subtrees (unwrap_or (first pairs) Contained)
first_shown users subtrees [] all = tt
first_shown users subtrees (pair ∷ pairs) all = all.0

found_shown : (users : List Identity) (subtrees : List Names) (fault : Option CheckFault) (answer found : AllAnswer)
    → IsPairShown users subtrees answer → unless_fault fault answer ≡ Ok found → IsPairShown users subtrees found
found_shown users subtrees None answer found shown is = let same : answer ≡ found = cc in subst (IsPairShown users subtrees) same shown
found_shown users subtrees (Some fault) answer found shown is = let never : ⊥ = cc in absurd never

pub audits_are_shown : (st : State) (users : List Identity) (subtrees : List Names) (found : AllAnswer)
    → all_checked st users subtrees ≡ Ok found → IsPairShown users subtrees found
audits_are_shown st users subtrees found is =
    found_shown users subtrees (first (flat_map (subtree_faults st) subtrees)) (all_answers st users subtrees) found
    (first_shown users subtrees (pairs_from st 0 users subtrees) (of_users_shown st users subtrees [] users 0 refl refl)) is
