-- An audit has status 0 exactly where all is contained: no pair that it names is.
use Rattle.std.proofs.Common.{◌≡◌, ◌≢◌, ℕ, suc, List, [], ◌∷◌, Option, Some, None, Ok, refl, subst}
use Rattle.std.specs.Prelude.{unwrap_or}
use Rattle.std.specs.List.{AllByRecursion, flat_map}
use Rattle.cg_cgroup.specs.Paths.{Names}
use Rattle.cg_cgroup.specs.Identity.{Identity}
use Rattle.cg_model.specs.States.{State}
use Rattle.cg_model.specs.Clauses.{first}
use Rattle.cg_model.specs.declared.fault.CheckFault.{CheckFault}
use Rattle.cg_model.specs.Answers.{answer}
use Rattle.cg_model.specs.AllAnswers.{pair_unless_contained, pairs_of, pairs_from, all_answers}
use Rattle.cg_model.specs.Checks.{subtree_faults, unless_fault, all_checked}
use Rattle.cg_model.specs.declared.answer.Answer.{Answer}
use Rattle.cg_model.specs.declared.answer.Answer.TheVariants as one
use Rattle.cg_model.specs.declared.answer.AllAnswer.{AllAnswer}
use Rattle.cg_model.specs.declared.answer.AllAnswer.TheVariants.{Contained}
use Rattle.cg_model.proofs.Lists.{all-append}
use Rattle.cg_cli.specs.Audits.{audit_status}

abbrev pub IsNamed : AllAnswer → Type 0
IsNamed found = audit_status found ≢ 0

one_named : (user subtree : ℕ) (found : Answer) → AllByRecursion IsNamed (pair_unless_contained user subtree found)
one_named user subtree one.Contained = tt
one_named user subtree (one.Escapes ops) = ((λ same. cc), tt)
one_named user subtree (one.Unsettled failed) = ((λ same. cc), tt)

of_user_named : (st : State) (place : ℕ) (user : Identity) (from : ℕ) (subtrees : List Names)
    → AllByRecursion IsNamed (pairs_of st place user from subtrees)
of_user_named st place user from [] = tt
of_user_named st place user from (subtree ∷ subtrees) =
    all-append IsNamed (pair_unless_contained place from (answer st user subtree)) (pairs_of st place user (suc from) subtrees)
    (one_named place from (answer st user subtree)) (of_user_named st place user (suc from) subtrees)

pub named : (st : State) (from : ℕ) (users : List Identity) (subtrees : List Names)
    → AllByRecursion IsNamed (pairs_from st from users subtrees)
named st from [] subtrees = tt
named st from (user ∷ users) subtrees =
    all-append IsNamed (pairs_of st from user 0 subtrees) (pairs_from st (suc from) users subtrees)
    (of_user_named st from user 0 subtrees) (named st (suc from) users subtrees)

first_named : (pairs : List AllAnswer) → AllByRecursion IsNamed pairs → audit_status (unwrap_or (first pairs) Contained) ≡ 0
    → unwrap_or (first pairs) Contained ≡ Contained
first_named [] all zero = refl
first_named (pair ∷ pairs) all zero = absurd (all.0 zero)

found_named : (fault : Option CheckFault) (answer found : AllAnswer) → (audit_status answer ≡ 0 → answer ≡ Contained)
    → unless_fault fault answer ≡ Ok found → audit_status found ≡ 0 → found ≡ Contained
found_named None answer found of_answer is =
    let same : answer ≡ found = cc in subst (λ a. audit_status a ≡ 0 → a ≡ Contained) same of_answer
found_named (Some fault) answer found of_answer is = let never : ⊥ = cc in absurd never

pub status_is_contained : (st : State) (users : List Identity) (subtrees : List Names) (found : AllAnswer)
    → all_checked st users subtrees ≡ Ok found → audit_status found ≡ 0 → found ≡ Contained
status_is_contained st users subtrees found is =
    found_named (first (flat_map (subtree_faults st) subtrees)) (all_answers st users subtrees) found
    (first_named (pairs_from st 0 users subtrees) (named st 0 users subtrees)) is
