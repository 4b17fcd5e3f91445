-- What it means that there is neither a fault nor a pair, and that every other result is one.
use Rattle.std.proofs.Common.{◌≡◌, ◌≢◌, ℕ, suc, ◌<◌, true, false, not, List, [], ◌∷◌, ◌++◌, length, get_or, refl, sym, ap, ◌∙◌, subst, Some, None, unwrap_or, Ok, Err, Result, arith}
use Rattle.std.specs.List.{flat_map, All, AllByRecursion, Contains}
use Rattle.std.proofs.lemmas.List.Elements.{All-from_recursion, All-contains}
use Rattle.cg_cgroup.specs.Paths.{Names, is_root}
use Rattle.cg_cgroup.specs.Identity.{Identity}
use Rattle.cg_model.specs.States.{State}
use Rattle.cg_model.specs.WellFormed.{IsWellFormed, has_row}
use Rattle.cg_model.specs.Clauses.{unless, first}
use Rattle.cg_model.specs.Steps.{after_all}
use Rattle.cg_model.proofs.ClauseLaws.{none_of_first, no_parts}
use Rattle.cg_model.specs.Guards.{GuardsHold, IsSubtree}
use Rattle.cg_model.specs.Strangers.{GuardsHoldForAll}
use Rattle.cg_model.specs.declared.fault.CheckFault.{CheckFault}
use Rattle.cg_model.specs.declared.fault.CheckFault.TheVariants.{RootSubtree, NoSuchSubtree, NoMemory}
use Rattle.cg_laws.proofs.RunLaws.{held-guarded, guarded-again}
use Rattle.cg_laws.proofs.StrangerLaws.{broken-of_stranger}
use Rattle.cg_model.specs.Answers.{answer}
use Rattle.std.specs.Result.{IsErr, IsErrAnd}
use Rattle.cg_check.specs.Unguarded.{IsFirstUnguarded}
use Rattle.cg_model.specs.Checks.{subtree_faults, unless_fault, checked, all_checked}
use Rattle.cg_check.specs.Checks.{takes_memory, all_take_memory, Gives}
use Rattle.cg_model.specs.AllAnswers.{pair_unless_contained, pairs_of, pairs_from, all_answers}
use Rattle.cg_model.specs.Several.{AreContained}
use Rattle.cg_model.specs.declared.answer.Answer.{Answer}
use Rattle.cg_model.specs.declared.answer.Answer.TheVariants.{Contained, Escapes, Unsettled}
use Rattle.cg_model.specs.declared.answer.AllAnswer.{AllAnswer}
use Rattle.cg_model.specs.declared.answer.AllAnswer.TheVariants as all
use Rattle.cg_check.proofs.Checking.{no_fault, guarded-answer, answer-guarded, checked-answer}
use Rattle.cg_check.proofs.Pairs.{none-element, not-none}

-- ---- faults

-- a fault of a path
abbrev IsOfPath : CheckFault → Type 0
IsOfPath RootSubtree = Unit {0}
IsOfPath NoSuchSubtree = Unit {0}
IsOfPath NoMemory = ⊥

of_path : (st : State) (subtrees : List Names) (fault : CheckFault) → Some fault ≡ first (flat_map (subtree_faults st) subtrees)
    → IsOfPath fault
of_path st [] fault h = cc
of_path st (subtree ∷ subtrees) fault h =
    elim (is_root subtree) as (λ root. Some fault
    ≡ first ((unless (not root) RootSubtree ++ unless (has_row st subtree) NoSuchSubtree) ++ flat_map (subtree_faults st) subtrees)
    → IsOfPath fault) [
      | true ↦ λ is. let same : fault ≡ RootSubtree = cc in subst IsOfPath (sym same) tt
      | false ↦
          elim (has_row st subtree) as
          (λ there. Some fault ≡ first (unless there NoSuchSubtree ++ flat_map (subtree_faults st) subtrees) → IsOfPath fault) [
            | true ↦ λ is. of_path st subtrees fault is
            | false ↦ λ is. let same : fault ≡ NoSuchSubtree = cc in subst IsOfPath (sym same) tt
          ]
    ] h

gives_fault : (stated : Result AllAnswer CheckFault) (fault : CheckFault) → IsOfPath fault → stated ≡ Err fault
    → Gives all_take_memory stated (Err fault)
gives_fault stated RootSubtree of is = is
gives_fault stated NoSuchSubtree of is = is
gives_fault stated NoMemory of is = absurd of

pub fault-gives : (st : State) (users : List Identity) (subtrees : List Names) (fault : CheckFault)
    → Some fault ≡ first (flat_map (subtree_faults st) subtrees) → Gives all_take_memory (all_checked st users subtrees) (Err fault)
fault-gives st users subtrees fault is =
    gives_fault _ fault (of_path st subtrees fault is) (ap (λ found. unless_fault found (all_answers st users subtrees)) (sym is))

faults_none : (st : State) (subtrees : List Names) → All (IsSubtree st) subtrees → flat_map (subtree_faults st) subtrees ≡ []
faults_none st [] are = refl
faults_none st (subtree ∷ subtrees) are =
    let here = are 0 subtree (omega arith) in
    (λ i. (unless (not (here.1 i)) RootSubtree ++ unless (here.0 i) NoSuchSubtree) ++ flat_map (subtree_faults st) subtrees)
    ∙ faults_none st subtrees (λ k d within. are (suc k) d (omega (arith, within)))

-- ---- pairs

-- a pair, as it is listed
abbrev pub IsPair : AllAnswer → Type 0
IsPair all.Contained = ⊥
IsPair (all.Pair user subtree answer) = Unit {0}

-- where there is some pair, the answer takes memory
pub pairs-memory : (st : State) (users : List Identity) (subtrees : List Names) (pair : AllAnswer)
    → first (flat_map (subtree_faults st) subtrees) ≡ None → Some pair ≡ first (pairs_from st 0 users subtrees) → IsPair pair
    → all_take_memory (all_checked st users subtrees) ≡ true
pairs-memory st users subtrees pair none some is =
    ap (λ found. all_take_memory (unless_fault found (all_answers st users subtrees))) none
    ∙ ap (λ found. all_take_memory (Ok (unwrap_or found all.Contained))) (sym some) ∙ taken pair is
  where
    taken : (found : AllAnswer) → IsPair found → all_take_memory (Ok found) ≡ true
    taken all.Contained is = absurd is
    taken (all.Pair user subtree answer) is = refl

no_pair : (place from : ℕ) (found : Answer) → pair_unless_contained place from found ≡ [] → found ≡ Contained
no_pair place from Contained h = refl
no_pair place from (Escapes ops) h = cc
no_pair place from (Unsettled failed) h = cc

none_of_user : (st : State) (place : ℕ) (user : Identity) (from : ℕ) (subtrees : List Names) → pairs_of st place user from subtrees ≡ []
    → AllByRecursion (GuardsHold st user) subtrees
none_of_user st place user from [] none = tt
none_of_user st place user from (subtree ∷ subtrees) none =
    let parts = no_parts (pair_unless_contained place from (answer st user subtree)) _ none in (
      answer-guarded st user subtree (no_pair place from (answer st user subtree) parts.0),
      none_of_user st place user (suc from) subtrees parts.1,
    )

none_of_users : (st : State) (from : ℕ) (users : List Identity) (subtrees : List Names) → pairs_from st from users subtrees ≡ []
    → AllByRecursion (λ user. AllByRecursion (GuardsHold st user) subtrees) users
none_of_users st from [] subtrees none = tt
none_of_users st from (user ∷ users) subtrees none =
    let parts = no_parts (pairs_of st from user 0 subtrees) _ none in
    (none_of_user st from user 0 subtrees parts.0, none_of_users st (suc from) users subtrees parts.1)

user_none : (st : State) (place : ℕ) (user : Identity) (from : ℕ) (subtrees : List Names) → All (GuardsHold st user) subtrees
    → pairs_of st place user from subtrees ≡ []
user_none st place user from [] hold = refl
user_none st place user from (subtree ∷ subtrees) hold =
    ap (λ found. pair_unless_contained place from found ++ pairs_of st place user (suc from) subtrees)
    (guarded-answer st user subtree (hold 0 subtree (omega arith)))
    ∙ user_none st place user (suc from) subtrees (λ k d within. hold (suc k) d (omega (arith, within)))

users_none : (st : State) (from : ℕ) (users : List Identity) (subtrees : List Names)
    → ((user : Identity) → Contains users user → All (GuardsHold st user) subtrees) → pairs_from st from users subtrees ≡ []
users_none st from [] subtrees hold = refl
users_none st from (user ∷ users) subtrees hold =
    (λ i. user_none st from user 0 subtrees (hold user (0, omega arith, refl)) i ++ pairs_from st (suc from) users subtrees)
    ∙ users_none st (suc from) users subtrees (λ other among. hold other (suc among.0, omega (arith, among.1), among.2))

-- ---- all contained

module _ (st : State) (users : List Identity) (subtrees : List Names) (none : first (flat_map (subtree_faults st) subtrees) ≡ None)
    (formed : subtrees ≢ [] → IsWellFormed st) (clear : first (pairs_from st 0 users subtrees) ≡ None) where
  sub_at : All (IsSubtree st) subtrees
  sub_at k d within = no_fault st (get_or subtrees k d) (sym (none-element (subtree_faults st) subtrees k d within none))

  hold_at : All (GuardsHoldForAll st users) subtrees
  hold_at k d within user among =
      All-from_recursion (GuardsHold st user) subtrees
      (All-contains (λ u. AllByRecursion (GuardsHold st u) subtrees) users user
      (All-from_recursion _ users (none_of_users st 0 users subtrees (none_of_first _ clear))) among) k d within

  formed_at : (k : ℕ) → k < length subtrees → IsWellFormed st
  formed_at k within = formed (not-none subtrees k within)

  pub are-contained : users ≢ [] → AreContained st users subtrees
  are-contained some = record {
    held =
        λ deeds by k d within.
        held-guarded st users (get_or subtrees k d) deeds (formed_at k within) (sub_at k d within) some (hold_at k d within) by;
    still = λ deeds by.
        let again : All (λ subtree. IsSubtree (after_all st deeds) subtree × GuardsHoldForAll (after_all st deeds) users subtree) subtrees
        =
        λ k d within.
        guarded-again st users (get_or subtrees k d) deeds (formed_at k within) (sub_at k d within) (hold_at k d within) by in
        ap (λ found. unless_fault (first found) (all_answers (after_all st deeds) users subtrees))
        (faults_none (after_all st deeds) subtrees (λ k d within. (again k d within).0))
        ∙ ap (λ found. Ok (unwrap_or (first found) all.Contained))
        (users_none (after_all st deeds) 0 users subtrees (λ user among k d within. (again k d within).1 user among));
    strangers = λ deeds k d within opens steps clause broken.
        broken-of_stranger st users (get_or subtrees k d) deeds steps clause (formed_at k within) (sub_at k d within) some
        (hold_at k d within) opens broken;
  }

-- where all guards hold
pub guarded-are-contained : (st : State) (users : List Identity) (subtrees : List Names) → (subtrees ≢ [] → IsWellFormed st)
    → All (IsSubtree st) subtrees
    → ((user : Identity) → Contains users user → All (GuardsHold st user) subtrees) → users ≢ [] → AreContained st users subtrees
guarded-are-contained st users subtrees formed subs hold some =
    are-contained st users subtrees (ap first (faults_none st subtrees subs)) formed (ap first (users_none st 0 users subtrees hold)) some

-- the check of the first pair answers for all, and where it has a fault, the pair takes memory
module _ (st : State) (users : List Identity) (subtrees : List Names) (at : ℕ × ℕ) (user : Identity) (subtree : Names)
    (none : first (flat_map (subtree_faults st) subtrees) ≡ None) (found : IsFirstUnguarded st users subtrees (Some at))
    (one : user ≡ get_or users at.0 user) (other : subtree ≡ get_or subtrees at.1 subtree) where
  memory : all_take_memory (all_checked st users subtrees) ≡ true
  memory = pairs-memory st users subtrees _ none (sym (found.2 user subtree)) tt

  faultless : checked st user subtree ≡ Ok (answer st user subtree)
  faultless =
      checked-answer st user subtree
      (sym (ap (λ path. first (subtree_faults st path)) other ∙ none-element (subtree_faults st) subtrees at.1 subtree found.1 none))

  pub pair-gives : (result : Answer) → Gives takes_memory (checked st user subtree) (Ok result)
      → Gives all_take_memory (all_checked st users subtrees) (Ok (all.Pair at.0 at.1 result))
  pair-gives result gives =
      let known : Ok (answer st user subtree) ≡ Ok result = sym faultless ∙ gives in
      let same : answer st user subtree ≡ result = cc in
      ap (λ fault. unless_fault fault (all_answers st users subtrees)) none
      ∙ ap (λ pair. Ok (unwrap_or pair all.Contained)) (found.2 user subtree)
      ∙ (λ i. Ok (all.Pair at.0 at.1 (answer st (sym one i) (sym other i)))) ∙ ap (λ a. Ok (all.Pair at.0 at.1 a)) same

  of_fault : (fault : CheckFault) → Gives takes_memory (checked st user subtree) (Err fault)
      → Gives all_take_memory (all_checked st users subtrees) (Err fault)
  of_fault RootSubtree gives = let never : Ok (answer st user subtree) ≡ Err RootSubtree = sym faultless ∙ gives in cc
  of_fault NoSuchSubtree gives = let never : Ok (answer st user subtree) ≡ Err NoSuchSubtree = sym faultless ∙ gives in cc
  of_fault NoMemory gives = memory

  pub err-gives : (fault : CheckFault) (result : Result AllAnswer CheckFault) → Gives takes_memory (checked st user subtree) (Err fault)
      → IsErr result × IsErrAnd result (λ found. found ≡ fault) → Gives all_take_memory (all_checked st users subtrees) result
  err-gives fault (Ok found) gives is = absurd is.1
  err-gives fault (Err found) gives is =
      subst (λ f. Gives all_take_memory (all_checked st users subtrees) (Err f)) (sym is.1) (of_fault fault gives)
