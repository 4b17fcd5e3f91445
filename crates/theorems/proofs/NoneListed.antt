-- Where no pair is listed, each subtree is held against all users together.
use Rattle.std.proofs.Common.{◌≡◌, ◌≢◌, ℕ, zero, suc, ◌+◌, ◌<◌, Bool, true, false, cond, List, [], ◌∷◌, ◌++◌, length, get_or, refl, sym, ap, ◌∙◌, subst, arith}
use Rattle.std.specs.List.{All, AllByRecursion, list_any}
use Rattle.std.proofs.lemmas.List.Elements.{All-contains, All-from_recursion}
use Rattle.cg_cgroup.specs.Paths.{Names, same_path}
use Rattle.cg_cgroup.specs.Identity.{Identity}
use Rattle.cg_cgroup.proofs.PathOrder.{same_path-is}
use Rattle.cg_model.specs.States.{State}
use Rattle.cg_model.specs.Answers.{answer}
use Rattle.cg_model.specs.Guards.{GuardsHold, IsSubtree}
use Rattle.cg_model.specs.Held.{IsHeld}
use Rattle.cg_model.specs.Once.{once}
use Rattle.cg_model.specs.Listed.{Listed, listed_unless_contained, listed_of, listed, is_contained}
use Rattle.cg_model.specs.Several.{AreContained}
use Rattle.cg_model.specs.WellFormed.{IsWellFormed}
use Rattle.cg_model.specs.declared.answer.Answer.{Answer}
use Rattle.cg_model.specs.declared.answer.Answer.TheVariants.{Contained, Escapes, Unsettled}
use Rattle.cg_second.specs.SecondRow.{AreSettled}
use Rattle.cg_check.proofs.AllContained.{guarded-are-contained}
use Rattle.cg_check.proofs.Checking.{answer-guarded}
use Rattle.cg_cli.specs.Audited.{AreKnownWithEach}
use Rattle.cg_cli.specs.AllPairs.{is_escape, pairs_status}
use Rattle.cg_cli.specs.FurtherAdvice.{AreHeld}
use Rattle.cg_cli.specs.FurtherPairs.{picked, not_listed, listed_with, listed_from, AreFurther, first_pair_status}
use Rattle.cg_cli.specs.Once.{same_user}
use Rattle.cg_cli.proofs.Knowing.{unlisted-settled}
use Rattle.cg_cli.proofs.AuditOnce.{all_once, by_once, some_once, same_user-is}

-- ---- what a status of 0 says of pairs

pub all_none : (pairs : List Listed) → pairs_status pairs ≡ 0 → pairs ≡ []
all_none [] none = refl
all_none (pair ∷ pairs) none = by_escape (list_any (λ (each : Listed). is_escape each.found) (pair ∷ pairs)) none
  where
    by_escape : {P : Type 0} (b : Bool) → ◌≡◌ {A = ℕ} (cond b 1 2) 0 → P
    by_escape true h = let never : ⊥ = cc in absurd never
    by_escape false h = let never : ⊥ = cc in absurd never

first_with : (found : ℕ → Answer) (user : Identity) (place : ℕ) (subtrees : List Names) (more : List Listed)
    → first_pair_status (listed_with found user place subtrees ++ more) ≡ 0
    → (listed_with found user place subtrees ≡ []) × (first_pair_status more ≡ 0)
first_with found user place [] more none = (refl, none)
first_with found user place (subtree ∷ subtrees) more none =
    by_answer (found place) (first_with found user (suc place) subtrees more) none
  where
    by_answer : (a : Answer)
        → (first_pair_status (listed_with found user (suc place) subtrees ++ more) ≡ 0
        → (listed_with found user (suc place) subtrees ≡ []) × (first_pair_status more ≡ 0))
        → first_pair_status ((listed_unless_contained user subtree a ++ listed_with found user (suc place) subtrees) ++ more) ≡ 0
        → (listed_unless_contained user subtree a ++ listed_with found user (suc place) subtrees ≡ []) × (first_pair_status more ≡ 0)
    by_answer Contained later zero_is = later zero_is
    by_answer (Escapes ops) later zero_is = let never : ⊥ = cc in absurd never
    by_answer (Unsettled failed) later zero_is = let never : ⊥ = cc in absurd never

pub first_none : (found : ℕ → ℕ → Answer) (place : ℕ) (users : List Identity) (subtrees : List Names)
    → first_pair_status (listed_from found place users subtrees) ≡ 0 → listed_from found place users subtrees ≡ []
first_none found place [] subtrees none = refl
first_none found place (user ∷ users) subtrees none =
    let both =
    first_with (found place) user 0 subtrees (listed_from found (suc place) users subtrees) none in
    (λ i. both.0 i ++ first_none found (suc place) users subtrees both.1 i)

-- ---- who isn't listed

both_none : {A : Type 0} (xs ys : List A) → xs ++ ys ≡ [] → (xs ≡ []) × (ys ≡ [])
both_none [] ys none = (refl, none)
both_none (x ∷ xs) ys none = let never : ⊥ = cc in absurd never

one_none : (user : Identity) (subtree : Names) (a : Answer) → listed_unless_contained user subtree a ≡ [] → is_contained a ≡ true
one_none user subtree Contained none = refl
one_none user subtree (Escapes ops) none = let never : ⊥ = cc in absurd never
one_none user subtree (Unsettled failed) none = let never : ⊥ = cc in absurd never

with_none : (found : ℕ → Answer) (user : Identity) (from : ℕ) (subtrees : List Names) → listed_with found user from subtrees ≡ []
    → (place : ℕ) → place < length subtrees → is_contained (found (from + place)) ≡ true
with_none found user from [] none place low = absurd (omega (arith, low))
with_none found user from (subtree ∷ subtrees) none zero low =
    let whole : from + 0 ≡ from = omega arith in
    let both = both_none (listed_unless_contained user subtree (found from)) (listed_with found user (suc from) subtrees) none in
    (λ i. is_contained (found (whole i))) ∙ one_none user subtree (found from) both.0
with_none found user from (subtree ∷ subtrees) none (suc place) low =
    let same : from + suc place ≡ suc from + place = omega arith in
    let both = both_none (listed_unless_contained user subtree (found from)) (listed_with found user (suc from) subtrees) none in
    (λ i. is_contained (found (same i))) ∙ with_none found user (suc from) subtrees both.1 place (omega (arith, low))

from_none : (found : ℕ → ℕ → Answer) (from : ℕ) (users : List Identity) (subtrees : List Names)
    → listed_from found from users subtrees ≡ []
    → (user place : ℕ) → user < length users → place < length subtrees → is_contained (found (from + user) place) ≡ true
from_none found from [] subtrees none user place low within = absurd (omega (arith, low))
from_none found from (who ∷ users) subtrees none zero place low within =
    let whole : from + 0 ≡ from = omega arith in
    let both = both_none (listed_with (found from) who 0 subtrees) (listed_from found (suc from) users subtrees) none in
    let start : place ≡ 0 + place = omega arith in
    (λ i. is_contained (found (whole i) (start i))) ∙ with_none (found from) who 0 subtrees both.0 place within
from_none found from (who ∷ users) subtrees none (suc user) place low within =
    let same : from + suc user ≡ suc from + user = omega arith in
    let both = both_none (listed_with (found from) who 0 subtrees) (listed_from found (suc from) users subtrees) none in
    (λ i. is_contained (found (same i) place))
    ∙ from_none found (suc from) users subtrees both.1 user place (omega (arith, low)) within

picked_all : {A : Type 0} (test : ℕ → Bool) (from : ℕ) (xs : List A) → ((k : ℕ) → k < length xs → test (from + k) ≡ true)
    → picked test from xs ≡ xs
picked_all test from [] all = refl
picked_all test from (x ∷ xs) all =
    let whole : from ≡ from + 0 = omega arith in
    let here : test from ≡ true = ap test whole ∙ all 0 (omega arith) in
    let rest : picked test (suc from) xs ≡ xs =
    picked_all test (suc from) xs (λ k low.
    let same : suc from + k ≡ from + suc k = omega arith in ap test same ∙ all (suc k) (omega (arith, low))) in
    (λ i. cond (here i) (x ∷ rest i) (rest i))

module _ (st : State) (users : List Identity) (subtrees : List Names) (found : ℕ → ℕ → Answer) where
  held_where_none : AreFurther st users subtrees found → listed_from found 0 users subtrees ≡ [] → users ≢ [] → AreHeld st users subtrees
  held_where_none further none some deeds by place e within =
      let all : not_listed (λ user. found user place) users ≡ users =
      picked_all (λ user. is_contained (found user place)) 0 users
      (λ user low. from_none found 0 users subtrees none user place low within) in
      let held : AreHeld st users (get_or subtrees place e ∷ []) =
      subst (λ who. AreHeld st who (get_or subtrees place e ∷ [])) all
      (further.together place e within (λ empty. some (sym all ∙ empty))) in
      held deeds by 0 (get_or subtrees place e) (omega arith)

-- of users and subtrees of whom each counts once
pub none_held : (st : State) (users : List Identity) (subtrees : List Names) (found : ℕ → ℕ → Answer)
    → AreFurther st (once same_user users) (once same_path subtrees) found
    → listed_from found 0 (once same_user users) (once same_path subtrees) ≡ [] → users ≢ [] → AreHeld st users subtrees
none_held st users subtrees found further none some deeds by =
    all_once same_path same_path-is (IsHeld st deeds) subtrees
    (held_where_none st (once same_user users) (once same_path subtrees) found further none (some_once same_user same_user-is users some)
    deeds (by_once users subtrees deeds by))

-- ---- where check lists no pair

both_held : (st : State) (user : Identity) (subtree : Names) (found : Answer) → answer st user subtree ≡ found
    → listed_unless_contained user subtree found ≡ [] → GuardsHold st user subtree
both_held st user subtree Contained is none = answer-guarded st user subtree is
both_held st user subtree (Escapes ops) is none = let never : ⊥ = cc in absurd never
both_held st user subtree (Unsettled failed) is none = let never : ⊥ = cc in absurd never

module _ (st : State) where
  held_by_user : (user : Identity) (subtrees : List Names) → listed_of st subtrees user ≡ [] → AllByRecursion (GuardsHold st user) subtrees
  held_by_user user [] none = tt
  held_by_user user (subtree ∷ subtrees) none =
      let both = both_none (listed_unless_contained user subtree (answer st user subtree)) (listed_of st subtrees user) none in
      (both_held st user subtree (answer st user subtree) refl both.0, held_by_user user subtrees both.1)

  held_by_all : (users : List Identity) (subtrees : List Names) → listed st users subtrees ≡ []
      → AllByRecursion (λ user. AllByRecursion (GuardsHold st user) subtrees) users
  held_by_all [] subtrees none = tt
  held_by_all (user ∷ users) subtrees none =
      let both = both_none (listed_of st subtrees user) (listed st users subtrees) none in
      (held_by_user user subtrees both.0, held_by_all users subtrees both.1)

  -- all are contained against all
  pub none_contained : (users : List Identity) (subtrees : List Names) → IsWellFormed st → All (IsSubtree st) subtrees
      → listed st users subtrees ≡ [] → users ≢ [] → AreContained st users subtrees
  none_contained users subtrees formed subs none =
      guarded-are-contained st users subtrees (λ _. formed) subs
      (λ user among.
      All-from_recursion (GuardsHold st user) subtrees
      (All-contains (λ one. AllByRecursion (GuardsHold st one) subtrees) users user
      (All-from_recursion (λ one. AllByRecursion (GuardsHold st one) subtrees) users (held_by_all users subtrees none)) among))

  -- where more is known, all are held against all
  pub none_settled : (users : List Identity) (subtrees : List Names) (found : ℕ → ℕ → Answer) → IsWellFormed st
      → All (IsSubtree st) subtrees → AreKnownWithEach st users subtrees found → listed_from found 0 users subtrees ≡ [] → users ≢ []
      → AreSettled st users subtrees
  none_settled users subtrees found formed subs known none some =
      record {
        held = λ deeds by place e within. (each place e within).held deeds by 0 (get_or subtrees place e) (omega arith);
        still = λ deeds by place e within. (each place e within).still deeds by 0 (get_or subtrees place e) (omega arith);
        strangers = λ deeds only place e within. (each place e within).strangers deeds only 0 (get_or subtrees place e) (omega arith);
      }
    where
      all : (place : ℕ) → place < length subtrees → not_listed (λ user. found user place) users ≡ users
      all place within =
          picked_all (λ user. is_contained (found user place)) 0 users
          (λ user low. from_none found 0 users subtrees none user place low within)

      each : (place : ℕ) (e : Names) → place < length subtrees → AreSettled st users (get_or subtrees place e ∷ [])
      each place e within =
          subst (λ who. AreSettled st who (get_or subtrees place e ∷ [])) (all place within)
          (unlisted-settled st users (get_or subtrees place e) (λ user. found user place) formed (subs place e within)
          (known place e within) (λ empty. some (sym (all place within) ∙ empty)))
