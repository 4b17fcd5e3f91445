-- The pairs that aren't contained: that users for whom all guards hold have none, and what it means of those who aren't listed.
use Rattle.std.proofs.Common.{◌≡◌, ◌≢◌, ℕ, zero, suc, ◌+◌, ◌<◌, ◌≤◌, Bool, true, false, ◌&&◌, cond, not, List, [], ◌∷◌, ◌++◌, length, get_or, take, drop, drop-cons, add-one, take-append-drop, refl, sym, ap, ◌∙◌, None, is_none, arith}
use Rattle.std.specs.List.{flat_map, take_while, prefix_len, All}
use Rattle.std.proofs.lemmas.List.Sums.{take_while-cons, prefix_len-le-length}
use Rattle.std.proofs.lemmas.List.Folds.{length-prefix_len}
use Rattle.std.proofs.lemmas.List.Concat.{flat_map-append}
use Rattle.cg_cgroup.specs.Paths.{Names}
use Rattle.cg_cgroup.specs.Identity.{Identity}
use Rattle.cg_model.specs.States.{State}
use Rattle.cg_model.specs.WellFormed.{IsWellFormed}
use Rattle.cg_model.specs.Clauses.{first, unless}
use Rattle.cg_model.specs.Guards.{failures, IsSubtree, is_guarded}
use Rattle.cg_model.specs.declared.guard.Failed.{Failed}
use Rattle.cg_guards.proofs.KeptOff.{while_all, while_both}
use Rattle.cg_model.specs.declared.fault.CheckFault.TheVariants.{RootSubtree, NoSuchSubtree}
use Rattle.cg_model.specs.Answers.{answer}
use Rattle.cg_model.specs.Checks.{subtree_faults}
use Rattle.cg_model.specs.AllAnswers.{pair_unless_contained, pairs_from}
use Rattle.cg_model.specs.Listed.{listed_unless_contained, listed_of, listed, is_contained, unlisted}
use Rattle.cg_check.specs.Listed.{is_guarded_of_all}
use Rattle.cg_model.specs.Several.{AreContained}
use Rattle.cg_model.specs.declared.answer.Answer.TheVariants.{Contained, Escapes, Unsettled}
use Rattle.cg_check.proofs.Checking.{no_fault, guarded-answer}
use Rattle.cg_check.proofs.Pairs.{none-element, not-none}
use Rattle.cg_check.proofs.AllContained.{are-contained}

drop_all : {A : Type 0} (xs : List A) (n : ℕ) → length xs ≤ n → drop n xs ≡ []
drop_all [] zero all = refl
drop_all [] (suc n) all = refl
drop_all (x ∷ xs) zero all = absurd (omega (arith, all))
drop_all (x ∷ xs) (suc n) all = drop_all xs n (omega (arith, all))

both_true : (a b : Bool) → a && b ≡ true → (a ≡ true) × (b ≡ true)
both_true true b h = (refl, h)
both_true false b h = let never : ⊥ = cc in absurd never

-- ---- for whom all guards hold

module _ (st : State) (subtrees : List Names) where
  abbrev holds : Identity → Bool
  holds = is_guarded_of_all st subtrees

  pub guarded_turn : (i : ℕ) (subtree : Names) (left next : List Identity) → i < length subtrees → subtree ≡ get_or subtrees i subtree
      → next ≡ take_while (is_guarded st subtree) left
      → take_while (is_guarded_of_all st (drop (i + 1) subtrees)) next ≡ take_while (is_guarded_of_all st (drop i subtrees)) left
  guarded_turn i subtree left next within at is =
      let here : drop i subtrees ≡ subtree ∷ drop (i + 1) subtrees =
      drop-cons subtrees i subtree within ∙ (λ j. sym at j ∷ drop (sym (add-one i) j) subtrees) in
      ap (take_while (is_guarded_of_all st (drop (i + 1) subtrees))) is
      ∙ while_both (is_guarded st subtree) (is_guarded_of_all st (drop (i + 1) subtrees)) left
      ∙ sym (ap (λ rest. take_while (is_guarded_of_all st rest) left) here)

  pub guarded_end : (i : ℕ) (users : List Identity) → length subtrees ≤ i
      → users ≡ take_while (is_guarded_of_all st (drop i subtrees)) users
  guarded_end i users all =
      sym (ap (λ rest. take_while (is_guarded_of_all st rest) users) (drop_all subtrees i all)
      ∙ while_all (is_guarded_of_all st []) users (λ user. refl))

  pub guarded_count : (users left : List Identity) → left ≡ take_while holds users → length left ≡ prefix_len holds users
  guarded_count users left is = ap length is ∙ length-prefix_len holds users

  pub guarded_within : (users left : List Identity) → left ≡ take_while holds users → length left ≤ length users
  guarded_within users left is =
      let most = prefix_len-le-length holds users in let count = guarded_count users left is in omega (arith, most, count)

-- ---- a user with no pair

module _ (st : State) where
  guarded_contained : (user : Identity) (subtree : Names) → is_guarded st subtree user ≡ true → answer st user subtree ≡ Contained
  guarded_contained user subtree holds = guarded-answer st user subtree (no_failures (failures st user subtree) holds)
    where
      no_failures : (failed : List Failed) → is_none (first failed) ≡ true → failed ≡ []
      no_failures [] h = refl
      no_failures (x ∷ xs) h = let never : ⊥ = cc in absurd never

  none_of_user : (user : Identity) (subtrees : List Names) → is_guarded_of_all st subtrees user ≡ true → listed_of st subtrees user ≡ []
  none_of_user user [] hold = refl
  none_of_user user (subtree ∷ subtrees) hold =
      let parts = both_true (is_guarded st subtree user) (is_guarded_of_all st subtrees user) hold in
      ap (λ found. listed_unless_contained user subtree found ++ listed_of st subtrees user) (guarded_contained user subtree parts.0)
      ∙ none_of_user user subtrees parts.1

  none_before : (subtrees : List Names) (users : List Identity) → listed st (take_while (is_guarded_of_all st subtrees) users) subtrees ≡ []
  none_before subtrees [] = refl
  none_before subtrees (user ∷ users) =
      ap (λ left. listed st left subtrees) (take_while-cons (is_guarded_of_all st subtrees) user users)
      ∙ elim (is_guarded_of_all st subtrees user) as (λ b. is_guarded_of_all st subtrees user ≡ b
      → listed st (cond b (user ∷ take_while (is_guarded_of_all st subtrees) users) []) subtrees ≡ []) [
        | true ↦
            λ holds.
            ap (λ pairs. pairs ++ listed st (take_while (is_guarded_of_all st subtrees) users) subtrees) (none_of_user user subtrees holds)
            ∙ none_before subtrees users
        | false ↦ λ fails. refl
      ] refl

  -- those before the first who has a pair have none
  pub listed_past : (subtrees : List Names) (users left : List Identity)
      → left ≡ drop (prefix_len (is_guarded_of_all st subtrees) users) users → listed st left subtrees ≡ listed st users subtrees
  listed_past subtrees users left is =
      let n = prefix_len (is_guarded_of_all st subtrees) users in
      ap (λ rest. listed st rest subtrees) is
      ∙ sym (ap (λ pairs. pairs ++ listed st (drop n users) subtrees) (none_before subtrees users))
      ∙ sym (flat_map-append (listed_of st subtrees) (take n users) (drop n users))
      ∙ ap (λ all. listed st all subtrees) (take-append-drop n users)

-- ---- who isn't listed

module _ (st : State) (subtree : Names) where
  no_pair : (from : ℕ) (users : List Identity) → pairs_from st from (unlisted st users subtree) (subtree ∷ []) ≡ []
  no_pair from [] = refl
  no_pair from (user ∷ users) =
      elim (answer st user subtree) as (λ found. answer st user subtree ≡ found
      → pairs_from st from (cond (is_contained found) (user ∷ unlisted st users subtree) (unlisted st users subtree)) (subtree ∷ [])
      ≡ []) [
        | Contained ↦
            λ is. ap
            (λ found. (pair_unless_contained from 0 found ++ []) ++ pairs_from st (suc from) (unlisted st users subtree) (subtree ∷ [])) is
            ∙ no_pair (suc from) users
        | Escapes ops ↦ λ is. no_pair from users
        | Unsettled failed ↦ λ is. no_pair from users
      ] refl

  pub unlisted-contained : (users : List Identity) → IsWellFormed st → IsSubtree st subtree → unlisted st users subtree ≢ []
      → AreContained st (unlisted st users subtree) (subtree ∷ [])
  unlisted-contained users formed is some =
      are-contained st (unlisted st users subtree) (subtree ∷ [])
      (λ i. first ((unless (not (is.1 i)) RootSubtree ++ unless (is.0 i) NoSuchSubtree) ++ []))
      (λ _. formed) (ap first (no_pair 0 users)) some

-- of a whole list
pub all-unlisted : (st : State) (users : List Identity) (subtrees : List Names) → first (flat_map (subtree_faults st) subtrees) ≡ None
    → (subtrees ≢ [] → IsWellFormed st)
    → All (λ subtree. unlisted st users subtree ≢ [] → AreContained st (unlisted st users subtree) (subtree ∷ [])) subtrees
all-unlisted st users subtrees none formed k d within =
    unlisted-contained st (get_or subtrees k d) users (formed (not-none subtrees k within))
    (no_fault st (get_or subtrees k d) (sym (none-element (subtree_faults st) subtrees k d within none)))
