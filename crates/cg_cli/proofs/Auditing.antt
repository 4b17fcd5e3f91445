-- What is answered of several users with a subtree, from what is found of each alone.
use Rattle.std.proofs.Common.{◌≡◌, ℕ, ◌+◌, ◌<◌, Bool, true, false, not, nat_eq, ◌&&◌, ◌||◌, cond, List, [], ◌∷◌, ◌++◌, length, get_or, take}
use Rattle.std.proofs.Common.{refl, sym, ap, ◌∙◌, subst, arith, append-nil}
use Rattle.std.specs.List.{list_any}
use Rattle.std.specs.Ordering.{nat_cmp, eq_by_cmp}
use Rattle.std.specs.Cmp.{unsigned_tied}
use Rattle.std.proofs.lemmas.List.{take_more, length-take-le}
use Rattle.std.proofs.lemmas.List.Folds.{list_any_more}
use Rattle.cg_cgroup.specs.Paths.{Names}
use Rattle.cg_cgroup.specs.Identity.{Identity}
use Rattle.cg_model.specs.States.{State}
use Rattle.cg_model.specs.Answers.{answer}
use Rattle.cg_second.specs.Judged.{second_row}
use Rattle.cg_cli.specs.declared.answers.audited.Found.{Found}
use Rattle.cg_cli.specs.Audited.{has_list, without_list, AreKnown}
use Rattle.cg_cli.specs.FurtherPairs.{picked}
use Rattle.cg_cli.specs.FoundPlaces.{found_at, AreApart, AreBefore, IsAlone, AreAlone, is_unsettled, is_listed_at}
use Rattle.cg_cli.proofs.FoundPlaces.{listed_alone, at_kept, apart_kept, before_kept, never_unsettled, listed_is_at}
use Rattle.cg_cli.proofs.Knowing.{known_settled, known_apart, known_together, picked_more}

module _ (st : State) (users : List Identity) (subtree : Names) (found : List Found)
    (alone : AreAlone st users subtree (length users) found) where
  each : (place : ℕ) (d : Identity) → place < length users
      → IsAlone st (get_or users place d) subtree (answer st (get_or users place d) subtree) (found_at found place)
  each place d within = alone.alone place d within within

  pub known-settled : list_any (λ (each : Found). is_unsettled each.answer) found ≡ false → AreKnown st users subtree (found_at found)
  known-settled none =
      known_settled st users subtree (found_at found) each (λ place. never_unsettled found place none)

  pub known-apart : second_row st (without_list (found_at found) users) subtree ≡ false → AreKnown st users subtree (found_at found)
  known-apart fails = known_apart st users subtree (found_at found) each fails

  module _ (after : List Found) (is : after ≡ listed_alone found) where
    pub known-together : second_row st (without_list (found_at found) users) subtree ≡ true → AreKnown st users subtree (found_at after)
    known-together holds =
        known_together st users subtree (found_at found) (found_at after) each
        (λ place. (λ i. found_at (is i) place) ∙ at_kept found place alone.apart) holds

    pub apart-after : AreApart after
    apart-after = subst AreApart (sym is) (apart_kept found alone.apart)

    pub before-after : AreBefore (length users) after
    before-after = subst (AreBefore (length users)) (sym is) (before_kept found (length users) alone.before)

-- ---- the places with a list

turned : (x y : ℕ) → eq_by_cmp nat_cmp x y ≡ nat_eq x y
turned x y = unsigned_tied x y

-- one more, which has a list or hasn't
module _ (found : List Found) (i : ℕ) (each : Found) (within : i < length found) (at : each ≡ get_or found i each) where
  more : (place : ℕ) → is_listed_at (take (i + 1) found) place
      ≡ (is_listed_at (take i found) place || (nat_eq each.place place && has_list each.answer))
  more place =
      list_any_more (λ (one : Found). nat_eq one.place place && has_list one.answer) found i each within
      ∙ (λ j. is_listed_at (take i found) place || (nat_eq (sym at j).place place && has_list (sym at j).answer))

  pub place_entered : (before after : ℕ → Bool) → ((place : ℕ) → before place ≡ is_listed_at (take i found) place)
      → has_list each.answer ≡ true
      → ((place : ℕ) → after place ≡ cond (eq_by_cmp nat_cmp each.place place) true (before place))
      → (place : ℕ) → after place ≡ is_listed_at (take (i + 1) found) place
  place_entered before after so_far has is place =
      is place ∙ (λ j. cond (turned each.place place j) true (so_far place j))
      ∙ by_test (nat_eq each.place place) (is_listed_at (take i found) place)
      ∙ (λ j. is_listed_at (take i found) place || (nat_eq each.place place && sym has j))
      ∙ sym (more place)
    where
      by_test : (a b : Bool) → cond a true b ≡ b || (a && true)
      by_test true true = refl
      by_test true false = refl
      by_test false true = refl
      by_test false false = refl

  pub place_passed : (before : ℕ → Bool) → ((place : ℕ) → before place ≡ is_listed_at (take i found) place) → has_list each.answer ≡ false
      → (place : ℕ) → before place ≡ is_listed_at (take (i + 1) found) place
  place_passed before so_far has place =
      so_far place ∙ by_test (nat_eq each.place place) (is_listed_at (take i found) place)
      ∙ (λ j. is_listed_at (take i found) place || (nat_eq each.place place && sym has j)) ∙ sym (more place)
    where
      by_test : (a b : Bool) → b ≡ b || (a && false)
      by_test true true = refl
      by_test true false = refl
      by_test false true = refl
      by_test false false = refl

-- ---- the others

module _ (found : List Found) (users : List Identity) (i : ℕ) (user : Identity) (within : i < length users)
    (at : user ≡ get_or users i user)
    (apart : AreApart found) where
  abbrev test : ℕ → Bool
  test place = not (has_list (found_at found place))

  picked_next : picked test 0 (take (i + 1) users) ≡ picked test 0 (take i users) ++ cond (test i) (user ∷ []) []
  picked_next =
      let all : length (take i users) ≡ i = length-take-le i users (omega (arith, within)) in
      let long : 0 + length (take i users) ≡ i = omega (arith, all) in
      ap (picked test 0) (take_more users i user within ∙ (λ j. take i users ++ sym at j ∷ []))
      ∙ picked_more test 0 (take i users) user ∙ (λ j. picked test 0 (take i users) ++ cond (test (long j)) (user ∷ []) [])

  pub other_more : (before after : List Identity) (listed : Bool) → before ≡ picked test 0 (take i users) → listed ≡ is_listed_at found i
      → listed ≡ false → after ≡ before ++ user ∷ [] → after ≡ picked test 0 (take (i + 1) users)
  other_more before after listed so_far is fails more =
      more ∙ (λ j. so_far j ++ user ∷ [])
      ∙ (λ j. picked test 0 (take i users) ++ cond (not (sym (sym (listed_is_at found i apart) ∙ sym is ∙ fails) j)) (user ∷ []) [])
      ∙ sym picked_next

  pub other_passed : (before : List Identity) (listed : Bool) → before ≡ picked test 0 (take i users) → listed ≡ is_listed_at found i
      → listed ≡ true → before ≡ picked test 0 (take (i + 1) users)
  other_passed before listed so_far is holds =
      so_far ∙ sym (append-nil (picked test 0 (take i users)))
      ∙ (λ j. picked test 0 (take i users) ++ cond (not (sym (sym (listed_is_at found i apart) ∙ sym is ∙ holds) j)) (user ∷ []) [])
      ∙ sym picked_next
