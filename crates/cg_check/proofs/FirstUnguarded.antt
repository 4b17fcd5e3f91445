-- The first pair that isn't contained, found subtree by subtree among the users before the first found so far.
use Rattle.std.proofs.Common.{◌≡◌, ◌≢◌, below_more, ℕ, zero, suc, ◌+◌, ◌<◌, ◌≤◌, true, false, List, [], ◌∷◌, ◌++◌, length, get_or, take, take_all, Bool, refl, sym, ap, ◌∙◌, subst, Option, Some, None, is_none, Ok, arith}
use Rattle.std.specs.List.{take_while, prefix_len}
use Rattle.std.proofs.lemmas.List.{get_or-take}
use Rattle.std.proofs.lemmas.List.Sums.{prefix_len-le-length, prefix_len_passes, prefix_len_stops}
use Rattle.std.proofs.lemmas.List.Folds.{length-prefix_len}
use Rattle.cg_cgroup.specs.Paths.{Names}
use Rattle.cg_cgroup.specs.Identity.{Identity}
use Rattle.cg_model.specs.States.{State}
use Rattle.cg_model.specs.Clauses.{first}
use Rattle.cg_model.proofs.ClauseLaws.{first_none, first_some}
use Rattle.cg_model.specs.Guards.{failures, is_guarded}
use Rattle.cg_cgroup.specs.declared.user.Entry.{Entry}
use Rattle.cg_guards.specs.GuardedUsers.{AreSpared}
use Rattle.cg_model.specs.declared.guard.Failed.{Failed}
use Rattle.cg_model.specs.Answers.{answer}
use Rattle.cg_check.specs.Checks.{takes_memory}
use Rattle.cg_model.specs.AllAnswers.{pair_unless_contained, pairs_of, pairs_from}
use Rattle.cg_check.specs.Unguarded.{IsFirstUnguarded}
use Rattle.cg_model.specs.declared.answer.AllAnswer.{AllAnswer}
use Rattle.cg_model.specs.declared.answer.AllAnswer.TheVariants.{Pair}
use Rattle.cg_check.proofs.Checking.{guarded-answer, fails-memory}
use Rattle.cg_check.proofs.Pairs.{pair-some}

-- ---- one pair

module _ (st : State) (place from : ℕ) (user : Identity) (subtree : Names) where
  abbrev pair : List AllAnswer
  pair = pair_unless_contained place from (answer st user subtree)

  guarded_none : is_guarded st subtree user ≡ true → pair ≡ []
  guarded_none holds = ap (pair_unless_contained place from) (guarded-answer st user subtree (no_failures (failures st user subtree) holds))
    where
      no_failures : (failed : List Failed) → is_none (first failed) ≡ true → failed ≡ []
      no_failures [] h = refl
      no_failures (x ∷ xs) h = cc

  unguarded_some : is_guarded st subtree user ≡ false → first pair ≡ Some (Pair place from (answer st user subtree))
  unguarded_some fails = pair-some place from (answer st user subtree) (by_failures (failures st user subtree) refl fails)
    where
      by_failures : (failed : List Failed) → failures st user subtree ≡ failed → is_none (first failed) ≡ false
          → takes_memory (Ok (answer st user subtree)) ≡ true
      by_failures [] is h = cc
      by_failures (x ∷ xs) is h = fails-memory st user subtree x (sym (ap first is))

-- ---- all pairs

-- the guards of the subtree of one place hold for a user
abbrev pub HoldsAt : State → Identity → List Names → ℕ → Type 0
HoldsAt st user subtrees j = (e : Names) → is_guarded st (get_or subtrees j e) user ≡ true

user_clear : (st : State) (place from : ℕ) (user : Identity) (subtrees : List Names)
    → ((j : ℕ) → j < length subtrees → HoldsAt st user subtrees j) → pairs_of st place user from subtrees ≡ []
user_clear st place from user [] hold = refl
user_clear st place from user (subtree ∷ subtrees) hold =
    (λ i. guarded_none st place from user subtree (hold 0 (omega arith) subtree) i ++ pairs_of st place user (suc from) subtrees)
    ∙ user_clear st place (suc from) user subtrees (λ j within e. hold (suc j) (omega (arith, within)) e)

users_clear : (st : State) (from : ℕ) (users : List Identity) (subtrees : List Names)
    → ((k : ℕ) (d : Identity) → k < length users → (j : ℕ) → j < length subtrees → HoldsAt st (get_or users k d) subtrees j)
    → pairs_from st from users subtrees ≡ []
users_clear st from [] subtrees hold = refl
users_clear st from (user ∷ users) subtrees hold =
    (λ i. user_clear st from 0 user subtrees (hold 0 user (omega arith)) i ++ pairs_from st (suc from) users subtrees)
    ∙ users_clear st (suc from) users subtrees (λ k d within. hold (suc k) d (omega (arith, within)))

user_first : (st : State) (place from : ℕ) (user : Identity) (subtrees : List Names) (j : ℕ) (e : Names) → j < length subtrees
    → ((i : ℕ) → i < j → HoldsAt st user subtrees i) → is_guarded st (get_or subtrees j e) user ≡ false
    → first (pairs_of st place user from subtrees) ≡ Some (Pair place (from + j) (answer st user (get_or subtrees j e)))
user_first st place from user [] j e within hold fails = absurd (omega (arith, within))
user_first st place from user (subtree ∷ subtrees) zero e within hold fails =
    let same : from ≡ from + 0 = omega arith in
    first_some _ _ _ (unguarded_some st place from user subtree fails) ∙ ap (λ n. Some (Pair place n (answer st user subtree))) same
user_first st place from user (subtree ∷ subtrees) (suc j) e within hold fails =
    let same : suc from + j ≡ from + suc j = omega arith in
    first_none _ _ (ap first (guarded_none st place from user subtree (hold 0 (omega arith) subtree)))
    ∙ user_first st place (suc from) user subtrees j e (omega (arith, within)) (λ i low. hold (suc i) (omega (arith, low))) fails
    ∙ ap (λ n. Some (Pair place n (answer st user (get_or subtrees j e)))) same

module _ (st : State) (subtrees : List Names) (j : ℕ) (e : Names) (within : j < length subtrees) where
  users_first : (from : ℕ) (users : List Identity) (k : ℕ) (d : Identity) → k < length users
      → ((l : ℕ) → l < k → (i : ℕ) → i < length subtrees → HoldsAt st (get_or users l d) subtrees i)
      → ((i : ℕ) → i < j → HoldsAt st (get_or users k d) subtrees i) → is_guarded st (get_or subtrees j e) (get_or users k d) ≡ false
      → first (pairs_from st from users subtrees) ≡ Some (Pair (from + k) j (answer st (get_or users k d) (get_or subtrees j e)))
  users_first from [] k d inside before hold fails = absurd (omega (arith, inside))
  users_first from (user ∷ users) zero d inside before hold fails =
      let same : from ≡ from + 0 = omega arith in
      let whole : 0 + j ≡ j = omega arith in
      first_some _ _ _
      (user_first st from 0 user subtrees j e within hold fails ∙ ap (λ n. Some (Pair from n (answer st user (get_or subtrees j e)))) whole)
      ∙ ap (λ n. Some (Pair n j (answer st user (get_or subtrees j e)))) same
  users_first from (user ∷ users) (suc k) d inside before hold fails =
      let same : suc from + k ≡ from + suc k = omega arith in
      first_none _ _ (ap first (user_clear st from 0 user subtrees (before 0 (omega arith))))
      ∙ users_first (suc from) users k d (omega (arith, inside)) (λ l low. before (suc l) (omega (arith, low))) hold fails
      ∙ ap (λ n. Some (Pair n j (answer st (get_or users k d) (get_or subtrees j e)))) same

-- ---- as far as some subtrees

-- the guards of the first subtrees hold for a user
abbrev pub HoldBelow : State → Identity → List Names → ℕ → Type 0
HoldBelow st user subtrees n = (j : ℕ) → j < n → HoldsAt st user subtrees j

-- what was found: with no places as many users are left as there were, and else those before the place
abbrev pub IsFoundBelow : State → List Identity → List Names → ℕ → ℕ → Option (ℕ × ℕ) → Type 0
IsFoundBelow st users subtrees n left None = left ≡ length users
IsFoundBelow st users subtrees n left (Some at) =
    (at.0 ≡ left) × (at.0 < length users) × (at.1 < n)
    × ((d : Identity) → HoldBelow st (get_or users at.0 d) subtrees at.1)
    × ((d : Identity) (e : Names) → is_guarded st (get_or subtrees at.1 e) (get_or users at.0 d) ≡ false)

-- those left are the first users, and the guards of the first subtrees hold for them
pub record IsBelow (st : State) (users : List Identity) (subtrees : List Names) (n : ℕ) (left : List Identity) (found : Option (ℕ × ℕ)) :
    Type 0 where
  pub front : left ≡ take (length left) users
  pub hold : (k : ℕ) (d : Identity) → k < length left → HoldBelow st (get_or users k d) subtrees n
  pub first : IsFoundBelow st users subtrees n (length left) found

pub below_start : (st : State) (users : List Identity) (subtrees : List Names) → IsBelow st users subtrees 0 users None
below_start st users subtrees = record {
  front = sym (take_all (length users) users (omega arith));
  hold = λ k d within j low. absurd (omega (arith, low));
  first = refl;
}

pub below_end : (st : State) (users : List Identity) (subtrees : List Names) (n : ℕ) (left : List Identity) (found : Option (ℕ × ℕ))
    → n ≤ length subtrees → length subtrees ≤ n → IsBelow st users subtrees n left found → IsFirstUnguarded st users subtrees found
below_end st users subtrees n left None most all below =
    let whole = below.first in
    ap first
    (users_clear st 0 users subtrees (λ k d within j low. below.hold k d (omega (arith, within, whole)) j (omega (arith, low, all))))
below_end st users subtrees n left (Some at) most all below =
    let here = below.first in
    let from_none : 0 + at.0 ≡ at.0 = omega arith in
    let inside : at.1 < length subtrees = omega (arith, here.2, most) in (
      here.1,
      inside,
      λ d e.
          users_first st subtrees at.1 e inside 0 users at.0 d here.1
          (λ l low i within. below.hold l d (omega (arith, low, here.0)) i (omega (arith, within, all))) (here.3 d) (here.4 d e)
          ∙ ap (λ k. Some (Pair k at.1 (answer st (get_or users at.0 d) (get_or subtrees at.1 e)))) from_none,
    )

take_take : {A : Type 0} (n m : ℕ) (xs : List A) → n ≤ m → take n (take m xs) ≡ take n xs
take_take zero m xs low = refl
take_take (suc n) zero xs low = absurd (omega (arith, low))
take_take (suc n) (suc m) [] low = refl
take_take (suc n) (suc m) (x ∷ xs) low = ap (λ rest. x ∷ rest) (take_take n m xs (omega (arith, low)))

length_take : {A : Type 0} (n : ℕ) (xs : List A) → length (take n xs) ≤ length xs
length_take zero xs = omega arith
length_take (suc n) [] = omega arith
length_take (suc n) (x ∷ xs) = let rest = length_take n xs in omega (arith, rest)

other_default : {A : Type 0} (xs : List A) (i : ℕ) (d e : A) → i < length xs → get_or xs i d ≡ get_or xs i e
other_default [] i d e within = absurd (omega (arith, within))
other_default (x ∷ xs) zero d e within = refl
other_default (x ∷ xs) (suc i) d e within = other_default xs i d e (omega (arith, within))

-- as many of the first are all
pub all_left : (p : Identity → Bool) (before : Option Entry) (left next : List Identity) → next ≡ take_while p left
    → length next ≡ length left → AreSpared before next → AreSpared before left
all_left p before left next is same =
    subst (AreSpared before) (is ∙ take_all (prefix_len p left) left (omega (arith, ap length is ∙ length-prefix_len p left, same)))

-- ---- one subtree more

module _ (st : State) (users : List Identity) (subtrees : List Names) (n : ℕ) (subtree : Names) (left next : List Identity)
    (found : Option (ℕ × ℕ))
    (within : n < length subtrees) (at : subtree ≡ get_or subtrees n subtree) (is : next ≡ take_while (is_guarded st subtree) left)
    (below : IsBelow st users subtrees n left found) where
  many : length next ≡ prefix_len (is_guarded st subtree) left
  many = ap length is ∙ length-prefix_len (is_guarded st subtree) left

  fewer : length next ≤ length left
  fewer = let least = prefix_len-le-length (is_guarded st subtree) left in omega (arith, many, least)

  at_place : (k : ℕ) (d : Identity) (e : Names) → k < length left
      → is_guarded st (get_or subtrees n e) (get_or users k d) ≡ is_guarded st subtree (get_or left k d)
  at_place k d e inside =
      ap (λ path. is_guarded st path (get_or users k d)) (other_default subtrees n e subtree within ∙ sym at)
      ∙ ap (is_guarded st subtree) (sym (ap (λ xs. get_or xs k d) below.front ∙ get_or-take (length left) users k d inside))

  one_more : (k : ℕ) (d : Identity) → k < length next → HoldBelow st (get_or users k d) subtrees (n + 1)
  one_more k d inside =
      below_more (HoldsAt st (get_or users k d) subtrees) n (below.hold k d (omega (arith, inside, fewer)))
      (λ e. at_place k d e (omega (arith, inside, fewer))
      ∙ prefix_len_passes (is_guarded st subtree) left k d (omega (arith, inside, many)))

  front_of_next : next ≡ take (length next) users
  front_of_next = is ∙ ap (λ n. take n left) (sym many) ∙ ap (take (length next)) below.front
      ∙ take_take (length next) (length left) users fewer

  pub below_found : length next ≢ length left → IsBelow st users subtrees (n + 1) next (Some (length next, n))
  below_found other = record {
    front = front_of_next;
    hold = one_more;
    first = (
      refl,
      inside,
      omega arith,
      λ d. below.hold (length next) d less,
      λ d e. at_place (length next) d e less ∙ ap (λ k. is_guarded st subtree (get_or left k d)) many
          ∙ prefix_len_stops (is_guarded st subtree) left d (omega (arith, less, many)),
    );
  }
    where
      less : length next < length left
      less = omega (arith, fewer, other)

      inside : length next < length users
      inside = let most = length_take (length left) users in let same = ap length below.front in omega (arith, less, most, same)

  pub below_kept : length next ≡ length left → IsBelow st users subtrees (n + 1) left found
  below_kept same = record {
    front = below.front;
    hold = λ k d inside. one_more k d (omega (arith, inside, same));
    first = later found below.first;
  }
    where
      later : (at : Option (ℕ × ℕ)) → IsFoundBelow st users subtrees n (length left) at
          → IsFoundBelow st users subtrees (n + 1) (length left) at
      later None is = is
      later (Some at) is = (is.0, is.1, omega (arith, is.2), is.3, is.4)
