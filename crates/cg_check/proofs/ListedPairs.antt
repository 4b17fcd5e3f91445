-- What is listed are the pairs of places, each with the user and the subtree that stand there.
use Rattle.std.proofs.Common.{◌≡◌, ℕ, suc, ◌+◌, List, [], ◌∷◌, ◌++◌, length, length-append, append_assoc, Some, refl, sym, ◌∙◌, arith}
use Rattle.std.specs.Prelude.{slice_get}
use Rattle.std.specs.List.{flat_map}
use Rattle.std.proofs.lemmas.List.Concat.{flat_map-append}
use Rattle.cg_cgroup.specs.Paths.{Names}
use Rattle.cg_cgroup.specs.Identity.{Identity}
use Rattle.cg_model.specs.States.{State}
use Rattle.cg_model.specs.Clauses.{present}
use Rattle.cg_model.specs.Answers.{answer}
use Rattle.cg_model.specs.AllAnswers.{pair_unless_contained, pairs_of, pairs_from}
use Rattle.cg_model.specs.Listed.{listed_unless_contained, listed_of, listed}
use Rattle.cg_check.specs.Listed.{listed_at}
use Rattle.cg_model.specs.declared.answer.Answer.{Answer}
use Rattle.cg_model.specs.declared.answer.Answer.TheVariants.{Contained, Escapes, Unsettled}

-- the one between two lists
at_front : {A : Type 0} (front : List A) (x : A) (others : List A) → slice_get (front ++ x ∷ others) (length front) ≡ Some x
at_front [] x others = refl
at_front (y ∷ front) x others = at_front front x others

stands : {A : Type 0} (front : List A) (x : A) (others all : List A) (place : ℕ) → front ++ x ∷ others ≡ all → length front ≡ place
    → slice_get all place ≡ Some x
stands front x others all place whole count = sym (λ i. slice_get (whole i) (count i)) ∙ at_front front x others

module _ (st : State) (users : List Identity) (subtrees : List Names) where
  one_listed : (place from : ℕ) (user : Identity) (subtree : Names) (found : Answer) → slice_get users place ≡ Some user
      → slice_get subtrees from ≡ Some subtree
      → flat_map (listed_at users subtrees) (pair_unless_contained place from found) ≡ listed_unless_contained user subtree found
  one_listed place from user subtree Contained at_user at_subtree = refl
  one_listed place from user subtree (Escapes ops) at_user at_subtree =
      λ i. present (at_user i) (λ who. present (at_subtree i) (λ path. record { user = who; subtree = path; found = Escapes ops } ∷ []))
      ++ []
  one_listed place from user subtree (Unsettled failed) at_user at_subtree =
      λ i.
      present (at_user i) (λ who. present (at_subtree i) (λ path. record { user = who; subtree = path; found = Unsettled failed } ∷ []))
      ++ []

  -- the pairs of a user with the subtrees behind a front
  of_user_listed : (place : ℕ) (user : Identity) (front rest : List Names) (from : ℕ) → slice_get users place ≡ Some user
      → front ++ rest ≡ subtrees → length front ≡ from
      → flat_map (listed_at users subtrees) (pairs_of st place user from rest) ≡ listed_of st rest user
  of_user_listed place user front [] from at_user whole count = refl
  of_user_listed place user front (subtree ∷ rest) from at_user whole count =
      let more : length (front ++ subtree ∷ []) ≡ suc from = omega (arith, length-append front (subtree ∷ []), count) in
      flat_map-append (listed_at users subtrees) (pair_unless_contained place from (answer st user subtree))
      (pairs_of st place user (suc from) rest)
      ∙ (λ i.
      one_listed place from user subtree (answer st user subtree) at_user (stands front subtree rest subtrees from whole count) i
      ++ of_user_listed place user (front ++ subtree ∷ []) rest (suc from) at_user (append_assoc front (subtree ∷ []) rest ∙ whole) more i)

  of_users_listed : (front rest : List Identity) (from : ℕ) → front ++ rest ≡ users → length front ≡ from
      → flat_map (listed_at users subtrees) (pairs_from st from rest subtrees) ≡ listed st rest subtrees
  of_users_listed front [] from whole count = refl
  of_users_listed front (user ∷ rest) from whole count =
      let more : length (front ++ user ∷ []) ≡ suc from = omega (arith, length-append front (user ∷ []), count) in
      flat_map-append (listed_at users subtrees) (pairs_of st from user 0 subtrees) (pairs_from st (suc from) rest subtrees)
      ∙ (λ i.
      of_user_listed from user [] subtrees 0 (stands front user rest users from whole count) refl refl i
      ++ of_users_listed (front ++ user ∷ []) rest (suc from) (append_assoc front (user ∷ []) rest ∙ whole) more i)

  pub pairs-listed : listed st users subtrees ≡ flat_map (listed_at users subtrees) (pairs_from st 0 users subtrees)
  pairs-listed = sym (of_users_listed [] users 0 refl refl)

-- ---- as many

module _ (st : State) where
  one_count : (place from : ℕ) (user : Identity) (subtree : Names) (found : Answer)
      → length (listed_unless_contained user subtree found) ≡ length (pair_unless_contained place from found)
  one_count place from user subtree Contained = refl
  one_count place from user subtree (Escapes ops) = refl
  one_count place from user subtree (Unsettled failed) = refl

  of_user_count : (place from : ℕ) (user : Identity) (subtrees : List Names)
      → length (listed_of st subtrees user) ≡ length (pairs_of st place user from subtrees)
  of_user_count place from user [] = refl
  of_user_count place from user (subtree ∷ subtrees) =
      length-append (listed_unless_contained user subtree (answer st user subtree)) (listed_of st subtrees user)
      ∙ (λ i. one_count place from user subtree (answer st user subtree) i + of_user_count place (suc from) user subtrees i)
      ∙ sym (length-append (pair_unless_contained place from (answer st user subtree)) (pairs_of st place user (suc from) subtrees))

  pub pairs-count : (from : ℕ) (users : List Identity) (subtrees : List Names)
      → length (listed st users subtrees) ≡ length (pairs_from st from users subtrees)
  pairs-count from [] subtrees = refl
  pairs-count from (user ∷ users) subtrees =
      length-append (listed_of st subtrees user) (listed st users subtrees)
      ∙ (λ i. of_user_count from 0 user subtrees i + pairs-count (suc from) users subtrees i)
      ∙ sym (length-append (pairs_of st from user 0 subtrees) (pairs_from st (suc from) users subtrees))
