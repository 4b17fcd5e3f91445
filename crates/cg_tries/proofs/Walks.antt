-- A walk over a list: what is still to come.
use Rattle.std.proofs.Common.{◌≡◌, ℕ, suc, ◌+◌, ◌<◌, Bool, true, false, cond, List, [], ◌∷◌, length, filter, get_or, drop, Option, None, refl, sym, ap, ◌∙◌, arith}
use Rattle.std.proofs.Math.Seq.{drop-cons}
use Rattle.std.specs.Option.{option_or}
use Rattle.cg_cgroup.specs.Paths.{Names}
use Rattle.cg_cgroup.specs.Identity.{Identity}
use Rattle.cg_cgroup.specs.Files.{all_controllers}
use Rattle.cg_model.specs.States.{State}
use Rattle.cg_model.specs.Tries.{is_told, told_controllers}
use Rattle.cg_tries.specs.Finding.{first_given, control_of, told_control_of, first_control}

pub given_next : {A B : Type 0} (f : A → Option B) (xs : List A) (i : ℕ) (d : A) → i < length xs
    → first_given f (drop i xs) ≡ option_or (f (get_or xs i d)) (first_given f (drop (i + 1) xs))
given_next f xs i d h = ap (first_given f) (drop-cons xs i d h)
    ∙ ap (λ n. option_or (f (get_or xs i d)) (first_given f (drop n xs))) (let e : suc i ≡ i + 1 = omega arith in e)

pub given_past : {A B : Type 0} (f : A → Option B) (xs : List A) (i : ℕ) (d : A) → i < length xs → f (get_or xs i d) ≡ None
    → first_given f (drop (i + 1) xs) ≡ first_given f (drop i xs)
given_past f xs i d h none = sym (given_next f xs i d h ∙ ap (λ o. option_or o (first_given f (drop (i + 1) xs))) none)

pub given-none : {A B : Type 0} (f : A → Option B) (xs : List A) → ((x : A) → f x ≡ None) → first_given f xs ≡ None
given-none f [] none = refl
given-none f (x ∷ xs) none = ap (λ o. option_or o (first_given f xs)) (none x) ∙ given-none f xs none

-- the first of those that pass
pub given-filter : {A B : Type 0} (f : A → Option B) (test : A → Bool) (xs : List A)
    → first_given f (filter test xs) ≡ first_given (λ x. cond (test x) (f x) None) xs
given-filter f test [] = refl
given-filter f test (x ∷ xs) =
    elim (test x) as (λ b. first_given f (cond b (x ∷ filter test xs) (filter test xs))
    ≡ option_or (cond b (f x) None) (first_given (λ x. cond (test x) (f x) None) xs)) [
      | true ↦ ap (option_or (f x)) (given-filter f test xs)
      | false ↦ given-filter f test xs
    ]

-- the first control goes over all controllers, past those that aren't told of
pub first_control_told : (st : State) (user : Identity) (subtree : Names)
    → first_control st user subtree ≡ first_given (told_control_of st user subtree) all_controllers
unfolding told_controllers
first_control_told st user subtree = given-filter (control_of st user subtree) (is_told st) all_controllers
