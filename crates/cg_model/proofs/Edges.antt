-- The processes that cross the edge of a subtree between two states.
use Rattle.std.proofs.Common.{◌≡◌, ◌≢◌, ℕ, Bool, true, false, cond, not, ◌||◌, List, [], ◌∷◌, filter, refl, sym, ap, ◌∙◌, true≢false, Option, Some, None, is_some, eqb-true}
use Rattle.std.specs.List.{list_any}
use Rattle.std.specs.Ordering.{nat_cmp, eq_by_cmp}
use Rattle.std.specs.Cmp.{unsigned_ties}
use Rattle.std.specs.FinMap.{contains_key-keys}
use Rattle.cg_cgroup.specs.Paths.{Names, inside}
use Rattle.cg_model.specs.States.{State, process_at, place_at, pids_of}
use Rattle.cg_model.specs.Edge.{is_crossed, crossing}

pub stays-there : (subtree : Names) (place : Option Names) → is_crossed subtree place place ≡ false
stays-there subtree None = refl
stays-there subtree (Some place) = elim (inside subtree place) as (λ b. cond b (not b) b ≡ false) [ true ↦ refl | false ↦ refl ]

filter_none : {A : Type 0} (test : A → Bool) (xs : List A) → ((x : A) → test x ≡ false) → filter test xs ≡ []
filter_none test [] h = refl
filter_none test (x ∷ xs) h = ap (λ b. cond b (x ∷ filter test xs) (filter test xs)) (h x) ∙ filter_none test xs h

pub none-crosses : (st new : State) (subtree : Names) → ((q : ℕ) → is_crossed subtree (place_at st q) (place_at new q) ≡ false)
    → crossing st new subtree ≡ []
none-crosses st new subtree = filter_none (λ pid. is_crossed subtree (place_at st pid) (place_at new pid)) (pids_of st)

pub none-crosses-same : (st : State) (subtree : Names) → crossing st st subtree ≡ []
none-crosses-same st subtree = none-crosses st st subtree (λ q. stays-there subtree (place_at st q))

-- a PID that passes is left by a filter
not_filtered : (p : ℕ → Bool) (pids : List ℕ) (pid : ℕ) → list_any (eq_by_cmp nat_cmp pid) pids ≡ true → p pid ≡ true → filter p pids ≢ []
not_filtered p [] pid h passed none = true≢false (sym h)
not_filtered p (first ∷ pids) pid h passed none =
    elim (eq_by_cmp nat_cmp pid first) as (λ b. eq_by_cmp nat_cmp pid first ≡ b → (b || list_any (eq_by_cmp nat_cmp pid) pids) ≡ true → ⊥) [
      | true ↦
          λ is _. filtered_some _ _ (sym (ap (λ b. cond b (first ∷ filter p pids) (filter p pids))
          (ap p (sym (eqb-true pid first (unsigned_ties pid first ∙ is))) ∙ passed)) ∙ none)
      | false ↦ λ _ rest. elim (p first) as (λ b. cond b (first ∷ filter p pids) (filter p pids) ≡ [] → ⊥) [
        | true ↦ λ none. filtered_some _ _ none
        | false ↦ λ none. not_filtered p pids pid rest passed none
      ] none
    ] refl h
  where
    filtered_some : (x : ℕ) (xs : List ℕ) → x ∷ xs ≢ []
    filtered_some x xs e = cc

-- a live process on the other side of the edge crosses it
pub crosses-some : (st new : State) (subtree : Names) (pid : ℕ) → is_some (process_at st pid) ≡ true
    → is_crossed subtree (place_at st pid) (place_at new pid) ≡ true → crossing st new subtree ≢ []
crosses-some st new subtree pid live crossed =
    not_filtered (λ p. is_crossed subtree (place_at st p) (place_at new p)) (pids_of st) pid (sym (contains_key-keys st.live pid) ∙ live)
    crossed
