-- What is gathered from a finite map's entries, one by one and in any order: after an insert at a new key and after a remove.
use Rattle.std.proofs.Common.{◌≡◌, Bool, true, false, cond, List, [], ◌∷◌, refl, sym, ap, ◌∙◌, true≢false, Some, None, is_some, Ordering, Less, Equal, Greater}
use Rattle.std.specs.Ordering.{eq_by_cmp, is_eq}
use Rattle.std.specs.Cmp.{IsTotalOrder, Equal-is, eq_by_cmp_equiv}
use Rattle.std.specs.FinMap as finite
use Rattle.std.specs.FinMap.{FinMap, IsAntisymmetric, get, insert, remove, entries}
use Rattle.std.specs.FinMap.Entries.{find, put, by_order}

-- the items from the last to the first
abbrev pub gathered : {A B : Type 0} → (A → B → B) → B → List A → B
gathered step start [] = start
gathered step start (x ∷ xs) = step x (gathered step start xs)

abbrev pub Commutes : {A B : Type 0} → (A → B → B) → Type 0
Commutes {A} {B} step = (x y : A) (b : B) → step x (step y b) ≡ step y (step x b)

module _ {K X B : Type 0} (R : K → K → Ordering) (step : K × X → B → B) (start : B) where
  gathered-put : Commutes step → (k : K) (v : X) (es : List (K × X)) → find R k es ≡ None
      → gathered step start (put R k v es) ≡ step (k, v) (gathered step start es)
  gathered-put swaps k v [] none = refl
  gathered-put swaps k v (e ∷ es) none =
      elim (R k e.0) as (λ r. cond (is_eq r) (Some e.1) (find R k es) ≡ None
      → gathered step start (by_order r ((k, v) ∷ e ∷ es) ((e.0, v) ∷ es) (e ∷ put R k v es))
      ≡ step (k, v) (step e (gathered step start es))) [
        | Less ↦ λ none. refl
        | Equal ↦ λ none. absurd (true≢false (ap is_some none))
        | Greater ↦ λ none. ap (step e) (gathered-put swaps k v es none) ∙ swaps e (k, v) (gathered step start es)
      ] none

module _ {K X : Type 0} {R : K → K → Ordering} (o : IsTotalOrder R) where
  pub gathered-insert : {B : Type 0} (step : K × X → B → B) (start : B) → Commutes step → (m : FinMap R X) (k : K) (v : X) → get m k ≡ None
      → gathered step start (entries (insert m k v)) ≡ step (k, v) (gathered step start (entries m))
  gathered-insert step start swaps m k v none =
      ap (gathered step start) (finite.entries-insert o m k v)
      ∙ gathered-put R step start swaps k v (entries m) (sym (finite.get-entries m k) ∙ none)

  pub get-remove-same : (m : FinMap R X) (k : K) → get (remove m k) k ≡ None
  get-remove-same m k = finite.get-remove o m k k ∙ ap (λ b. cond b None (get m k)) ((eq_by_cmp_equiv o).refl k)

  -- an insert puts a value where it was removed
  pub insert-remove : IsAntisymmetric R → (m : FinMap R X) (k : K) (v : X) → insert (remove m k) k v ≡ insert m k v
  insert-remove same m k v = finite.same_map o same (insert (remove m k) k v) (insert m k v) (λ q.
      finite.get-insert o (remove m k) k v q ∙ ap (cond (eq_by_cmp R q k) (Some v)) (finite.get-remove o m k q)
      ∙ once (eq_by_cmp R q k) (Some v) None (get m q) ∙ sym (finite.get-insert o m k v q))
    where
      once : {A : Type 0} (b : Bool) (x y z : A) → cond b x (cond b y z) ≡ cond b x z
      once true x y z = refl
      once false x y z = refl

  -- the map is as before where the value at a key is inserted again
  pub insert_again : IsAntisymmetric R → (m : FinMap R X) (k : K) (v : X) → get m k ≡ Some v → insert m k v ≡ m
  insert_again same m k v is = finite.same_map o same (insert m k v) m (λ q.
      finite.get-insert o m k v q ∙ elim (eq_by_cmp R q k) as (λ b. eq_by_cmp R q k ≡ b → cond b (Some v) (get m q) ≡ get m q) [
        | true ↦ λ tied. sym is ∙ finite.get_tied o m q k ((Equal-is _).0 tied)
        | false ↦ λ _. refl
      ] refl)

  pub gathered-remove : {B : Type 0} (step : K × X → B → B) (start : B) → Commutes step → IsAntisymmetric R
      → (m : FinMap R X) (k : K) (v : X) → get m k ≡ Some v
      → gathered step start (entries m) ≡ step (k, v) (gathered step start (entries (remove m k)))
  gathered-remove step start swaps same m k v is =
      ap (λ n. gathered step start (entries n)) (sym (insert-remove same m k v ∙ insert_again same m k v is))
      ∙ gathered-insert step start swaps (remove m k) k v (get-remove-same m k)
