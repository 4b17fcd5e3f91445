-- The pairs that are listed are those that aren't contained.
use Rattle.std.proofs.Common.{◌≡◌, ◌≢◌, ◌↔◌, ℕ, ⊎_elim, List, [], ◌∷◌, refl, ap, sym, ◌∙◌, subst, arith}
use Rattle.std.specs.List.{Contains, slice_index_or, flat_map}
use Rattle.std.proofs.lemmas.List.Elements.{Contains-append_left, Contains-append_right, Contains-append_cases}
use Rattle.cg_cgroup.specs.Paths.{Names}
use Rattle.cg_cgroup.specs.Identity.{Identity}
use Rattle.cg_model.specs.States.{State}
use Rattle.cg_model.specs.Answers.{answer}
use Rattle.cg_model.specs.Listed.{Listed, listed_unless_contained, listed_of, listed}
use Rattle.cg_model.specs.declared.answer.Answer.{Answer}
use Rattle.cg_model.specs.declared.answer.Answer.TheVariants.{Contained, Escapes, Unsettled}

pub none : {A P : Type 0} (x : A) → Contains [] x → P
none x among = absurd (omega (arith, among.1))

pub single : {A : Type 0} (z x : A) → Contains (z ∷ []) x → z ≡ x
single z x among =
    let at : among.0 ≡ 0 = omega (arith, among.1) in
    sym (ap (λ (k : ℕ). slice_index_or (z ∷ []) k x) at) ∙ among.2

-- what lists hold together, one of them holds
one_of : {A B : Type 0} (f : A → List B) (xs : List A) (y : B) → Contains (flat_map f xs) y → (x : A) × Contains xs x × Contains (f x) y
one_of f [] y among = none y among
one_of f (x ∷ xs) y among =
    ⊎_elim (λ here. (x, (0, omega arith, refl), here))
    (λ later.
    let rest = one_of f xs y later in
    (rest.0, Contains-append_right (x ∷ []) xs rest.0 rest.1, rest.2))
    (Contains-append_cases (f x) (flat_map f xs) y among)

pub of_one : {A B : Type 0} (f : A → List B) (xs : List A) (x : A) (y : B) → Contains xs x → Contains (f x) y → Contains (flat_map f xs) y
of_one f [] x y among holds = none x among
of_one f (z ∷ xs) x y among holds =
    ⊎_elim (λ here. Contains-append_left (f z) (flat_map f xs) y (subst (λ w. Contains (f w) y) (sym (single z x here)) holds))
    (λ later. Contains-append_right (f z) (flat_map f xs) y (of_one f xs x y later holds))
    (Contains-append_cases (z ∷ []) xs x among)

module _ (user : Identity) (subtree : Names) where
  pair_is : (found : Answer) (pair : Listed) → Contains (listed_unless_contained user subtree found) pair
      → (pair.user ≡ user) × (pair.subtree ≡ subtree) × (pair.found ≡ found) × (found ≢ Contained)
  pair_is Contained pair among = none pair among
  pair_is (Escapes ops) pair among =
      let same = sym (single (record { user = user; subtree = subtree; found = Escapes ops }) pair among) in
      (ap (λ (p : Listed). p.user) same, ap (λ (p : Listed). p.subtree) same, ap (λ (p : Listed). p.found) same, λ never. cc)
  pair_is (Unsettled failed) pair among =
      let same = sym (single (record { user = user; subtree = subtree; found = Unsettled failed }) pair among) in
      (ap (λ (p : Listed). p.user) same, ap (λ (p : Listed). p.subtree) same, ap (λ (p : Listed). p.found) same, λ never. cc)

  pair_there : (found : Answer) → found ≢ Contained
      → Contains (listed_unless_contained user subtree found) (record { user = user; subtree = subtree; found = found })
  pair_there Contained other = absurd (other refl)
  pair_there (Escapes ops) other = (0, omega arith, refl)
  pair_there (Unsettled failed) other = (0, omega arith, refl)

pub listed_are : (st : State) (users : List Identity) (subtrees : List Names) (pair : Listed)
    → Contains (listed st users subtrees) pair ↔ (Contains users pair.user × Contains subtrees pair.subtree
    × (pair.found ≡ answer st pair.user pair.subtree) × (pair.found ≢ Contained))
listed_are st users subtrees pair = (
  λ among.
      let who = one_of (listed_of st subtrees) users pair among in
      let path = one_of (λ subtree. listed_unless_contained who.0 subtree (answer st who.0 subtree)) subtrees pair who.2 in
      let is = pair_is who.0 path.0 (answer st who.0 path.0) pair path.2 in (
        subst (Contains users) (sym is.0) who.1,
        subst (Contains subtrees) (sym is.1) path.1,
        is.2 ∙ (λ i. answer st (sym is.0 i) (sym is.1 i)),
        λ same. is.3 (sym is.2 ∙ same),
      ),
  λ are. of_one (listed_of st subtrees) users pair.user pair are.0
      (of_one (λ subtree. listed_unless_contained pair.user subtree (answer st pair.user subtree)) subtrees pair.subtree pair are.1
      (subst (λ found. Contains (listed_unless_contained pair.user pair.subtree found) pair) are.2
      (pair_there pair.user pair.subtree pair.found are.3))),
)
