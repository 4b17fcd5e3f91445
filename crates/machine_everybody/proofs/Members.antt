-- Users of whom lists tell, and users of whom they don't.
use Rattle.std.proofs.Common.{◌≡◌, ◌≢◌, ℕ, ◌+◌, ◌<◌, Bool, true, false, true≢false, not, ◌&&◌, ◌||◌, List, [], ◌∷◌, refl, sym, ap, ◌∙◌, nat_eq, eqb-true, eq-eqb, arith}
use Rattle.std.specs.List.{list_any}
use Rattle.machine_everybody.specs.Everybody.{Everybody, has_listed}

pub or_true : (a : Bool) → (a || true) ≡ true
or_true true = refl
or_true false = refl

pub or_false : (a : Bool) → (a || false) ≡ a
or_false true = refl
or_false false = refl

pub both : (a b : Bool) → (a && b) ≡ true → (a ≡ true) × (b ≡ true)
both true b is = (refl, is)
both false b is = absurd (true≢false (sym is))

pub neither : (a b : Bool) → (a || b) ≡ false → (a ≡ false) × (b ≡ false)
neither true b is = absurd (true≢false is)
neither false b is = (refl, is)

pub is_not : (a : Bool) → not a ≡ true → a ≡ false
is_not true is = absurd (true≢false (sym is))
is_not false is = refl

pub differ : (n m : ℕ) → n ≢ m → nat_eq n m ≡ false
differ n m apart =
    elim (nat_eq n m) as (λ b. nat_eq n m ≡ b → b ≡ false) [
      | true ↦ λ is. absurd (apart (eqb-true n m is))
      | false ↦ λ is. refl
    ] refl

pub flipped : (n m : ℕ) → nat_eq n m ≡ false → nat_eq m n ≡ false
flipped n m apart = differ m n (λ is. true≢false (sym (eq-eqb n m (sym is)) ∙ apart))

-- ---- somebody whom no list names

abbrev total : List ℕ → ℕ
total [] = 0
total (n ∷ ns) = n + total ns

unnamed : (ns : List ℕ) (n : ℕ) → total ns < n → list_any (λ other. nat_eq other n) ns ≡ false
unnamed [] n above = refl
unnamed (m ∷ ns) n above =
    let sum : m + total ns < n = above in
    ap (λ b. b || list_any (λ other. nat_eq other n) ns) (differ m n (λ is. omega (arith, sum, is))) ∙ unnamed ns n (omega (arith, sum))

pub fresh : (ns : List ℕ) → (n : ℕ) × (n ≢ 0) × (list_any (λ other. nat_eq other n) ns ≡ false)
fresh ns = (1 + total ns, (λ is. omega (arith, is)), unnamed ns (1 + total ns) (omega arith))

-- ---- somebody whom a list names

pub weaker : {A : Type 0} (one other : A → Bool) → ((x : A) → one x ≡ true → other x ≡ true) → (xs : List A)
    → list_any one xs ≡ true → list_any other xs ≡ true
weaker one other further [] some = absurd (true≢false (sym some))
weaker one other further (x ∷ xs) some = by_first (one x) refl (λ rest. weaker one other further xs rest)
  where
    by_first : (b : Bool) → one x ≡ b → (list_any one xs ≡ true → list_any other xs ≡ true) → list_any other (x ∷ xs) ≡ true
    by_first true is later = ap (λ b. b || list_any other xs) (further x is)
    by_first false is later =
        ap (λ b. other x || b) (later (sym (ap (λ b. b || list_any one xs) is) ∙ some)) ∙ or_true (other x)

abbrev Named : (ℕ → Bool) → List ℕ → Type 0
Named test ns = (n : ℕ) × (test n ≡ true) × (list_any (nat_eq n) ns ≡ true)

named : (test : ℕ → Bool) (ns : List ℕ) → list_any test ns ≡ true → Named test ns
named test [] some = absurd (true≢false (sym some))
named test (m ∷ ns) some = by_first (test m) refl (λ rest. named test ns rest)
  where
    by_first : (b : Bool) → test m ≡ b → (list_any test ns ≡ true → Named test ns) → Named test (m ∷ ns)
    by_first true is later = (m, is, ap (λ b. b || list_any (nat_eq m) ns) (eq-eqb m m refl))
    by_first false is later =
        let rest = later (sym (ap (λ b. b || list_any test ns) is) ∙ some) in
        (rest.0, rest.1, ap (λ b. nat_eq rest.0 m || b) rest.2 ∙ or_true (nat_eq rest.0 m))

-- whether a uid stands in one of the lists of a group
abbrev pub within : ℕ → ℕ → ℕ × List ℕ → Bool
within gid n group = nat_eq group.0 gid && list_any (nat_eq n) group.1

abbrev pub IsAmong : (groups : List (ℕ × List ℕ)) → ℕ → (ℕ → Bool) → Type 0
IsAmong groups gid test = (n : ℕ) × (test n ≡ true) × (list_any (within gid n) groups ≡ true)

-- One of a listed group who passes a test.
pub listed_one : (groups : List (ℕ × List ℕ)) (gid : ℕ) (test : ℕ → Bool)
    → list_any (λ group. nat_eq group.0 gid && list_any test group.1) groups ≡ true → IsAmong groups gid test
listed_one [] gid test some = absurd (true≢false (sym some))
listed_one (group ∷ groups) gid test some =
    by_first (nat_eq group.0 gid && list_any test group.1) refl (λ rest. listed_one groups gid test rest)
  where
    by_first : (b : Bool) → (nat_eq group.0 gid && list_any test group.1) ≡ b
        → (list_any (λ other. nat_eq other.0 gid && list_any test other.1) groups ≡ true → IsAmong groups gid test)
        → IsAmong (group ∷ groups) gid test
    by_first true is later =
        let parts = both (nat_eq group.0 gid) (list_any test group.1) is in
        let one = named test group.1 parts.1 in (
          one.0,
          one.1,
          ap (λ b. (b && list_any (nat_eq one.0) group.1) || list_any (within gid one.0) groups) parts.0
              ∙ ap (λ b. b || list_any (within gid one.0) groups) one.2,
        )
    by_first false is later =
        let rest = later (sym (ap (λ b. b || list_any (λ other. nat_eq other.0 gid && list_any test other.1) groups) is) ∙ some) in
        (rest.0, rest.1, ap (λ b. within gid rest.0 group || b) rest.2 ∙ or_true (within gid rest.0 group))

-- Of those of a listed group one who passes a test stands for whoever passes it.
pub listed_for : (asked : Everybody) (gid : ℕ) (one other : ℕ → Bool) → ((n : ℕ) → one n ≡ true → other n ≡ true)
    → has_listed asked gid one ≡ true → has_listed asked gid other ≡ true
listed_for asked gid one other further =
    weaker (λ group. nat_eq group.0 gid && list_any one group.1) (λ group. nat_eq group.0 gid && list_any other group.1)
    (λ group is.
    let parts = both (nat_eq group.0 gid) (list_any one group.1) is in
    ap (λ b. b && list_any other group.1) parts.0 ∙ weaker one other further group.1 parts.1) asked.groups
