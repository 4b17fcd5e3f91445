-- What is known of several users together, from what is found of each alone; and that those who aren't listed are settled.
use Rattle.std.proofs.Common.{◌≡◌, ◌≢◌, ℕ, zero, suc, ◌+◌, ◌<◌, Bool, true, false, not, cond, List, [], ◌∷◌, ◌++◌, length, get_or}
use Rattle.std.proofs.Common.{refl, sym, ap, ◌∙◌, subst, arith}
use Rattle.std.specs.List.{All, Contains}
use Rattle.std.proofs.lemmas.List.{get_or_default}
use Rattle.std.proofs.lemmas.List.Elements.{All-cons, All-nil}
use Rattle.cg_cgroup.specs.Paths.{Names}
use Rattle.cg_cgroup.specs.Identity.{Identity}
use Rattle.cg_model.specs.States.{State}
use Rattle.cg_model.specs.WellFormed.{IsWellFormed}
use Rattle.cg_model.specs.Guards.{IsSubtree}
use Rattle.cg_model.specs.Held.{IsContained}
use Rattle.cg_model.specs.Strangers.{GuardsHoldForAll}
use Rattle.cg_model.specs.Answers.{answer}
use Rattle.cg_model.specs.Listed.{is_contained}
use Rattle.cg_model.specs.declared.answer.Answer.{Answer}
use Rattle.cg_model.specs.declared.answer.Answer.TheVariants.{Contained, Escapes, Unsettled}
use Rattle.cg_second.specs.SecondRow.{SecondRowHolds, AreSettled}
use Rattle.cg_second.specs.Judged.{second_row}
use Rattle.cg_second.proofs.Judged.{judged}
use Rattle.cg_second.proofs.Cases.{second-guarded, second-fewer}
use Rattle.cg_second.proofs.Runs.{are_settled, contained-settled}
use Rattle.cg_laws.proofs.Steps.{sound-formed}
use Rattle.cg_check.proofs.Checking.{answer-guarded}
use Rattle.cg_cli.specs.Audited.{has_list, without_list, IsKnownFrom, AreKnown, AreKnownWithEach, UnlistedAreSettled}
use Rattle.cg_cli.specs.FurtherPairs.{picked, not_listed}
use Rattle.cg_cli.specs.FoundPlaces.{IsAlone, is_unsettled}
use Rattle.cg_cli.proofs.FoundPlaces.{kept}

-- ---- those of some places

pub picked_more : {A : Type 0} (test : ℕ → Bool) (n : ℕ) (xs : List A) (x : A)
    → picked test n (xs ++ x ∷ []) ≡ picked test n xs ++ cond (test (n + length xs)) (x ∷ []) []
picked_more {A} test n [] x = let same : n + 0 ≡ n = omega arith in (λ i. cond (test (sym same i)) (x ∷ []) [])
picked_more {A} test n (y ∷ ys) x =
    let same : suc n + length ys ≡ n + suc (length ys) = omega arith in
    let rest : picked test (suc n) (ys ++ x ∷ []) ≡ picked test (suc n) ys ++ cond (test (n + suc (length ys))) (x ∷ []) [] =
    picked_more test (suc n) ys x ∙ (λ i. picked test (suc n) ys ++ cond (test (same i)) (x ∷ []) []) in
    (λ i. cond (test n) (y ∷ rest i) (rest i)) ∙ by_test (test n) (cond (test (n + suc (length ys))) (x ∷ []) [])
  where
    by_test : (b : Bool) (last : List A) → cond b (y ∷ (picked test (suc n) ys ++ last)) (picked test (suc n) ys ++ last)
        ≡ cond b (y ∷ picked test (suc n) ys) (picked test (suc n) ys) ++ last
    by_test true last = refl
    by_test false last = refl

-- an element of a list at a place from another on that passes
abbrev PassesAt : {A : Type 0} → (ℕ → Bool) → ℕ → List A → A → Type 0
PassesAt test n xs x = (place : ℕ) × (place < length xs) × (get_or xs place x ≡ x) × (test (n + place) ≡ true)

module _ {A : Type 0} (test : ℕ → Bool) (n : ℕ) (y : A) (ys : List A) (x : A)
    (again : Contains (picked test (suc n) ys) x → PassesAt test (suc n) ys x) where
  passes_later : Contains (picked test (suc n) ys) x → PassesAt test n (y ∷ ys) x
  passes_later within =
      let found = again within in
      let low = found.1 in
      let same : suc n + found.0 ≡ n + suc found.0 = omega arith in
      (suc found.0, omega (arith, low), found.2, (λ i. test (sym same i)) ∙ found.3)

  passes_here : test n ≡ true → (k : ℕ) → k < suc (length (picked test (suc n) ys)) → get_or (y ∷ picked test (suc n) ys) k x ≡ x
      → PassesAt test n (y ∷ ys) x
  passes_here passes zero inside same =
      let none : n + 0 ≡ n = omega arith in (0, omega arith, same, (λ i. test (none i)) ∙ passes)
  passes_here passes (suc k) inside same = passes_later (k, omega (arith, inside), same)

  passes_either : (b : Bool) → test n ≡ b → Contains (cond b (y ∷ picked test (suc n) ys) (picked test (suc n) ys)) x
      → PassesAt test n (y ∷ ys) x
  passes_either true passes within = passes_here passes within.0 within.1 within.2
  passes_either false fails within = passes_later within

-- one of them has a place that passes
picked_passes : {A : Type 0} (test : ℕ → Bool) (n : ℕ) (xs : List A) (x : A) → Contains (picked test n xs) x → PassesAt test n xs x
picked_passes test n [] x among = absurd (omega (arith, among.1))
picked_passes test n (y ∷ ys) x among = passes_either test n y ys x (picked_passes test (suc n) ys x) (test n) refl among

-- and whose place passes is one of them
passes_picked : {A : Type 0} (test : ℕ → Bool) (n : ℕ) (xs : List A) (place : ℕ) (x : A) → place < length xs → get_or xs place x ≡ x
    → test (n + place) ≡ true → Contains (picked test n xs) x
passes_picked test n [] place x within at passes = let never : ⊥ = omega (arith, within) in absurd never
passes_picked test n (y ∷ ys) zero x within at passes =
    let none : n + 0 ≡ n = omega arith in
    subst (λ b. Contains (cond b (y ∷ picked test (suc n) ys) (picked test (suc n) ys)) x) ((λ i. sym passes i) ∙ (λ i. test (none i)))
    (0, omega arith, at)
passes_picked test n (y ∷ ys) (suc place) x within at passes =
    let same : n + suc place ≡ suc n + place = omega arith in
    let rest = passes_picked test (suc n) ys place x (omega (arith, within)) at ((λ i. test (sym same i)) ∙ passes) in
    by_test (test n) rest
  where
    by_test : (b : Bool) → Contains (picked test (suc n) ys) x
        → Contains (cond b (y ∷ picked test (suc n) ys) (picked test (suc n) ys)) x
    by_test true at_rest = let low = at_rest.1 in (suc at_rest.0, omega (arith, low), at_rest.2)
    by_test false at_rest = at_rest

-- the same of all places
picked_at : {A : Type 0} (test : ℕ → Bool) (xs : List A) (x : A) → Contains (picked test 0 xs) x
    → (place : ℕ) × (place < length xs) × (get_or xs place x ≡ x) × (test place ≡ true)
picked_at test xs x among =
    let at = picked_passes test 0 xs x among in
    let whole : 0 + at.0 ≡ at.0 = omega arith in (at.0, at.1, at.2, (λ i. test (sym whole i)) ∙ at.3)

at_picked : {A : Type 0} (test : ℕ → Bool) (xs : List A) (place : ℕ) (x : A) → place < length xs → get_or xs place x ≡ x
    → test place ≡ true → Contains (picked test 0 xs) x
at_picked test xs place x within at passes =
    let whole : 0 + place ≡ place = omega arith in passes_picked test 0 xs place x within at ((λ i. test (whole i)) ∙ passes)

-- ---- together, from each alone

module _ (st : State) (user : Identity) (subtree : Names) (together : Bool) where
  abbrev Known : Answer → Answer → Type 0
  Known given found = IsKnownFrom st user subtree together given found

  abbrev AloneFrom : Answer → Answer → Type 0
  AloneFrom given found = IsAlone st user subtree given found

  all_settled : (given found : Answer) → AloneFrom given found → is_unsettled found ≡ false → Known given found
  all_settled Contained found is settled = is
  all_settled (Escapes ops) found is settled = is
  all_settled (Unsettled failed) Contained is settled = absurd is
  all_settled (Unsettled failed) (Escapes ops) is settled = is
  all_settled (Unsettled failed) (Unsettled other) is settled = let never : ⊥ = cc in absurd never

  not_held : (given found : Answer) → AloneFrom given found → together ≡ false → Known given found
  not_held Contained found is fails = is
  not_held (Escapes ops) found is fails = is
  not_held (Unsettled failed) Contained is fails = absurd is
  not_held (Unsettled failed) (Escapes ops) is fails = is
  not_held (Unsettled failed) (Unsettled other) is fails = (fails, is)

  held : (given found : Answer) → AloneFrom given found → together ≡ true → Known given (kept found)
  held Contained found is holds = ap kept is
  held (Escapes ops) found is holds = ap kept is
  held (Unsettled failed) Contained is holds = absurd is
  held (Unsettled failed) (Escapes ops) is holds = is
  held (Unsettled failed) (Unsettled other) is holds = holds

kept_lists : (a : Answer) → has_list (kept a) ≡ has_list a
kept_lists Contained = refl
kept_lists (Escapes ops) = refl
kept_lists (Unsettled failed) = refl

module _ (st : State) (users : List Identity) (subtree : Names) where
  abbrev EachAlone : (ℕ → Answer) → Type 0
  EachAlone found =
      (place : ℕ) (d : Identity) → place < length users
      → IsAlone st (get_or users place d) subtree (answer st (get_or users place d) subtree) (found place)

  abbrev row : (ℕ → Answer) → Bool
  row found = second_row st (without_list found users) subtree

  pub known_settled : (found : ℕ → Answer)
      → EachAlone found
      → ((place : ℕ) → is_unsettled (found place) ≡ false) → AreKnown st users subtree found
  known_settled found alone settled place d within =
      all_settled st (get_or users place d) subtree (row found) _ (found place) (alone place d within) (settled place)

  pub known_apart : (found : ℕ → Answer)
      → EachAlone found
      → row found ≡ false → AreKnown st users subtree found
  known_apart found alone fails place d within =
      not_held st (get_or users place d) subtree (row found) _ (found place) (alone place d within) fails

  pub known_together : (found after : ℕ → Answer)
      → EachAlone found
      → ((place : ℕ) → after place ≡ kept (found place)) → row found ≡ true → AreKnown st users subtree after
  known_together found after alone is holds place d within =
      let same : row after ≡ row found =
      (λ i. second_row st (picked (λ n. not ((ap has_list (is n) ∙ kept_lists (found n)) i)) 0 users) subtree) in
      subst (λ a. IsKnownFrom st (get_or users place d) subtree (row after) (answer st (get_or users place d) subtree) a) (sym (is place))
      (held st (get_or users place d) subtree (row after) _ (found place) (alone place d within) (same ∙ holds))

-- ---- something is known, whatever is planned

abbrev nobody : Identity
nobody = record { uid = 0; gids = [] }

module _ (st : State) (users : List Identity) where
  module _ (subtree : Names) where
    abbrev by_check : ℕ → Answer
    by_check place = answer st (get_or users place nobody) subtree

    alone_as : (user : Identity) (a : Answer) → IsAlone st user subtree a a
    alone_as user Contained = refl
    alone_as user (Escapes ops) = refl
    alone_as user (Unsettled failed) = refl

    each_alone : EachAlone st users subtree by_check
    each_alone place d within =
        subst (λ user. IsAlone st (get_or users place d) subtree (answer st (get_or users place d) subtree) (answer st user subtree))
        (get_or_default users place d nobody within) (alone_as (get_or users place d) (answer st (get_or users place d) subtree))

    known_by : (holds : Bool) → row st users subtree by_check ≡ holds → (found : ℕ → Answer) × AreKnown st users subtree found
    known_by true holds =
        let after : ℕ → Answer = λ place. kept (by_check place) in
        (after, known_together st users subtree by_check after each_alone (λ place. refl) holds)
    known_by false fails = (by_check, known_apart st users subtree by_check each_alone fails)

    known_one : (found : ℕ → Answer) × AreKnown st users subtree found
    known_one = known_by (row st users subtree by_check) refl

  pub some_known : (subtrees : List Names) → (found : ℕ → ℕ → Answer) × AreKnownWithEach st users subtrees found
  some_known subtrees = (
    (λ user place. (known_one (get_or subtrees place [])).0 user),
    λ place d within.
        subst (λ path. AreKnown st users path (λ user. (known_one (get_or subtrees place [])).0 user))
        (get_or_default subtrees place [] d within) (known_one (get_or subtrees place [])).1,
  )

-- ---- who isn't listed

module _ (st : State) (user : Identity) (subtree : Names) where
  -- where the second row fails, who isn't listed is contained by check
  check_contains : (given found : Answer) (together : Bool) → IsKnownFrom st user subtree together given found → together ≡ false
      → is_contained found ≡ true → given ≡ Contained
  check_contains Contained found together known fails passes = refl
  check_contains (Escapes ops) found together known fails passes =
      let never : false ≡ true = ap is_contained (sym known) ∙ passes in cc
  check_contains (Unsettled failed) Contained together known fails passes = let never : false ≡ true = sym fails ∙ known in cc
  check_contains (Unsettled failed) (Escapes ops) together known fails passes = cc
  check_contains (Unsettled failed) (Unsettled other) together known fails passes = cc

lists_none : (a : Answer) → is_contained a ≡ true → not (has_list a) ≡ true
lists_none Contained passes = refl
lists_none (Escapes ops) passes = cc
lists_none (Unsettled failed) passes = refl

module _ (st : State) (users : List Identity) (subtree : Names) (found : ℕ → Answer) (formed : IsWellFormed st)
    (is : IsSubtree st subtree) (known : AreKnown st users subtree found) where
  abbrev rest : List Identity
  rest = not_listed found users

  among_others : (user : Identity) → Contains rest user → Contains (without_list found users) user
  among_others user among =
      let at = picked_at (λ place. is_contained (found place)) users user among in
      at_picked (λ place. not (has_list (found place))) users at.0 user at.1 at.2 (lists_none (found at.0) at.3)

  guards : second_row st (without_list found users) subtree ≡ false → GuardsHoldForAll st rest subtree
  guards fails user among =
      let at = picked_at (λ place. is_contained (found place)) users user among in
      let same : answer st (get_or users at.0 user) subtree ≡ Contained =
      check_contains st (get_or users at.0 user) subtree _ (found at.0) _ (known at.0 user at.1) fails at.3 in
      answer-guarded st user subtree ((λ i. answer st (sym at.2 i) subtree) ∙ same)

  row_holds : rest ≢ [] → (holds : Bool) → second_row st (without_list found users) subtree ≡ holds → SecondRowHolds st rest subtree
  row_holds some true holds =
      second-fewer st (without_list found users) rest among_others subtree ((judged st (without_list found users) subtree).1 holds)
  row_holds some false fails = second-guarded st rest subtree (sound-formed st formed) is (guards fails) some

  -- one against whom no list is known is contained where the second row holds
  one_among : (place : ℕ) (d : Identity) → place < length users → has_list (found place) ≡ false
      → (user : Identity) → Contains (get_or users place d ∷ []) user → Contains (without_list found users) user
  one_among place d within none user among = at_first among.0 among.1 among.2
    where
      at_first : (k : ℕ) → k < length (get_or users place d ∷ []) → get_or (get_or users place d ∷ []) k user ≡ user
          → Contains (without_list found users) user
      at_first zero low same =
          at_picked (λ at. not (has_list (found at))) users place user within (get_or_default users place user d within ∙ same)
          (ap not none)
      at_first (suc k) low same = let never : ⊥ = omega (arith, low) in absurd never

  pub one-contained : (place : ℕ) (d : Identity) → place < length users → has_list (found place) ≡ false
      → second_row st (without_list found users) subtree ≡ true → IsContained st (get_or users place d) subtree
  one-contained place d within none holds =
      contained-settled st (get_or users place d) subtree formed is
      (second-fewer st (without_list found users) (get_or users place d ∷ []) (one_among place d within none) subtree
      ((judged st (without_list found users) subtree).1 holds))

  pub unlisted-settled : rest ≢ [] → AreSettled st rest (subtree ∷ [])
  unlisted-settled some =
      are_settled st rest (subtree ∷ []) formed (All-cons (IsSubtree st) subtree [] is (All-nil (IsSubtree st)))
      (All-cons (SecondRowHolds st rest) subtree [] (row_holds some (second_row st (without_list found users) subtree) refl)
      (All-nil (SecondRowHolds st rest)))

-- of several subtrees
pub all-unlisted_settled : (st : State) (users : List Identity) (subtrees : List Names) (found : ℕ → ℕ → Answer)
    → (subtrees ≢ [] → IsWellFormed st) → All (IsSubtree st) subtrees → AreKnownWithEach st users subtrees found
    → UnlistedAreSettled st users subtrees found
all-unlisted_settled st users subtrees found formed are known place d within some =
    unlisted-settled st users (get_or subtrees place d) (λ user. found user place) (formed (some_there subtrees within))
    (are place d within)
    (known place d within) some
  where
    some_there : (paths : List Names) → place < length paths → paths ≢ []
    some_there [] low = absurd (omega (arith, low))
    some_there (path ∷ paths) low = λ same. cc
