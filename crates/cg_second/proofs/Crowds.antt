-- A cgroup is full where one from here up to the root is crowded, or allows no more levels.
use Rattle.std.proofs.Common.{◌≡◌, ℕ, zero, suc, ◌≤◌, ◌<◌, Bool, true, false, ◌&&◌, ◌||◌, List, [], ◌∷◌, length, take, get_or, sym, ap, ◌∙◌, true≢false, ⊎_elim, arith, take_all, lt-ltb, ltb-true}
use Rattle.std.specs.List.{list_any}
use Rattle.std.proofs.lemmas.Bool.{and_parts, and_from, or_left, or_right, or_cases, cases_lt}
use Rattle.cg_cgroup.specs.Paths.{Names, inside, below, same_path}
use Rattle.cg_cgroup.specs.Identity.{Identity}
use Rattle.cg_cgroup.proofs.PathOrder.{same_path-is, same_path_refl}
use Rattle.cg_cgroup.proofs.PathParents.{inside-take, inside-is}
use Rattle.cg_model.specs.States.{State, paths_of}
use Rattle.cg_model.specs.WellFormed.{IsWellFormed, has_row}
use Rattle.cg_laws.proofs.Sound.{sound-formed, take-there}
use Rattle.cg_second.specs.Greatest.{greatest}
use Rattle.cg_second.specs.Judged.{is_full_by, is_full_to}
use Rattle.cg_second.proofs.Greatest.{row-any}
use Rattle.cg_second.specs.Exposed.{is_crowded, is_deep_to}
use Rattle.cg_second.proofs.Anchors.{same_bool}
use Rattle.cg_second.proofs.Ranges.{not-below-later, below-itself}
use Rattle.std.proofs.lemmas.List.{length-take-le}

-- ---- one of a list, by its place

pub any-at : (test : Names → Bool) (xs : List Names) (n k : ℕ) → k < n → n ≤ length xs → test (get_or xs k []) ≡ true
    → list_any test (take n xs) ≡ true
any-at test xs zero k before short h = absurd (omega (arith, before))
any-at test [] (suc n) k before short h = absurd (omega (arith, short))
any-at test (x ∷ xs) (suc n) zero before short h = or_left (test x) _ h
any-at test (x ∷ xs) (suc n) (suc k) before short h =
    or_right (test x) _ (any-at test xs n k (omega (arith, before)) (omega (arith, short)) h)

pub at-any : (test : Names → Bool) (xs : List Names) (n : ℕ) → list_any test (take n xs) ≡ true
    → (k : ℕ) × (k < n) × (k < length xs) × (test (get_or xs k []) ≡ true)
at-any test xs zero h = absurd (true≢false (sym h))
at-any test [] (suc n) h = absurd (true≢false (sym h))
at-any test (x ∷ xs) (suc n) h =
    ⊎_elim (λ own. (0, omega arith, omega arith, own))
    (λ later. let found = at-any test xs n later in
    (suc found.0, (let f = found.1 in omega (arith, f)), (let f = found.2 in omega (arith, f)), found.3)) (or_cases (test x) _ h)

pub place-of : (st : State) (path : Names) → has_row st path ≡ true
    → (k : ℕ) × (k < length (paths_of st)) × (get_or (paths_of st) k [] ≡ path)
place-of st path there =
    let found = at-any (same_path path) (paths_of st) (length (paths_of st))
    (ap (list_any (same_path path)) (take_all (length (paths_of st)) (paths_of st) (omega arith))
    ∙ row-any st (same_path path) path there (same_path_refl path)) in
    (found.0, found.2, sym (same_path-is path (get_or (paths_of st) found.0 []) found.3))

-- what is above one stands before it
pub stands-before : (st : State) (i k : ℕ) → k < length (paths_of st)
    → below (get_or (paths_of st) k []) (get_or (paths_of st) i []) ≡ true → k < i
stands-before st i k few lower =
    ⊎_elim (λ less. less)
    (λ late. ⊎_elim
    (λ later. absurd (true≢false (sym lower ∙ not-below-later st i k later few)))
    (λ same. let is : k ≡ i = omega (arith, late, same) in
    absurd (true≢false (sym lower ∙ ap (λ n. below (get_or (paths_of st) n []) (get_or (paths_of st) i [])) is
    ∙ below-itself (get_or (paths_of st) i []))))
    (cases_lt i k)) (cases_lt k i)

module _ (st : State) (users : List Identity) (formed : IsWellFormed st) (i : ℕ) (short : i < length (paths_of st))
    (there : has_row st (get_or (paths_of st) i []) ≡ true) where
  abbrev at : Names
  at = get_or (paths_of st) i []

  abbrev any_crowded : Bool
  any_crowded = list_any (λ q. is_crowded st users q && below q at) (take i (paths_of st))

  -- a crowded one above stands before it
  crowded-above : (len : ℕ) → len < length at → is_crowded st users (take len at) ≡ true → any_crowded ≡ true
  crowded-above len less h =
      let place = place-of st (take len at) (take-there st (sound-formed st formed) at len there) in
      let level = length-take-le len at (omega (arith, less)) in
      let lower : below (take len at) at ≡ true =
      and_from _ _ (inside-take len at) (lt-ltb (length (take len at)) (length at) (omega (arith, level, less))) in
      let lower_at : below (get_or (paths_of st) place.0 []) at ≡ true = ap (λ q. below q at) place.2 ∙ lower in
      any-at (λ q. is_crowded st users q && below q at) (paths_of st) i place.0
      (stands-before st i place.0 place.1 lower_at) (omega (arith, short))
      (and_from _ _ (ap (is_crowded st users) place.2 ∙ h) lower_at)

  full-parts : (n : ℕ) → n ≤ length at → is_full_to st users (greatest st users) at n ≡ true
      → ((is_crowded st users at || any_crowded) || is_deep_to st users at (suc n)) ≡ true
  full-parts n within h = parts n within h
    where
      by : (len : ℕ) → len ≤ length at → is_crowded st users (take len at) ≡ true → (is_crowded st users at || any_crowded) ≡ true
      by len within h =
          ⊎_elim (λ less. or_right (is_crowded st users at) _ (crowded-above len less h))
          (λ whole. or_left (is_crowded st users at) _ (ap (is_crowded st users) (sym (take_all len at whole)) ∙ h))
          (cases_lt len (length at))

      parts : (n : ℕ) → n ≤ length at → is_full_to st users (greatest st users) at n ≡ true
          → ((is_crowded st users at || any_crowded) || is_deep_to st users at (suc n)) ≡ true
      parts zero within h =
          ⊎_elim (λ crowd. or_left (is_crowded st users at || any_crowded) _ (by zero within crowd))
          (λ deep. or_right (is_crowded st users at || any_crowded) _ (or_left _ false deep))
          (or_cases (is_crowded st users (take 0 at)) _ h)
      parts (suc n) within h =
          ⊎_elim
          (λ own. ⊎_elim (λ crowd. or_left (is_crowded st users at || any_crowded) _ (by (suc n) within crowd))
          (λ deep. or_right (is_crowded st users at || any_crowded) _ (or_left _ (is_deep_to st users at (suc n)) deep))
          (or_cases (is_crowded st users (take (suc n) at)) _ own))
          (λ rest. ⊎_elim (or_left (is_crowded st users at || any_crowded) _)
          (λ deep. or_right (is_crowded st users at || any_crowded) (is_deep_to st users at (suc (suc n)))
          (or_right _ (is_deep_to st users at (suc n)) deep))
          (or_cases (is_crowded st users at || any_crowded) (is_deep_to st users at (suc n)) (parts n (omega (arith, within)) rest)))
          (or_cases (is_full_by st users (greatest st users) at (suc n)) _ h)

  full-of : (n len : ℕ) → len ≤ n → is_full_by st users (greatest st users) at len ≡ true
      → is_full_to st users (greatest st users) at n ≡ true
  full-of zero len few h = let none : len ≡ 0 = omega (arith, few) in ap (is_full_by st users (greatest st users) at) (sym none) ∙ h
  full-of (suc n) len few h =
      ⊎_elim (λ less. or_right _ (is_full_to st users (greatest st users) at n) (full-of n len (omega (arith, less)) h))
      (λ more. let same : len ≡ suc n = omega (arith, few, more) in
      or_left (is_full_by st users (greatest st users) at (suc n)) _ (ap (is_full_by st users (greatest st users) at) (sym same) ∙ h))
      (cases_lt len (suc n))

  deep-full : (n : ℕ) → n ≤ length at → is_deep_to st users at (suc n) ≡ true → is_full_to st users (greatest st users) at n ≡ true
  deep-full zero within h =
      or_right (is_crowded st users (take 0 at)) _ (⊎_elim (λ own. own) (λ none. absurd (true≢false (sym none))) (or_cases _ false h))
  deep-full (suc n) within h =
      ⊎_elim
      (λ own. or_left (is_full_by st users (greatest st users) at (suc n)) _ (or_right (is_crowded st users (take (suc n) at)) _ own))
      (λ rest. or_right (is_full_by st users (greatest st users) at (suc n)) _ (deep-full n (omega (arith, within)) rest))
      (or_cases _ (is_deep_to st users at (suc n)) h)

  pub full-is : ((is_crowded st users at || any_crowded) || is_deep_to st users at (suc (length at)))
      ≡ is_full_to st users (greatest st users) at (length at)
  full-is =
      same_bool _ _
      (λ h. ⊎_elim
      (λ crowd. ⊎_elim
      (λ own. full-of (length at) (length at) (omega arith) (or_left (is_crowded st users (take (length at) at)) _
      (ap (is_crowded st users) (take_all (length at) at (omega arith)) ∙ own)))
      (λ above.
      let found = at-any (λ q. is_crowded st users q && below q at) (paths_of st) i above in
      let q = get_or (paths_of st) found.0 [] in
      let parts = and_parts (is_crowded st users q) _ found.3 in
      let lower = and_parts (inside q at) _ parts.1 in
      let less = ltb-true (length q) (length at) lower.1 in
      full-of (length at) (length q) (omega (arith, less))
      (or_left (is_crowded st users (take (length q) at)) _ (ap (is_crowded st users) (inside-is q at lower.0) ∙ parts.0)))
      (or_cases (is_crowded st users at) any_crowded crowd))
      (deep-full (length at) (omega arith)) (or_cases (is_crowded st users at || any_crowded) _ h))
      (full-parts (length at) (omega arith))
