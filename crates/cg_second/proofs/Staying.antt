-- What is counted of the cgroups of a tree, read at the place of one.
use Rattle.std.proofs.Common.{◌≡◌, ℕ, zero, suc, ◌+◌, ◌-◌, ◌≤◌, ◌<◌, Bool, true, false, not, ◌&&◌, ◌||◌, cond, List, [], ◌∷◌, length, take, get_or, count_by, nat_lt, refl, sym, ap, subst, ◌∙◌, true≢false, ⊎_elim, arith, take_all, lt-ltb, le-ltb, take-take}
use Rattle.std.specs.List.{list_any}
use Rattle.std.proofs.lemmas.List.Folds.{list_any_more}
use Rattle.std.proofs.lemmas.Grind.{get_or_default_zero}
use Rattle.std.proofs.lemmas.Bool.{and_parts, and_from, or_left, or_right, or_cases, cases_lt}
use Rattle.cg_cgroup.specs.Paths.{Names, is_root, parent, inside, below, same_path}
use Rattle.cg_cgroup.specs.Identity.{Identity}
use Rattle.cg_cgroup.specs.Files.{enables}
use Rattle.cg_cgroup.specs.declared.files.Controller.{Controller}
use Rattle.cg_cgroup.specs.declared.files.Controller.TheVariants.{Memory}
use Rattle.cg_cgroup.specs.declared.files.EntryName.TheVariants.{Procs, SubtreeControl}
use Rattle.cg_cgroup.proofs.PathLaws.{inside_refl}
use Rattle.cg_cgroup.proofs.PathOrder.{same_path_refl}
use Rattle.cg_cgroup.proofs.PathParents.{inside-is, length-parent}
use Rattle.cg_model.specs.States.{State, paths_of, count_below}
use Rattle.cg_model.specs.WellFormed.{IsWellFormed, has_row, enabled_at}
use Rattle.cg_laws.proofs.Sound.{sound-formed, take-there}
use Rattle.cg_second.specs.Lasting.{is_reached}
use Rattle.cg_second.specs.Greatest.{greatest, off_to}
use Rattle.cg_second.specs.Judged.{takes_none}
use Rattle.cg_second.proofs.Greatest.{row-any, any-row}
use Rattle.cg_second.specs.Anchors.{is_anchored, any_below, is_upheld, is_fixed, is_upheld_on}
use Rattle.cg_second.specs.Counts.{AreCounts, AreEnds, IsSurvey}
use Rattle.cg_second.specs.Exposed.{is_off_to}
use Rattle.cg_second.proofs.Anchors.{same_bool, stays-kept, on-kept_on, kept-above, child-on}
use Rattle.cg_second.proofs.Ranges.{end-within, counted-below, any-below, row-at}
use Rattle.cg_second.proofs.Tallies.{one_more_counted}

pub same_default : (xs : List Names) (i : ℕ) (d e : Names) → i < length xs → get_or xs i d ≡ get_or xs i e
same_default [] i d e short = absurd (omega (arith, short))
same_default (x ∷ xs) zero d e short = refl
same_default (x ∷ xs) (suc i) d e short = same_default xs i d e (omega (arith, short))

pub row-there : (st : State) (paths : List Names) (path : Names) (i len : ℕ) → paths ≡ paths_of st → i < length paths
    → path ≡ get_or paths i path → len ≡ length path → has_row st (take len path) ≡ true
row-there st paths path i len all short is whole =
    let within : i < length (paths_of st) = subst (λ ps. i < length ps) all short in
    ap (has_row st) (take_all len path (omega (arith, whole)) ∙ is ∙ (λ j. get_or (all j) i path)
    ∙ same_default (paths_of st) i path [] within) ∙ row-at st i within

module _ (st : State) (users : List Identity) (formed : IsWellFormed st) (i : ℕ) (short : i < length (paths_of st)) where
  abbrev at : Names
  at = get_or (paths_of st) i []

  pub stays-at : (greatest st users).stays at ≡ is_upheld st users at
  stays-at = stays-kept st users formed at ∙ ap (λ b. b && is_upheld st users at) (row-at st i short)

  module _ (ends : List ℕ) (until : AreEnds st (length (paths_of st)) ends) where
    pub end-in : (test : Names → Bool) (counts : List ℕ) → AreCounts test (paths_of st) (length (paths_of st)) counts
        → get_or ends i 0 < length counts
    end-in test counts are =
        let within = end-within st i short in
        let end = until.1 i short in
        omega (arith, within, end, are.0)

    counts-end : (test : Names → Bool) (counts : List ℕ) → AreCounts test (paths_of st) (length (paths_of st)) counts
        → get_or counts (get_or ends i 0) 0 ≡ count_by test (take (i + 1 + count_below st at) (paths_of st))
    counts-end test counts are =
        ap (λ n. get_or counts n 0) (until.1 i short)
        ∙ are.1 (i + 1 + count_below st at) (end-within st i short)

    pub below-counted : (test : Names → Bool) (counts : List ℕ) → AreCounts test (paths_of st) (length (paths_of st)) counts
        → count_by (λ q. below at q && test q) (paths_of st) + get_or counts (i + 1) 0 ≡ get_or counts (get_or ends i 0) 0
    below-counted test counts are =
        let both = counted-below st i short test in
        let end = counts-end test counts are in
        let here = are.1 (i + 1) (omega (arith, short)) in
        omega (arith, both, end, here)

    pub below-any : (test : Names → Bool) (counts : List ℕ) → AreCounts test (paths_of st) (length (paths_of st)) counts
        → nat_lt (get_or counts (i + 1) 0) (get_or counts (get_or ends i 0) 0) ≡ any_below st at test
    below-any test counts are =
        (λ j. nat_lt (are.1 (i + 1) (omega (arith, short)) j) (counts-end test counts are j)) ∙ sym (any-below st i short test)

    pub kept-mark : (counts : List ℕ) → AreCounts (is_anchored st users) (paths_of st) (length (paths_of st)) counts
        → nat_lt (get_or counts i 0) (get_or counts (get_or ends i 0) 0) ≡ (greatest st users).stays at
    kept-mark counts are = by_test (is_anchored st users at) refl ∙ sym stays-at
      where
        by_test : (b : Bool) → is_anchored st users at ≡ b
            → nat_lt (get_or counts i 0) (get_or counts (get_or ends i 0) 0) ≡ is_upheld st users at
        by_test true anchored =
            let sum = below-counted (is_anchored st users) counts are in
            let here = are.1 i (omega (arith, short)) in
            let next = are.1 (i + 1) (omega (arith, short)) in
            let one : count_by (is_anchored st users) (take (i + 1) (paths_of st))
            ≡ count_by (is_anchored st users) (take i (paths_of st)) + 1 =
            one_more_counted (is_anchored st users) (paths_of st) i short
            ∙ ap (λ b. count_by (is_anchored st users) (take i (paths_of st)) + cond b 1 0) anchored in
            lt-ltb (get_or counts i 0) (get_or counts (get_or ends i 0) 0) (omega (arith, sum, here, next, one))
            ∙ sym (or_left (is_anchored st users at) _ anchored)
        by_test false loose =
            let one : count_by (is_anchored st users) (take (i + 1) (paths_of st))
            ≡ count_by (is_anchored st users) (take i (paths_of st)) + 0 =
            one_more_counted (is_anchored st users) (paths_of st) i short
            ∙ ap (λ b. count_by (is_anchored st users) (take i (paths_of st)) + cond b 1 0) loose in
            let here : get_or counts i 0 ≡ get_or counts (i + 1) 0 =
            (let this = are.1 i (omega (arith, short)) in let next = are.1 (i + 1) (omega (arith, short)) in
            omega (arith, this, next, one)) in
            ap (λ n. nat_lt n (get_or counts (get_or ends i 0) 0)) here
            ∙ below-any (is_anchored st users) counts are
            ∙ sym (ap (λ b. b || any_below st at (is_anchored st users)) loose)

  pub stays-mark : (counts : List ℕ) → AreCounts (greatest st users).stays (paths_of st) (length (paths_of st)) counts
      → nat_lt (get_or counts i 0) (get_or counts (i + 1) 0) ≡ (greatest st users).stays at
  stays-mark counts are = by_test ((greatest st users).stays at) refl
    where
      step : get_or counts (i + 1) 0 ≡ get_or counts i 0 + cond ((greatest st users).stays at) 1 0
      step =
          let this = are.1 i (omega (arith, short)) in
          let next = are.1 (i + 1) (omega (arith, short)) in
          let one = one_more_counted (greatest st users).stays (paths_of st) i short in
          omega (arith, this, next, one)

      by_test : (b : Bool) → (greatest st users).stays at ≡ b
          → nat_lt (get_or counts i 0) (get_or counts (i + 1) 0) ≡ (greatest st users).stays at
      by_test true is =
          let more : get_or counts (i + 1) 0 ≡ get_or counts i 0 + 1 = step ∙ ap (λ b. get_or counts i 0 + cond b 1 0) is in
          lt-ltb (get_or counts i 0) (get_or counts (i + 1) 0) (omega (arith, more)) ∙ sym is
      by_test false is =
          let same : get_or counts (i + 1) 0 ≡ get_or counts i 0 + 0 = step ∙ ap (λ b. get_or counts i 0 + cond b 1 0) is in
          le-ltb (get_or counts i 0) (get_or counts (i + 1) 0) (omega (arith, same)) ∙ sym is

  pub fixed-mark : (controller : Controller) (kept goes_on : Bool) → kept ≡ (greatest st users).stays at
      → goes_on ≡ (enables (enabled_at st at) controller && not (is_reached st users at SubtreeControl))
      → (kept && goes_on) ≡ is_fixed st users controller at
  fixed-mark controller kept goes_on kept-is goes-is = λ j. (kept-is ∙ stays-at) j && goes-is j

-- ---- one among those of a tree

pub stays-absent : (st : State) (users : List Identity) → IsWellFormed st → (path : Names)
    → list_any (same_path path) (paths_of st) ≡ false → false ≡ (greatest st users).stays path
stays-absent st users formed path absent = same_bool _ _ (λ h. absurd (true≢false (sym h)))
    (λ h. absurd (true≢false (sym (row-any st (same_path path) path
    (and_parts _ _ (sym (stays-kept st users formed path) ∙ h)).0 (same_path_refl path)) ∙ absent)))

-- what goes on being enabled hangs on one inside
pub on-inside : (st : State) (users : List Identity) → IsWellFormed st → (path : Names) (controller : Controller)
    → (greatest st users).on path controller ≡ list_any (λ q. inside path q && is_fixed st users controller q) (paths_of st)
on-inside st users formed path controller =
    on-kept_on st users formed path controller ∙ same_bool _ _ there back
  where
    there : (has_row st path && is_upheld_on st users controller path) ≡ true
        → list_any (λ q. inside path q && is_fixed st users controller q) (paths_of st) ≡ true
    there h =
        let parts = and_parts (has_row st path) _ h in
        ⊎_elim
        (λ own. row-any st (λ q. inside path q && is_fixed st users controller q) path parts.0 (and_from _ _ (inside_refl path) own))
        (λ any.
        let found = any-row st (λ q. below path q && is_fixed st users controller q) any in
        let both = and_parts (below path found.0) _ found.2 in
        row-any st (λ q. inside path q && is_fixed st users controller q) found.0 found.1
        (and_from _ _ (and_parts (inside path found.0) _ both.0).0 both.1))
        (or_cases (is_fixed st users controller path) _ parts.1)

    back : list_any (λ q. inside path q && is_fixed st users controller q) (paths_of st) ≡ true
        → (has_row st path && is_upheld_on st users controller path) ≡ true
    back any =
        let found = any-row st (λ q. inside path q && is_fixed st users controller q) any in
        let both = and_parts (inside path found.0) _ found.2 in
        let row : has_row st path ≡ true = ap (has_row st) (sym (inside-is path found.0 both.0))
        ∙ take-there st (sound-formed st formed) found.0 (length path) found.1 in
        and_from _ _ row
        (⊎_elim
        (λ longer. or_right (is_fixed st users controller path) _
        (row-any st (λ q. below path q && is_fixed st users controller q) found.0 found.1
        (and_from _ _ (and_from _ _ both.0 (lt-ltb (length path) (length found.0) longer)) both.1)))
        (λ short. or_left (is_fixed st users controller path) _
        (ap (is_fixed st users controller) (sym (inside-is path found.0 both.0) ∙ take_all (length path) found.0 short) ∙ both.1))
        (cases_lt (length path) (length found.0)))

-- ---- above a cgroup that stays

module _ (st : State) (users : List Identity) (formed : IsWellFormed st) (subtree : Names) (controller : Controller)
    (stays : (greatest st users).stays subtree ≡ true) where
  off_levels : (len : ℕ) → len + 1 ≤ length subtree
      → off_to st users len (parent subtree) controller ≡ is_off_to st users subtree controller (suc len)
  off_levels zero short =
      ap (λ b. (b && not (enables (enabled_at st []) controller))
      && (not (is_reached st users [] SubtreeControl) || not (enables st.controllers controller)))
      (kept-above st users formed subtree 0 stays)
  off_levels (suc len) short =
      let cut : take (suc len) (parent subtree) ≡ take (suc len) subtree =
      take-take (suc len) (length subtree - 1) subtree (omega (arith, short)) in
      (λ j. ((greatest st users).stays (cut j) && not (enables (enabled_at st (cut j)) controller))
      && (not (is_reached st users (cut j) SubtreeControl) || off_levels len (omega (arith, short)) j))
      ∙ ap (λ b. (b && not (enables (enabled_at st (take (suc len) subtree)) controller))
      && (not (is_reached st users (take (suc len) subtree) SubtreeControl) || is_off_to st users subtree controller (suc len)))
      (kept-above st users formed subtree (suc len) stays)

  pub off-above : is_root subtree ≡ false → (greatest st users).off (parent subtree) controller
      ≡ is_off_to st users subtree controller (length subtree)
  off-above not_root =
      let level = length-parent subtree not_root in
      off_levels (length (parent subtree)) (omega (arith, level))
      ∙ ap (is_off_to st users subtree controller) (let e : suc (length (parent subtree)) ≡ length subtree = omega (arith, level) in e)

-- ---- a place of all paths

pub place-is : (st : State) (paths : List Names) (path : Names) (i : ℕ) → paths ≡ paths_of st → i < length paths
    → path ≡ get_or paths i path → path ≡ get_or (paths_of st) i []
place-is st paths path i all short is =
    is ∙ (λ j. get_or (all j) i path) ∙ same_default (paths_of st) i path [] (subst (λ ps. i < length ps) all short)

-- ---- a survey, read as the code does

read : (xs : List ℕ) (i x : ℕ) → i < length xs → x ≡ get_or xs i x → x ≡ get_or xs i 0
read xs i x short is = is ∙ get_or_default_zero xs i x short

module _ (st : State) (users : List Identity) (paths : List Names) (ends kept fixed : List ℕ)
    (survey : IsSurvey st users paths ends kept fixed) (i : ℕ) (within : i < length paths) where
  pub short : i < length (paths_of st)
  short = subst (λ ps. i < length ps) survey.all within

  pub place : get_or paths i [] ≡ get_or (paths_of st) i []
  place = ap (λ ps. get_or ps i []) survey.all

  pub end-is : (end : ℕ) → end ≡ get_or ends i end → end ≡ get_or ends i 0
  end-is end is = read ends i end (let long = survey.until.0 in let few = short in omega (arith, long, few)) is

  module _ (test : Names → Bool) (counts : List ℕ) (are : AreCounts test (paths_of st) (length (paths_of st)) counts) where
    pub end-read-fits : (end : ℕ) → end ≡ get_or ends i end → end < length counts
    end-read-fits end is =
        let fits = end-in st users survey.formed i short ends survey.until test counts are in
        subst (λ n. n < length counts) (sym (end-is end is)) fits

    next-is : (next : ℕ) → next ≡ get_or counts (i + 1) next → next ≡ get_or counts (i + 1) 0
    next-is next is = read counts (i + 1) next (let long = are.0 in let few = short in omega (arith, long, few)) is

    last-is : (end last : ℕ) → end ≡ get_or ends i end → last ≡ get_or counts end last → last ≡ get_or counts (get_or ends i 0) 0
    last-is end last is reads = read counts end last (end-read-fits end is) reads ∙ ap (λ n. get_or counts n 0) (end-is end is)

    pub read-below : (next end last : ℕ) → next ≡ get_or counts (i + 1) next → end ≡ get_or ends i end → last ≡ get_or counts end last
        → count_by (λ q. below (get_or paths i []) q && test q) (paths_of st) + next ≡ last
    read-below next end last next_reads is reads =
        (λ j. count_by (λ q. below (place j) q && test q) (paths_of st) + next-is next next_reads j)
        ∙ below-counted st users survey.formed i short ends survey.until test counts are
        ∙ sym (last-is end last is reads)

    pub read-any : (next end last : ℕ) → next ≡ get_or counts (i + 1) next → end ≡ get_or ends i end → last ≡ get_or counts end last
        → nat_lt next last ≡ any_below st (get_or paths i []) test
    read-any next end last next_reads is reads =
        (λ j. nat_lt (next-is next next_reads j) (last-is end last is reads j))
        ∙ below-any st users survey.formed i short ends survey.until test counts are
        ∙ ap (λ p. any_below st p test) (sym place)

  pub read-fixed : (controller : Controller) (stays goes_on : Bool) (path : Names) → path ≡ get_or paths i path
      → stays ≡ (greatest st users).stays (get_or paths i [])
      → goes_on ≡ (enables (enabled_at st path) controller && not (is_reached st users path SubtreeControl))
      → (stays && goes_on) ≡ is_fixed st users controller (get_or paths i [])
  read-fixed controller stays goes_on path is stays-is goes-is =
      let same : path ≡ get_or (paths_of st) i [] = place-is st paths path i survey.all within is in
      fixed-mark st users survey.formed i short controller stays goes_on (stays-is ∙ ap (greatest st users).stays place)
      (goes-is ∙ ap (λ p. enables (enabled_at st p) controller && not (is_reached st users p SubtreeControl)) same)
      ∙ ap (is_fixed st users controller) (sym place)

-- ---- those that were passed

pub none-more : (test : Names → Bool) (xs : List Names) (i : ℕ) → i < length xs → list_any test (take i xs) ≡ false
    → test (get_or xs i []) ≡ false → list_any test (take (i + 1) xs) ≡ false
none-more test xs i short none own = list_any_more test xs i [] short ∙ (λ j. none j || own j)

pub none-of : (test : Names → Bool) (xs : List Names) (i : ℕ) → length xs ≤ i → list_any test (take i xs) ≡ false → list_any test xs ≡ false
none-of test xs i all none = ap (list_any test) (sym (take_all i xs all)) ∙ none

pub on-found : (st : State) (users : List Identity) (paths : List Names) (ends kept fixed : List ℕ)
    → IsSurvey st users paths ends kept fixed → (i : ℕ) → i < length paths
    → (path : Names) (controller : Controller) → inside path (get_or paths i []) ≡ true
    → is_fixed st users controller (get_or paths i []) ≡ true → true ≡ (greatest st users).on path controller
on-found st users paths ends kept fixed survey i within path controller inner own =
    let same : get_or paths i [] ≡ get_or (paths_of st) i [] = ap (λ ps. get_or ps i []) survey.all in
    sym (on-inside st users survey.formed path controller
    ∙ row-any st (λ q. inside path q && is_fixed st users controller q) (get_or paths i [])
    (ap (has_row st) same ∙ row-at st i (subst (λ ps. i < length ps) survey.all within)) (and_from _ _ inner own))

pub takes-is : (st : State) (users : List Identity) → IsWellFormed st → (path : Names) (fixed : Bool)
    → is_reached st users path Procs ≡ true → is_root path ≡ false → enables (enabled_at st path) Memory ≡ true
    → is_reached st users path SubtreeControl ≡ true → fixed ≡ any_below st path (is_fixed st users Memory)
    → fixed ≡ takes_none st users (greatest st users) path
takes-is st users formed path fixed procs root on control fixed-is =
    fixed-is ∙ sym (λ j. not (procs j) || (not (root j) && (on j && (not (control j) || child-on st users formed path Memory j))))
