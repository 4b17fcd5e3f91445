-- Cgroups shut one after another, in the order of their paths.
use Rattle.std.proofs.Common.{◌≡◌, ℕ, zero, suc, ◌+◌, ◌≤◌, ◌<◌, Bool, true, false, ◌&&◌, ◌||◌, cond, List, [], ◌∷◌, ◌++◌, length, take, get_or, max, min, nat_lt, refl, sym, ap, subst, ◌∙◌, ⊎_elim, arith, take_all, lt-ltb, le-ltb}
use Rattle.std.specs.Prelude.{nat_le}
use Rattle.std.specs.List.{list_all, list_any}
use Rattle.std.proofs.lemmas.Bool.{and_from, or_left, or_right, cases_lt}
use Rattle.std.proofs.lemmas.List.Folds.{list_any_more, list_all_more}
use Rattle.std.proofs.lemmas.Grind.{get_or_default_zero}
use Rattle.cg_cgroup.specs.Paths.{Names, below}
use Rattle.cg_cgroup.specs.Identity.{Identity}
use Rattle.cg_cgroup.specs.declared.files.LimitFile.TheVariants.{MaxDepth}
use Rattle.cg_model.specs.States.{State, paths_of, count_below}
use Rattle.cg_second.specs.Greatest.{greatest}
use Rattle.cg_second.specs.Judged.{is_full_to}
use Rattle.cg_second.specs.Counts.{IsSurvey}
use Rattle.cg_second.specs.Exposed.{is_crowded, is_deep_to}
use Rattle.cg_second.specs.Room.{fixed_limit, level_under, least_level, AreLeast, IsRoom}
use Rattle.cg_second.proofs.Ranges.{below-until, row-at}
use Rattle.cg_second.proofs.Staying.{same_default}
use Rattle.cg_second.proofs.Crowds.{full-is}
use Rattle.cg_second.proofs.Levels.{deep-is, first-root, least-more}

-- ---- tests

lt-max : (k a b : ℕ) → nat_lt k (max a b) ≡ (nat_lt k a || nat_lt k b)
lt-max k a b =
    ⊎_elim (λ one. lt-ltb k (max a b) (omega (arith, one)) ∙ sym (or_left (nat_lt k a) (nat_lt k b) (lt-ltb k a one)))
    (λ none. ⊎_elim
    (λ other. lt-ltb k (max a b) (omega (arith, other)) ∙ sym (or_right (nat_lt k a) (nat_lt k b) (lt-ltb k b other)))
    (λ neither. le-ltb k (max a b) (omega (arith, none, neither)) ∙ sym (λ i. le-ltb k a none i || le-ltb k b neither i))
    (cases_lt k b)) (cases_lt k a)

lt-cond : (k end : ℕ) (b : Bool) → nat_lt k (cond b end 0) ≡ (b && nat_lt k end)
lt-cond k end true = refl
lt-cond k end false = le-ltb k 0 (omega arith)

or_turned : (a b : Bool) → (a || b) ≡ (b || a)
or_turned true true = refl
or_turned true false = refl
or_turned false true = refl
or_turned false false = refl

and_true : (a b : Bool) → b ≡ true → (a && b) ≡ a
and_true true b h = h
and_true false b h = refl

all-fails : (test : Names → Bool) (xs : List Names) (i : ℕ) → i < length xs → test (get_or xs i []) ≡ false → list_all test xs ≡ false
all-fails test [] i short h = absurd (omega (arith, short))
all-fails test (x ∷ xs) zero short h = ap (λ b. b && list_all test xs) h
all-fails test (x ∷ xs) (suc i) short h = and_false (test x) (all-fails test xs i (omega (arith, short)) h)
  where
    and_false : (a : Bool) {b : Bool} → b ≡ false → (a && b) ≡ false
    and_false true h = h
    and_false false h = refl

pub all-of : (test : Names → Bool) (xs : List Names) (i : ℕ) → length xs ≤ i → list_all test (take i xs) ≡ true → list_all test xs ≡ true
all-of test xs i all h = ap (list_all test) (sym (take_all i xs all)) ∙ h

module _ (st : State) (users : List Identity) (paths : List Names) (ends kept fixed : List ℕ)
    (survey : IsSurvey st users paths ends kept fixed) (i : ℕ) (within : i < length paths) (until end next : ℕ)
    (crowded : (k : ℕ) → i ≤ k → k < length paths
    → nat_lt k until ≡ list_any (λ q. is_crowded st users q && below q (get_or paths k [])) (take i paths))
    (crowded_end-is : end ≡ cond (is_crowded st users (get_or paths i [])) (get_or ends i 0) 0)
    (next-is : next ≡ max until end) where
  abbrev here : Names
  here = get_or paths i []

  short : i < length (paths_of st)
  short = subst (λ ps. i < length ps) survey.all within

  place : (k : ℕ) → get_or (paths_of st) k [] ≡ get_or paths k []
  place k = ap (λ ps. get_or ps k []) (sym survey.all)

  end-is : get_or ends i 0 ≡ i + 1 + count_below st (get_or (paths_of st) i [])
  end-is = survey.until.1 i short

  step : (k : ℕ) → nat_lt k next ≡ (nat_lt k until || (is_crowded st users here && nat_lt k (get_or ends i 0)))
  step k =
      ap (nat_lt k) (next-is ∙ ap (max until) crowded_end-is) ∙ lt-max k until _
      ∙ ap (λ b. nat_lt k until || b) (lt-cond k (get_or ends i 0) (is_crowded st users here))

  -- whether it is crowded, or one above
  crowded-here : nat_lt i next ≡ (is_crowded st users here || list_any (λ q. is_crowded st users q && below q here) (take i paths))
  crowded-here =
      step i
      ∙ (λ j. crowded i (omega arith) within j
      || and_true (is_crowded st users here) (nat_lt i (get_or ends i 0)) (lt-ltb i (get_or ends i 0) (omega (arith, end-is))) j)
      ∙ or_turned (list_any (λ q. is_crowded st users q && below q here) (take i paths)) (is_crowded st users here)

  -- and of those behind it
  crowded-next : (k : ℕ) → i + 1 ≤ k → k < length paths
      → nat_lt k next ≡ list_any (λ q. is_crowded st users q && below q (get_or paths k [])) (take (i + 1) paths)
  crowded-next k later few =
      let lower : nat_lt k (get_or ends i 0) ≡ below here (get_or paths k []) =
      ap (nat_lt k) end-is
      ∙ sym (below-until st i short k (omega (arith, later)) (subst (λ ps. k < length ps) survey.all few))
      ∙ (λ j. below (place i j) (place k j)) in
      step k
      ∙ (λ j. crowded k (omega (arith, later)) few j || (is_crowded st users here && lower j))
      ∙ sym (list_any_more (λ q. is_crowded st users q && below q (get_or paths k [])) paths i [] within)

  full-here : (nat_lt i next || is_deep_to st users here (suc (length here)))
      ≡ is_full_to st users (greatest st users) here (length here)
  full-here = ap (λ b. b || is_deep_to st users here (suc (length here))) crowded-here ∙ there paths (sym survey.all)
    where
      there : (ps : List Names) → paths_of st ≡ ps
          → ((is_crowded st users (get_or ps i []) || list_any (λ q. is_crowded st users q && below q (get_or ps i [])) (take i ps))
          || is_deep_to st users (get_or ps i []) (suc (length (get_or ps i []))))
          ≡ is_full_to st users (greatest st users) (get_or ps i []) (length (get_or ps i []))
      there ps same =
          subst (λ (ps : List Names). ((is_crowded st users (get_or ps i [])
          || list_any (λ q. is_crowded st users q && below q (get_or ps i [])) (take i ps))
          || is_deep_to st users (get_or ps i []) (suc (length (get_or ps i []))))
          ≡ is_full_to st users (greatest st users) (get_or ps i []) (length (get_or ps i []))) same
          (full-is st users survey.formed i short (row-at st i short))

  -- ---- with the least levels, as the code reads them

  module _ (levels : List ℕ) (room : IsRoom st users paths i until levels) (path : Names) (depth above own level : ℕ)
      (path-is : path ≡ get_or paths i path) (depth-is : depth ≡ length path) (above-is : above ≡ get_or levels depth above)
      (own-is : own ≡ level_under (length path) (fixed_limit st users path MaxDepth)) (level-is : level ≡ min own above) where
    named : path ≡ here
    named = path-is ∙ same_default paths i path [] within

    deep : depth ≡ length here
    deep = depth-is ∙ ap length named

    long : depth < length levels
    long = let l = (room.least (length here) (omega arith)).0 in omega (arith, l, deep)

    level-here : level ≡ least_level st users here (suc (length here))
    level-here =
        level-is
        ∙ (λ j. min (own-is j) ((above-is ∙ get_or_default_zero levels depth above long) j))
        ∙ (λ j. min (level_under (length (named j)) (fixed_limit st users (named j) MaxDepth)) (get_or levels (deep j) 0))
        ∙ (λ j. min (level_under (length here) (fixed_limit st users (sym (take_all (length here) here (omega arith)) j) MaxDepth))
        ((room.least (length here) (omega arith)).1 j))

    pub full-told : length levels ≤ 18446744073709551615
        → (nat_lt i next || nat_le level depth) ≡ is_full_to st users (greatest st users) here (length here)
    full-told few =
        (λ j. nat_lt i next || nat_le (level-here j) (deep j))
        ∙ ap (λ b. nat_lt i next || b) (deep-is st users here (suc (length here)) (omega arith) (omega (arith, few, long, deep)))
        ∙ full-here

    pub room-next : (cut more : List ℕ) → cut ≡ take (depth + 1) levels → more ≡ cut ++ level ∷ [] → IsRoom st users paths (i + 1) next more
    room-next cut more cut-is more-is =
        let is : more ≡ take (length here + 1) levels ++ level ∷ [] = more-is ∙ (λ j. cut-is j ++ level ∷ [])
        ∙ ap (λ n. take (n + 1) levels ++ level ∷ []) deep in
        record {
          crowded = crowded-next;
          least = subst (AreLeast st users paths (i + 1)) (sym is) (at_paths paths (sym survey.all) room.least level-here);
        }
      where
        at_paths : (ps : List Names) → paths_of st ≡ ps → AreLeast st users ps i levels
            → level ≡ least_level st users (get_or ps i []) (suc (length (get_or ps i [])))
            → AreLeast st users ps (i + 1) (take (length (get_or ps i []) + 1) levels ++ level ∷ [])
        at_paths ps same =
            subst (λ (ps : List Names). AreLeast st users ps i levels
            → level ≡ least_level st users (get_or ps i []) (suc (length (get_or ps i [])))
            → AreLeast st users ps (i + 1) (take (length (get_or ps i []) + 1) levels ++ level ∷ [])) same
            (least-more st survey.formed users i levels level)

pub room-first : (st : State) (users : List Identity) (paths : List Names) (ends kept fixed : List ℕ)
    → IsSurvey st users paths ends kept fixed → (until : ℕ) (levels : List ℕ) → until ≡ 0 → levels ≡ 18446744073709551615 ∷ []
    → IsRoom st users paths 0 until levels
room-first st users paths ends kept fixed survey until levels until-is levels-is = record {
  crowded = λ k first few. ap (nat_lt k) until-is ∙ le-ltb k 0 (omega arith);
  least = λ n few. let none : n ≡ 0 = (let r = root in omega (arith, few, r)) in (
    (let one = ap length levels-is in omega (arith, none, one)),
    (λ j. get_or (levels-is j) (none j) 0) ∙ ap (least_level st users (get_or paths 0 [])) (sym none),
  );
}
  where
    root : length (get_or paths 0 []) ≡ 0
    root =
        ⊎_elim
        (λ some. ap (λ ps. length (get_or ps 0 [])) survey.all
        ∙ first-root st survey.formed (subst (λ ps. 0 < length ps) survey.all some))
        (λ none. empty paths none)
        (cases_lt 0 (length paths))
      where
        empty : (ps : List Names) → length ps ≤ 0 → length (get_or ps 0 []) ≡ 0
        empty [] none = refl
        empty (p ∷ ps) none = absurd (omega (arith, none))

-- ---- one more, and the first that isn't

pub shut-more : (test : Names → Bool) (xs : List Names) (i : ℕ) → i < length xs → list_all test (take i xs) ≡ true
    → test (get_or xs i []) ≡ true → list_all test (take (i + 1) xs) ≡ true
shut-more test xs i short all own = list_all_more test xs i [] short ∙ and_from _ _ all own

pub open-found : (test : Names → Bool) (xs : List Names) (i : ℕ) → i < length xs → test (get_or xs i []) ≡ false
    → false ≡ list_all test xs
open-found test xs i short h = sym (all-fails test xs i short h)
