-- With the changes that one advice prints all that was named is contained.
use Rattle.std.proofs.Common.{◌≡◌, ◌≢◌, ℕ, Bool, true, false, cond, nat_eq, List, [], ◌∷◌, map, Option, Some, None, Result, Ok, Err, ⊎_elim, refl, ap, sym, ◌∙◌, subst, get_or, arith}
use Rattle.std.specs.Option.{ok_or}
use Rattle.std.specs.List.{All, AllByRecursion, Contains, flat_map, list_all}
use Rattle.std.proofs.lemmas.List.Elements.{All-from_recursion, recursion_from_All, Contains-append_right, Contains-append_cases}
use Rattle.cg_cgroup.specs.Paths.{Names, same_path}
use Rattle.cg_cgroup.specs.Users.{is_user, IsUser}
use Rattle.cg_cgroup.specs.Identity.{Identity}
use Rattle.cg_model.specs.States.{State}
use Rattle.cg_model.specs.WellFormed.{IsWellFormed}
use Rattle.cg_model.specs.Clauses.{first}
use Rattle.cg_model.specs.Guards.{IsSubtree}
use Rattle.cg_model.specs.Checks.{subtree_faults}
use Rattle.cg_model.specs.Several.{AreContained}
use Rattle.cg_model.specs.Once.{once}
use Rattle.cg_model.specs.Mends.{Pair, advised}
use Rattle.cg_model.specs.Advised.{AreCountable}
use Rattle.cg_model.proofs.Lists.{all-append}
use Rattle.cg_model.proofs.OnceLaws.{all-once}
use Rattle.cg_check.proofs.Checking.{no_fault}
use Rattle.cg_check.proofs.Pairs.{none-element}
use Rattle.cg_advice.specs.AdviceLines.{is_pair_guarded, pairs_lines, advice_lines}
use Rattle.cg_cli.specs.Arguments.{user_read}
use Rattle.cg_cli.specs.Audits.{read_before, users_read, paths_read}
use Rattle.cg_cli.specs.Once.{same_user}
use Rattle.cg_cli.specs.Advising.{lines_report, pair_with, all_pairs, advise_report, IsAdvisable, AreNamed}
use Rattle.cg_faults.specs.declared.fault.CliFault.{CliFault}
use Rattle.cg_faults.specs.declared.fault.CliFault.TheVariants.{Uid, Gids}
use Rattle.cg_cli.proofs.AdvisedTrees.{contained-advised}
use Rattle.cg_cli.proofs.AuditOnce.{same_user-is, some_once, contained_once}
use Rattle.theorems.proofs.ListedLaws.{none, single, of_one}
use Rattle.theorems.proofs.StatusLaws.{advice_found}

-- ---- who was read

before_ok : (x : Result Identity CliFault) (xs : Result (List Identity) CliFault) (all : List Identity) → read_before x xs ≡ Ok all
    → (who : Identity) × (others : List Identity) × (x ≡ Ok who) × (xs ≡ Ok others) × (who ∷ others ≡ all)
before_ok (Ok who) (Ok others) all is = (who, others, refl, refl, cc)
before_ok (Ok who) (Err fault) all is = let never : ⊥ = cc in absurd never
before_ok (Err fault) xs all is = let never : ⊥ = cc in absurd never

user_ok : (uid : ℕ) (gids : List ℕ) (who : Identity) → user_read uid gids ≡ Ok who → IsUser who
user_ok uid gids who is = by_tests (nat_eq uid 0) (is_user (record { uid = uid; gids = gids })) refl is
  where
    same_Ok : {x y : Identity} → let r : Result Identity CliFault = Ok x in let s : Result Identity CliFault = Ok y in r ≡ s → x ≡ y
    same_Ok same = cc

    by_tests : (root may : Bool) → is_user (record { uid = uid; gids = gids }) ≡ may
        → cond root (Err Uid) (ok_or (cond may (Some (record { uid = uid; gids = gids })) None) Gids) ≡ Ok who → IsUser who
    by_tests true may same h = let never : ⊥ = cc in absurd never
    by_tests false true same h = subst IsUser (same_Ok h) same
    by_tests false false same h = let never : ⊥ = cc in absurd never

pub users_are : (given : List (ℕ × List ℕ)) (users : List Identity) → users_read given ≡ Ok users → AllByRecursion IsUser users
users_are [] [] is = tt
users_are [] (user ∷ users) is = let never : ⊥ = cc in absurd never
users_are (ids ∷ given) users is =
    let read = before_ok (user_read ids.0 ids.1) (users_read given) users is in
    subst (AllByRecursion IsUser) read.4 (user_ok ids.0 ids.1 read.0 read.2, users_are given read.1 read.3)

-- ---- every user with every subtree

module _ (st : State) (subtrees : List Names) (subs : AllByRecursion (λ path. IsSubtree st path × AreCountable st path) subtrees) where
  of_user : (user : Identity) → IsUser user → (paths : List Names) → AllByRecursion (λ path. IsSubtree st path × AreCountable st path) paths
      → AllByRecursion (IsAdvisable st) (map (pair_with user) paths)
  of_user user is [] all = tt
  of_user user is (path ∷ paths) all =
      (record { user = is; subtree = all.0.0; countable = all.0.1 }, of_user user is paths all.1)

  are_advisable : (users : List Identity) → AllByRecursion IsUser users → AllByRecursion (IsAdvisable st) (all_pairs users subtrees)
  are_advisable [] all = tt
  are_advisable (user ∷ users) all =
      all-append (IsAdvisable st) (map (pair_with user) subtrees) (all_pairs users subtrees) (of_user user all.0 subtrees subs)
      (are_advisable users all.1)

mapped : {A B : Type 0} (f : A → B) (xs : List A) (x : A) → Contains xs x → Contains (map f xs) (f x)
mapped f [] x among = none x among
mapped f (z ∷ xs) x among =
    ⊎_elim (λ here. (0, omega arith, ap f (single z x here)))
    (λ later. Contains-append_right (f z ∷ []) (map f xs) (f x) (mapped f xs x later))
    (Contains-append_cases (z ∷ []) xs x among)

are_named : (users : List Identity) (subtrees : List Names) → AreNamed (all_pairs users subtrees) users subtrees
are_named users subtrees user subtree among path =
    of_one (λ user. map (pair_with user) subtrees) users user (pair_with user subtree) among (mapped (pair_with user) subtrees subtree path)

-- ---- the advice

pub are_subtrees : (st : State) (paths : List Names) → first (flat_map (subtree_faults st) paths) ≡ None → All (AreCountable st) paths
    → AllByRecursion (λ path. IsSubtree st path × AreCountable st path) paths
are_subtrees st paths clear countable =
    recursion_from_All (λ path. IsSubtree st path × AreCountable st path) paths
    (λ k d within. (no_fault st (get_or paths k d) (sym (none-element (subtree_faults st) paths k d within clear)), countable k d within))

pub lines_are : (st : State) (pairs : List Pair) (found : Option (List ℕ)) → advice_lines st pairs ≡ found
    → (lines_report found).ending ≡ Ok 1 → (lines_report found).text ≡ pairs_lines st pairs
lines_are st pairs found is = by_test (list_all (is_pair_guarded st) pairs) found is
  where
    by_test : (b : Bool) (found : Option (List ℕ)) → cond b None (Some (pairs_lines st pairs)) ≡ found
        → (lines_report found).ending ≡ Ok 1 → (lines_report found).text ≡ pairs_lines st pairs
    by_test b None same h = let never : ⊥ = cc in absurd never
    by_test true (Some lines) same h = let never : ⊥ = cc in absurd never
    by_test false (Some lines) same h = cc

module _ (st : State) (given : List (ℕ × List ℕ)) (words : List (List ℕ)) (users : List Identity) (subtrees : List Names)
    (formed : IsWellFormed st) (of_users : users_read given ≡ Ok users) (of_paths : paths_read words ≡ Ok subtrees)
    (some : users ≢ []) (is : (advise_report (Ok st) given words).ending ≡ Ok 1) (countable : All (AreCountable st) subtrees) where
  abbrev us : List Identity
  us = once same_user users

  abbrev ss : List Names
  ss = once same_path subtrees

  pub changed_are_contained : ((advise_report (Ok st) given words).text ≡ pairs_lines st (all_pairs us ss))
      × AreContained (advised st (all_pairs us ss)) users subtrees
  changed_are_contained =
      let found = advice_found st given words users subtrees formed of_users of_paths 1 is in
      let few = All-from_recursion (AreCountable st) ss
      (all-once (AreCountable st) same_path subtrees (recursion_from_All (AreCountable st) subtrees countable)) in (
        found.3 ∙ lines_are st (all_pairs us ss) found.0 found.2 found.4,
        contained_once users subtrees (advised st (all_pairs us ss))
            (contained-advised st (all_pairs us ss) us ss formed
            (All-from_recursion (IsAdvisable st) (all_pairs us ss)
            (are_advisable st ss (are_subtrees st ss found.1 few) us (all-once IsUser same_user users (users_are given users of_users))))
            (are_named us ss) (λ empty. some_once same_user same_user-is users some empty)),
      )
