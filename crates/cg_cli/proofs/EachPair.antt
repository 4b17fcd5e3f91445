-- Pairs that are named one by one: those that aren't contained, and why each is.
use Rattle.std.proofs.Common.{◌≡◌, ◌≢◌, ℕ, ◌+◌, ◌<◌, ◌≤◌, true, List, [], ◌∷◌, ◌++◌, map, length, get_or, drop, drop-cons, add-one, Option, None, Result, Ok, Err, IfOk, refl, sym, ap, subst, ◌∙◌, arith}
use Rattle.std.specs.List.{flat_map}
use Rattle.std.proofs.lemmas.List.{drop_all}
use Rattle.std.proofs.lemmas.List.Elements.{All-from_recursion}
use Rattle.cg_cgroup.specs.Paths.{Names}
use Rattle.cg_cgroup.specs.Identity.{Identity}
use Rattle.cg_model.specs.States.{State}
use Rattle.cg_model.specs.WellFormed.{IsWellFormed}
use Rattle.cg_model.specs.Clauses.{first}
use Rattle.cg_model.specs.Checks.{subtree_faults, unless_fault}
use Rattle.cg_model.specs.Guards.{IsSubtree}
use Rattle.cg_model.specs.Listed.{Listed}
use Rattle.cg_model.specs.Mends.{Pair}
use Rattle.cg_check.proofs.ListedLaws.{unlisted-contained}
use Rattle.cg_advice.specs.Ways.{pair_of}
use Rattle.cg_advice.specs.declared.pair.Pair.{Pair as PairOfBoth}
use Rattle.cg_format.specs.Readings.{Reading, OnText}
use Rattle.cg_format.specs.TextOf.{IsTextOf}
use Rattle.cg_format.proofs.ReadingLaws.{one_reading}
use Rattle.cg_cli.specs.Advising.{paired, named_with}
use Rattle.cg_cli.specs.AllPairs.{Listing, read_then, ReportsPairsBy}
use Rattle.cg_cli.specs.Asking.{CallEnding, read_in_turn, named_read, read_takes_memory, IsMet, PairsReport}
use Rattle.cg_cli.specs.Audits.{users_read, paths_read}
use Rattle.cg_cli.specs.EachPair.{pair_listed, pairs_listed, lists_then, pairs_then, audited_unless_fault, UnlistedAsNamed, ListsNamed}
use Rattle.cg_cli.specs.Explaining.{Writing, asked_unless_fault, ReportsToldBy}
use Rattle.cg_cli.specs.May.{tree_read}
use Rattle.cg_cli.specs.Pairs.{pair_given}
use Rattle.cg_cli.specs.declared.pairs.PairIds.{PairIds}
use Rattle.cg_faults.specs.declared.fault.CliFault.{CliFault}
use Rattle.cg_cli.proofs.AllPairs.{Front, met_pairs}
use Rattle.cg_cli.proofs.Explaining.{met_asked}
use Rattle.cg_cli.proofs.NamedPairs.{mapped_again, paired_subtrees, some_paired}
use Rattle.cg_cli.proofs.NamedReads.{regrouped, by_read}
use Rattle.cg_cli.proofs.ReportLaws.{same_Ok, call_takes}

-- ---- one after another

unmapped : (kept : List PairOfBoth) → map pair_of kept ≡ [] → kept ≡ []
unmapped [] none = refl
unmapped (pair ∷ kept) none = let never : ⊥ = cc in absurd never

module _ {how : Listing} (st : State) (kept : List PairOfBoth) (i : ℕ) (pairs : List Listed) (old new : Option (List ℕ)) (worst : ℕ)
    (far : Front how pairs (pairs_listed st (map pair_of (drop i kept))) old new worst) where
  -- the pair at this place is the next
  pub pair_next : (pair : PairOfBoth) → i < length kept → pair ≡ get_or kept i pair
      → Front how pairs (pair_listed st (pair_of pair) ++ pairs_listed st (map pair_of (drop (i + 1) kept))) old new worst
  pair_next pair within at =
      subst (λ (rest : List PairOfBoth). Front how pairs (pairs_listed st (map pair_of rest)) old new worst)
      (drop-cons kept i pair within ∙ (λ j. sym at j ∷ drop (sym (add-one i) j) kept)) far

  -- none is left
  pub none_left : length kept ≤ i → pairs_listed st (map pair_of (drop i kept)) ≡ []
  none_left all = ap (λ (rest : List PairOfBoth). pairs_listed st (map pair_of rest)) (drop_all i kept all)

-- where there are pairs there are subtrees
pub some_kept : (users : List Identity) (subtrees : List Names) (kept : List PairOfBoth) → map pair_of kept ≡ paired users subtrees
    → kept ≢ [] → subtrees ≢ []
some_kept [] subtrees kept are some none = some (unmapped kept are)
some_kept (user ∷ users) [] kept are some none = some (unmapped kept are)
some_kept (user ∷ users) (subtree ∷ subtrees) kept are some none = cc

-- ---- who isn't listed

pub unlisted-as-named : (st : State) (users : List Identity) (subtrees : List Names)
    → first (flat_map (subtree_faults st) subtrees) ≡ None → (subtrees ≢ [] → IsWellFormed st)
    → UnlistedAsNamed st (paired users subtrees)
unlisted-as-named st users subtrees none formed k d within =
    let pair = get_or (paired users subtrees) k d in
    unlisted-contained st pair.subtree (named_with (paired users subtrees) pair.subtree)
    (formed (some_paired users subtrees (omega (arith, within))))
    (All-from_recursion (λ (one : Pair). IsSubtree st one.subtree) (paired users subtrees) (paired_subtrees st users subtrees none) k d
    within)

pub each_status : {P : Type 0} (result : Result ℕ CliFault) → P → IfOk result (λ status. P)
each_status (Ok status) holds = holds
each_status (Err fault) holds = tt

-- ---- what is read before

-- of the lists of a call over pairs
pub of_pairs : {A : Type 0} (found : State → List Names → List Pair → Result A CliFault) (tree : Reading) (pairs : List PairIds)
    → pairs_then found tree (map pair_given pairs)
    ≡ lists_then found tree (map (λ pair. (pair_given pair).0) pairs) (map (λ pair. (pair_given pair).1) pairs)
of_pairs found tree pairs =
    λ i.
    lists_then found tree (mapped_again (λ pair. pair.0) pair_given pairs i) (mapped_again (λ pair. pair.1) pair_given pairs i)

module _ {R : Type 0} (Says : Result R CliFault → CallEnding)
    (of_met : (read : Result (List Identity × List Names × State) CliFault) (next : List Identity × List Names × State → Result R CliFault)
    → ((x : List Identity × List Names × State) → read_takes_memory (next x) ≡ true)
    → (fault : CliFault) → IsMet read fault → (known : Option (List ℕ)) → Says (read_then read next) known known (Err fault))
    (found : State → List Names → List Pair → Result R CliFault)
    (takes : (st : State) (subtrees : List Names) (pairs : List Pair) → read_takes_memory (found st subtrees pairs) ≡ true)
    (answers : State → List Identity → List Names → CallEnding)
    (means : (st : State) (users : List Identity) (subtrees : List Names) (old new : Option (List ℕ)) (result : Result ℕ CliFault)
    → answers st users subtrees old new result → Says (found st subtrees (paired users subtrees)) old new result)
    (tree : Reading) (given : List (ℕ × List ℕ)) (texts : List (List ℕ)) where
  abbrev read : Result (List Identity × List Names × State) CliFault
  read = named_read given texts tree

  abbrev next : List Identity × List Names × State → Result R CliFault
  next all = found all.2 all.1 (paired all.0 all.1)

  by_all : lists_then found tree given texts ≡ read_then read next
  by_all =
      regrouped (λ X one next. read_then one next) (λ fault. Err fault) (λ X x next. refl) (λ X fault next. refl)
      (λ users subtrees st. found st subtrees (paired users subtrees)) (users_read given) (paths_read texts) (tree_read tree)

  lists_said : (old new : Option (List ℕ)) (result : Result ℕ CliFault) → PairsReport answers tree given texts old new result
      → Says (lists_then found tree given texts) old new result
  lists_said =
      by_read read (λ users subtrees st. read ≡ Ok (users, subtrees, st)) answers (Says (lists_then found tree given texts))
      (λ fault met known. subst (λ report. Says report known known (Err fault)) (sym by_all)
      (of_met read next (λ all. takes all.2 all.1 (paired all.0 all.1)) fault met known))
      (λ users subtrees st is old new result said.
      subst (λ report. Says report old new result) (sym (by_all ∙ ap (λ one. read_then one next) is))
      (means st users subtrees old new result said))

pub audit_said : (how : Listing) (tree : Reading) (pairs : List PairIds) (old new : Option (List ℕ)) (result : Result ℕ CliFault)
    → PairsReport (ListsNamed how) tree (map (λ pair. (pair_given pair).0) pairs) (map (λ pair. (pair_given pair).1) pairs) old new result
    → ReportsPairsBy how (pairs_then audited_unless_fault tree (map pair_given pairs)) old new result
audit_said how tree pairs old new result said =
    subst (λ report. ReportsPairsBy how report old new result) (sym (of_pairs audited_unless_fault tree pairs))
    (lists_said (ReportsPairsBy how) (met_pairs how) audited_unless_fault
    (λ st subtrees all. call_takes (unless_fault (first (flat_map (subtree_faults st) subtrees)) (pairs_listed st all)))
    (ListsNamed how) (λ st users subtrees old new result lists. lists.0) tree (map (λ pair. (pair_given pair).0) pairs)
    (map (λ pair. (pair_given pair).1) pairs) old new result said)

pub explain_said : (written : Writing) (tree : Reading) (pairs : List PairIds) (old new : Option (List ℕ)) (result : Result ℕ CliFault)
    → PairsReport (λ st users subtrees. ReportsToldBy written (asked_unless_fault st subtrees (paired users subtrees))) tree
    (map (λ pair. (pair_given pair).0) pairs) (map (λ pair. (pair_given pair).1) pairs) old new result
    → ReportsToldBy written (pairs_then asked_unless_fault tree (map pair_given pairs)) old new result
explain_said written tree pairs old new result said =
    subst (λ report. ReportsToldBy written report old new result) (sym (of_pairs asked_unless_fault tree pairs))
    (lists_said (ReportsToldBy written) (met_asked written) asked_unless_fault
    (λ st subtrees all. call_takes (unless_fault (first (flat_map (subtree_faults st) subtrees)) (st, all)))
    (λ st users subtrees. ReportsToldBy written (asked_unless_fault st subtrees (paired users subtrees)))
    (λ st users subtrees old new result told. told) tree (map (λ pair. (pair_given pair).0) pairs)
    (map (λ pair. (pair_given pair).1) pairs) old new result said)

pub unlisted_said : (how : Listing) (bytes : List ℕ) (given : List (ℕ × List ℕ)) (texts : List (List ℕ)) (old new : Option (List ℕ))
    (result : Result ℕ CliFault) → OnText bytes (λ read. PairsReport (ListsNamed how) read given texts old new result)
    → IfOk result
    (λ status. (start : State) (who : List Identity) (paths : List Names) → IsTextOf start bytes → users_read given ≡ Ok who
    → paths_read texts ≡ Ok paths → UnlistedAsNamed start (paired who paths))
unlisted_said how bytes given texts old new result asked =
    by_read (named_read given texts asked.0) (λ users subtrees st. named_read given texts asked.0 ≡ Ok (users, subtrees, st))
    (ListsNamed how) (λ old new result. IfOk result
    (λ status. (start : State) (who : List Identity) (paths : List Names) → IsTextOf start bytes → users_read given ≡ Ok who
    → paths_read texts ≡ Ok paths → UnlistedAsNamed start (paired who paths)))
    (λ fault met known. tt)
    (λ users subtrees st is old new result lists. of_start users subtrees st is result lists.1)
    old new result asked.2
  where
    of_start : (users : List Identity) (subtrees : List Names) (st : State) → named_read given texts asked.0 ≡ Ok (users, subtrees, st)
        → (result : Result ℕ CliFault) → IfOk result (λ status. UnlistedAsNamed st (paired users subtrees))
        → IfOk result
        (λ status. (start : State) (who : List Identity) (paths : List Names) → IsTextOf start bytes → users_read given ≡ Ok who
        → paths_read texts ≡ Ok paths → UnlistedAsNamed start (paired who paths))
    of_start users subtrees st is (Err fault) unlisted = tt
    of_start users subtrees st is (Ok status) unlisted = λ start who paths of_text is_who are_paths.
        subst (λ (all : List Identity × List Names × State). UnlistedAsNamed all.2 (paired all.0 all.1))
        (same_Ok (users, subtrees, st) (who, paths, start)
        (sym is ∙ (λ i. read_in_turn (is_who i) (are_paths i) (tree_read (one_reading bytes asked.0 (Ok start) asked.1 of_text i)))))
        unlisted
