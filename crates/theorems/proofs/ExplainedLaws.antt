-- What the status of an explanation says of the pairs that were asked.
use Rattle.std.proofs.Common.{◌≡◌, ℕ, Bool, true, false, cond, ◌||◌, not, List, [], ◌∷◌, map, Option, Result, Ok, Err, refl, ap, sym, ◌∙◌, subst}
use Rattle.std.specs.List.{All, AllByRecursion, list_any, flat_map}
use Rattle.std.proofs.lemmas.List.Elements.{All-from_recursion, recursion_from_All}
use Rattle.cg_cgroup.specs.Paths.{Names, same_path}
use Rattle.cg_cgroup.specs.Identity.{Identity}
use Rattle.cg_model.specs.States.{State}
use Rattle.cg_model.specs.WellFormed.{IsWellFormed}
use Rattle.cg_model.specs.Clauses.{first}
use Rattle.cg_model.specs.Checks.{subtree_faults}
use Rattle.cg_model.specs.Guards.{IsSubtree}
use Rattle.cg_model.specs.Held.{IsContained}
use Rattle.cg_model.specs.Listed.{Listed, is_contained}
use Rattle.cg_model.specs.Mends.{Pair}
use Rattle.cg_model.specs.Once.{once}
use Rattle.cg_model.specs.declared.answer.Answer.{Answer}
use Rattle.cg_model.specs.declared.answer.Answer.TheVariants.{Contained, Escapes, Unsettled}
use Rattle.cg_cli.specs.Advising.{all_pairs}
use Rattle.cg_cli.specs.AllPairs.{is_escape, read_then}
use Rattle.cg_cli.specs.Audits.{users_read, paths_read}
use Rattle.cg_cli.specs.Explaining.{Writing, pair_told, IsTold, pairs_asked, explain_asked, TellsPairsBy, ReportsToldBy}
use Rattle.cg_cli.specs.Once.{same_user}
use Rattle.cg_cli.specs.Settled.{IsSettled}
use Rattle.cg_cli.proofs.AdviseReports.{subs_of}
use Rattle.cg_escapes.proofs.EscapeReplays.{found_is, unfaulted}
use Rattle.cg_faults.specs.declared.fault.CliFault.{CliFault}
use Rattle.theorems.proofs.SettledLaws.{settled_contained}
use Rattle.theorems.proofs.StatusLaws.{all_there}

none_left : (escapes other : Bool) → ◌≡◌ {A = ℕ} (cond escapes 1 (cond other 2 0)) 0 → other ≡ false
none_left true other is = let never : ⊥ = cc in absurd never
none_left false true is = let never : ⊥ = cc in absurd never
none_left false false is = refl

neither : (a b : Bool) → a || b ≡ false → (a ≡ false) × (b ≡ false)
neither true b is = let never : ⊥ = cc in absurd never
neither false b is = (refl, is)

module _ (st : State) (formed : IsWellFormed st) where
  one_contained : (user : Identity) (subtree : Names) (found : Answer) → IsSubtree st subtree → IsSettled st user subtree found
      → not (is_contained found) ≡ false → IsContained st user subtree
  one_contained user subtree Contained sub is none = settled_contained st user subtree formed sub is
  one_contained user subtree (Escapes ops) sub is none = let never : ⊥ = cc in absurd never
  one_contained user subtree (Unsettled failed) sub is none = let never : ⊥ = cc in absurd never

  each_contained : (told : List Listed) → AllByRecursion (IsTold st) told → list_any (λ each. not (is_contained each.found)) told ≡ false
      → AllByRecursion (λ (pair : Pair). IsSubtree st pair.subtree) (map pair_told told)
      → AllByRecursion (λ (pair : Pair). IsContained st pair.user pair.subtree) (map pair_told told)
  each_contained [] are none subs = tt
  each_contained (each ∷ told) are none subs =
      let both = neither (not (is_contained each.found)) (list_any (λ each. not (is_contained each.found)) told) none in
      (one_contained each.user each.subtree each.found subs.0 are.0 both.0, each_contained told are.1 both.1 subs.1)

  pub told_contained : (written : Writing) (pairs : List Pair) (old new : Option (List ℕ)) (status : ℕ)
      → TellsPairsBy written st pairs old new (Ok status) → status ≡ 0
      → AllByRecursion (λ (pair : Pair). IsSubtree st pair.subtree) pairs
      → All (λ (pair : Pair). IsContained st pair.user pair.subtree) pairs
  told_contained written pairs old new status tells zero subs =
      All-from_recursion (λ (pair : Pair). IsContained st pair.user pair.subtree) pairs
      (subst (AllByRecursion (λ (pair : Pair). IsContained st pair.user pair.subtree)) tells.1.0
      (each_contained tells.0 (recursion_from_All (IsTold st) tells.0 tells.1.1)
      (none_left (list_any (λ each. is_escape each.found) tells.0) (list_any (λ each. not (is_contained each.found)) tells.0)
      (tells.2 ∙ zero))
      (subst (AllByRecursion (λ (pair : Pair). IsSubtree st pair.subtree)) (sym tells.1.0) subs)))

module _ (st : State) (given : List (ℕ × List ℕ)) (words : List (List ℕ)) (users : List Identity) (subtrees : List Names)
    (formed : IsWellFormed st) (of_users : users_read given ≡ Ok users) (of_paths : paths_read words ≡ Ok subtrees) where
  abbrev who : List Identity
  who = once same_user users

  abbrev tops : List Names
  tops = once same_path subtrees

  asked_is : explain_asked (Ok st) given words ≡ pairs_asked st who tops
  asked_is =
      ap (λ u. read_then u (λ users. read_then (paths_read words)
      (λ subtrees. pairs_asked st (once same_user users) (once same_path subtrees))))
      of_users
      ∙ ap (λ p. read_then p (λ subtrees. pairs_asked st (once same_user users) (once same_path subtrees))) of_paths

  pub explained_contained : (written : Writing) (old new : Option (List ℕ)) (status : ℕ)
      → ReportsToldBy written (explain_asked (Ok st) given words) old new (Ok status) → status ≡ 0
      → All (λ (pair : Pair). IsContained st pair.user pair.subtree) (all_pairs who tops)
  explained_contained written old new status reports zero = by_asked (explain_asked (Ok st) given words) refl reports
    where
      by_asked : (asked : Result (State × List Pair) CliFault) → explain_asked (Ok st) given words ≡ asked
          → ReportsToldBy written asked old new (Ok status)
          → All (λ (pair : Pair). IsContained st pair.user pair.subtree) (all_pairs who tops)
      by_asked (Err fault) is never = absurd never
      by_asked (Ok asked) is tells =
          let stated =
          unfaulted (first (flat_map (subtree_faults st) tops)) (st, all_pairs who tops) asked (found_is _ asked (sym asked_is ∙ is)) in
          told_contained st formed written (all_pairs who tops) old new status
          (subst (λ (both : State × List Pair). TellsPairsBy written both.0 both.1 old new (Ok status)) (sym stated.1) tells) zero
          (subs_of st tops who (recursion_from_All (IsSubtree st) tops (all_there st tops stated.0)))
