-- The reports on pairs of a user and a subtree, each in the order in which it is named: those that aren't contained, or why each is. Own.
use Rattle.std.specs.Prelude.{◌≢◌, ℕ, List, [], ◌∷◌, map, Option, Result, IfOk}
use Rattle.std.specs.List.{flat_map, All}
use Rattle.cg_cgroup.specs.Paths.{Names}
use Rattle.cg_cgroup.specs.Identity.{Identity}
use Rattle.cg_model.specs.States.{State}
use Rattle.cg_model.specs.Answers.{answer}
use Rattle.cg_model.specs.Listed.{Listed, listed_unless_contained, unlisted}
use Rattle.cg_model.specs.Mends.{Pair}
use Rattle.cg_model.specs.Several.{AreContained}
use Rattle.cg_format.specs.Readings.{Reading}
use Rattle.cg_cli.specs.Advising.{paired, named_with}
use Rattle.cg_cli.specs.AllPairs.{Listing, read_then, found_unless_fault, ReportsPairsBy}
use Rattle.cg_cli.specs.Audits.{users_read, paths_read}
use Rattle.cg_cli.specs.Explaining.{asked_unless_fault}
use Rattle.cg_cli.specs.May.{tree_read}
use Rattle.cg_faults.specs.declared.fault.CliFault.{CliFault}

abbrev pub pair_listed : State → Pair → List Listed
pair_listed st pair = listed_unless_contained pair.user pair.subtree (answer st pair.user pair.subtree)

-- those that aren't contained; one that is named again is listed again
abbrev pub pairs_listed : State → List Pair → List Listed
pairs_listed st pairs = flat_map (pair_listed st) pairs

-- All users are looked at first, each with their uid before their gids; then all paths, the tree's text, and whether the
-- subtrees are ones that can be checked.
abbrev pub lists_then : {A : Type 0} → (State → List Names → List Pair → Result A CliFault) → Reading → List (ℕ × List ℕ) → List (List ℕ) → Result A CliFault
lists_then found tree given texts =
    read_then (users_read given) (λ users.
    read_then (paths_read texts) (λ subtrees.
    read_then (tree_read tree) (λ st. found st subtrees (paired users subtrees))))

abbrev pub pairs_then : {A : Type 0} → (State → List Names → List Pair → Result A CliFault) → Reading → List ((ℕ × List ℕ) × List ℕ) → Result A CliFault
pairs_then found tree given = lists_then found tree (map (λ pair. pair.0) given) (map (λ pair. pair.1) given)

abbrev pub audited_unless_fault : State → List Names → List Pair → Result (List Listed) CliFault
audited_unless_fault st subtrees pairs = found_unless_fault st subtrees (pairs_listed st pairs)

abbrev pub audit_pairs_report : Reading → List ((ℕ × List ℕ) × List ℕ) → Result (List Listed) CliFault
audit_pairs_report tree given = pairs_then audited_unless_fault tree given

abbrev pub explain_pairs_asked : Reading → List ((ℕ × List ℕ) × List ℕ) → Result (State × List Pair) CliFault
explain_pairs_asked tree given = pairs_then asked_unless_fault tree given

-- Each subtree that pairs name is contained against the users named with it who aren't listed with it, all of them together, where
-- there are such.
abbrev pub UnlistedAsNamed : State → List Pair → Type 0
UnlistedAsNamed st pairs =
    All (λ pair. unlisted st (named_with pairs pair.subtree) pair.subtree ≢ []
    → AreContained st (unlisted st (named_with pairs pair.subtree) pair.subtree) (pair.subtree ∷ [])) pairs

-- They are listed, and where there is a status that holds.
abbrev pub ListsNamed : Listing → State → List Identity → List Names → Option (List ℕ) → Option (List ℕ) → Result ℕ CliFault → Type 0
ListsNamed how st users subtrees old new result =
    ReportsPairsBy how (audited_unless_fault st subtrees (paired users subtrees)) old new result
    × IfOk result (λ status. UnlistedAsNamed st (paired users subtrees))
