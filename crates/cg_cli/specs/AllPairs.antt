-- The report on all pairs of some users and subtrees that aren't contained. Own.
use Rattle.std.specs.Prelude.{◌≡◌, ◌≢◌, ℕ, Bool, true, false, ◌||◌, cond, nat_eq, List, [], ◌∷◌, ◌++◌, Option, Result, Ok, Err, codes, IfOk}
use Rattle.std.specs.List.{list_any, flat_map, All}
use Rattle.std.specs.Io.KnownBytes.{Appends, Keeps}
use Rattle.cg_cgroup.specs.Paths.{Names, same_path}
use Rattle.cg_cgroup.specs.Identity.{Identity}
use Rattle.cg_model.specs.States.{State}
use Rattle.cg_model.specs.Clauses.{first}
use Rattle.cg_model.specs.Checks.{subtree_faults, unless_fault}
use Rattle.cg_model.specs.Listed.{Listed, listed, unlisted}
use Rattle.cg_model.specs.Several.{AreContained}
use Rattle.cg_model.specs.declared.answer.Answer.{Answer}
use Rattle.cg_model.specs.declared.answer.Answer.TheVariants.{Contained, Escapes, Unsettled}
use Rattle.cg_report.specs.PairLines.{pair_text}
use Rattle.cg_format.specs.Readings.{Reading}
use Rattle.cg_cli.specs.Audits.{users_read, paths_read}
use Rattle.cg_cli.specs.Containment.{in_call}
use Rattle.cg_cli.specs.May.{tree_read}
use Rattle.cg_model.specs.Once.{once}
use Rattle.cg_cli.specs.Once.{same_user}
use Rattle.cg_cli.specs.Reports.{takes_memory}
use Rattle.streams.specs.Written.{AppendsPart}
use Rattle.cg_faults.specs.declared.fault.CliFault.{CliFault}
use Rattle.cg_faults.specs.declared.fault.CliFault.TheVariants.{Write, NoMemory}

abbrev pub is_escape : Answer → Bool
is_escape Contained = false
is_escape (Escapes ops) = true
is_escape (Unsettled failed) = false

-- 1 where one escapes, else 2 where one is unsettled, else 0
abbrev pub pairs_status : List Listed → ℕ
pairs_status [] = 0
pairs_status (pair ∷ pairs) = cond (list_any (λ each. is_escape each.found) (pair ∷ pairs)) 1 2

-- the worse of two statuses: 1 before 2, and 2 before 0
abbrev pub worse : ℕ → ℕ → ℕ
worse status other = cond (nat_eq status 1 || nat_eq other 0) status other

-- how a pair is written, and that there is none
pub record Listing : Type 0 where
  pub each : Listed → List ℕ
  pub none : List ℕ

abbrev pub in_lines : Listing
in_lines = record { each = pair_text; none = codes "contained\n" }

abbrev pub pairs_by : Listing → List Listed → List ℕ
pairs_by how pairs = flat_map how.each pairs

abbrev pub listing_by : Listing → List Listed → List ℕ
listing_by how [] = how.none
listing_by how (pair ∷ pairs) = pairs_by how (pair ∷ pairs)

-- A front of the pairs is written, each of them whole.
abbrev pub LeavesWhole : Listing → List Listed → Option (List ℕ) → Option (List ℕ) → Type 0
LeavesWhole how pairs old new =
    (front : List Listed) × (back : List Listed) × (front ++ back ≡ pairs) × Appends old new (pairs_by how front)

-- Pairs are written one after another, and give their status; a failed write leaves a part of their text.
abbrev pub WritesPairs : Listing → List Listed → Option (List ℕ) → Option (List ℕ) → Result ℕ CliFault → Type 0
WritesPairs how pairs old new (Ok status) = (pairs_status pairs ≡ status) × Appends old new (pairs_by how pairs)
WritesPairs how pairs old new (Err Write) = AppendsPart old new (pairs_by how pairs)
WritesPairs how pairs old new (Err NoMemory) = LeavesWhole how pairs old new
WritesPairs how pairs old new (Err fault) = ⊥

-- what follows on what was read, or the fault that it met
abbrev pub read_then : {A B : Type 0} → Result A CliFault → (A → Result B CliFault) → Result B CliFault
read_then (Ok x) next = next x
read_then (Err fault) next = Err fault

-- The first fault of the subtrees, in the order of their list, or pairs.
abbrev pub found_unless_fault : State → List Names → List Listed → Result (List Listed) CliFault
found_unless_fault st subtrees pairs = in_call (unless_fault (first (flat_map (subtree_faults st) subtrees)) pairs)

abbrev pub pairs_found : State → List Identity → List Names → Result (List Listed) CliFault
pairs_found st users subtrees = found_unless_fault st subtrees (listed st users subtrees)

-- All users are looked at first, each with their uid before their gids; then all paths, the tree's text, and whether the
-- subtrees are ones that can be checked. Who and what is named again counts once.
abbrev pub all_report : Reading → List (ℕ × List ℕ) → List (List ℕ) → Result (List Listed) CliFault
all_report tree given texts =
    read_then (users_read given) (λ users.
    read_then (paths_read texts) (λ subtrees.
    read_then (tree_read tree) (λ st. pairs_found st (once same_user users) (once same_path subtrees))))

-- What a call that writes one pair after another answers, and has written by then. A status is that of all pairs, whose
-- text is written. A failed write leaves a part of the text, and out of memory some of the pairs. Any other fault is the
-- report's, and leaves nothing written.
abbrev pub ReportsPairsBy : Listing → Result (List Listed) CliFault → Option (List ℕ) → Option (List ℕ) → Result ℕ CliFault → Type 0
ReportsPairsBy how (Ok pairs) old new (Ok status) = (pairs_status pairs ≡ status) × Appends old new (listing_by how pairs)
ReportsPairsBy how (Ok pairs) old new (Err Write) = AppendsPart old new (listing_by how pairs)
ReportsPairsBy how (Ok pairs) old new (Err NoMemory) = LeavesWhole how pairs old new
ReportsPairsBy how (Ok pairs) old new (Err fault) = ⊥
ReportsPairsBy how (Err fault) old new (Ok status) = ⊥
ReportsPairsBy how (Err fault) old new (Err NoMemory) = (takes_memory (Err fault) ≡ true) × Keeps old new
ReportsPairsBy how (Err fault) old new (Err other) = (fault ≡ other) × Keeps old new

abbrev pub ReportsPairs : Result (List Listed) CliFault → Option (List ℕ) → Option (List ℕ) → Result ℕ CliFault → Type 0
ReportsPairs pairs old new result = ReportsPairsBy in_lines pairs old new result

-- Each subtree is contained against the users with whom it isn't listed, all of them together, where there are such.
abbrev pub UnlistedAreContained : State → List Identity → List Names → Type 0
UnlistedAreContained st users subtrees = All (λ subtree. unlisted st users subtree ≢ [] → AreContained st (unlisted st users subtree) (subtree ∷ [])) subtrees

-- They are listed, and where there is a status that holds.
abbrev pub ListsUncontained : Listing → State → List Identity → List Names → Option (List ℕ) → Option (List ℕ) → Result ℕ CliFault
    → Type 0
ListsUncontained how st users subtrees old new result =
    ReportsPairsBy how (pairs_found st users subtrees) old new result × IfOk result (λ status. UnlistedAreContained st users subtrees)
