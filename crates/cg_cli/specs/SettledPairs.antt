-- The report on all pairs of some users and subtrees that aren't settled.
use Rattle.std.specs.Prelude.{◌≡◌, ℕ, List, Option, Some, None, Result, Ok, Err, IfOk}
use Rattle.std.specs.List.{flat_map}
use Rattle.std.specs.Io.KnownBytes.{Appends}
use Rattle.cg_cgroup.specs.Paths.{Names, same_path}
use Rattle.cg_cgroup.specs.Identity.{Identity}
use Rattle.cg_model.specs.States.{State}
use Rattle.cg_model.specs.Clauses.{first}
use Rattle.cg_model.specs.Checks.{subtree_faults}
use Rattle.cg_model.specs.Listed.{Listed}
use Rattle.cg_model.specs.Once.{once}
use Rattle.cg_model.specs.declared.answer.Answer.{Answer}
use Rattle.cg_model.specs.declared.fault.CheckFault.{CheckFault}
use Rattle.cg_cli.specs.Audited.{AreKnownWithEach, UnlistedAreSettled}
use Rattle.cg_cli.specs.FurtherPairs.{listed_from}
use Rattle.cg_format.specs.Readings.{Reading}
use Rattle.cg_cli.specs.AllPairs.{Listing, listing_by, ReportsPairsBy}
use Rattle.cg_cli.specs.Asking.{named_read}
use Rattle.cg_cli.specs.Reports.{Report, report_on}
use Rattle.cg_faults.specs.Faults.{lifted_check}
use Rattle.cg_cli.specs.Once.{same_user}
use Rattle.cg_faults.specs.declared.fault.CliFault.{CliFault}

-- The pairs that are listed go by what is known of all users with each subtree. Lists of operations aren't determined: any that
-- was planned and breaks the subtree may be one.
abbrev pub MayBeListed : State → List Identity → List Names → List Listed → Type 0
MayBeListed st users subtrees pairs =
    (found : ℕ → ℕ → Answer) × AreKnownWithEach st users subtrees found × (pairs ≡ listed_from found 0 users subtrees)

-- The first fault of the subtrees, or such pairs.
abbrev pub MayBeFound : State → List Identity → List Names → Option CheckFault → Result (List Listed) CliFault → Type 0
MayBeFound st users subtrees None report = (pairs : List Listed) × MayBeListed st users subtrees pairs × (report ≡ Ok pairs)
MayBeFound st users subtrees (Some fault) report = report ≡ Err (lifted_check fault)

-- what a call answers, and has written by then, of users and subtrees in a state, by what is said of pairs
abbrev pub ReportsFound : (Result (List Listed) CliFault → Option (List ℕ) → Option (List ℕ) → Result ℕ CliFault → Type 0) → State → List Identity → List Names → Option (List ℕ) → Option (List ℕ) → Result ℕ CliFault → Type 0
ReportsFound says st users subtrees old new result =
    (report : Result (List Listed) CliFault) × MayBeFound st users subtrees (first (flat_map (subtree_faults st) subtrees)) report
    × says report old new result

-- what is said of the first of such pairs, where the subtrees have no fault
abbrev pub SaysFirst : (List Listed → Report) → State → List Identity → List Names → Report → Type 0
SaysFirst first_said st users subtrees said =
    (report : Result (List Listed) CliFault)
    × MayBeFound st users subtrees (first (flat_map (subtree_faults st) subtrees)) report × (report_on report first_said ≡ said)

-- Who and what is named again counts once.
abbrev pub MayFollow : Result (List Identity × List Names × State) CliFault → Result (List Listed) CliFault → Type 0
MayFollow (Err fault) report = report ≡ Err fault
MayFollow (Ok all) report =
    MayBeFound all.2 (once same_user all.0) (once same_path all.1) (first (flat_map (subtree_faults all.2) (once same_path all.1))) report

-- Users, then paths, and then the tree are read, as for all pairs that aren't contained.
abbrev pub MayReport : Reading → List (ℕ × List ℕ) → List (List ℕ) → Result (List Listed) CliFault → Type 0
MayReport tree given texts report = MayFollow (named_read given texts tree) report

-- and of what is given, by what is said of pairs
abbrev pub ReportsSettled : (Result (List Listed) CliFault → Option (List ℕ) → Option (List ℕ) → Result ℕ CliFault → Type 0) → Reading → List (ℕ × List ℕ) → List (List ℕ) → Option (List ℕ) → Option (List ℕ) → Result ℕ CliFault → Type 0
ReportsSettled says tree given texts old new result =
    (report : Result (List Listed) CliFault) × MayReport tree given texts report × says report old new result

-- What is written lists pairs, and each subtree is held against those with whom it isn't listed, together.
abbrev pub TellsUnsettled : Listing → State → List Identity → List Names → Option (List ℕ) → Option (List ℕ) → Type 0
TellsUnsettled how st users subtrees old new =
    (found : ℕ → ℕ → Answer) × Appends old new (listing_by how (listed_from found 0 users subtrees))
    × UnlistedAreSettled st users subtrees found

-- They are listed, and where there is a status what is written tells that.
abbrev pub ListsUnsettled : Listing → State → List Identity → List Names → Option (List ℕ) → Option (List ℕ) → Result ℕ CliFault → Type 0
ListsUnsettled how st users subtrees old new result =
    ReportsFound (ReportsPairsBy how) st users subtrees old new result
    × IfOk result (λ status. TellsUnsettled how st users subtrees old new)
