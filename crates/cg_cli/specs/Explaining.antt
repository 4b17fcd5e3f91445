-- The report on why subtrees are contained against users, or why that isn't told. Own.
use Rattle.std.specs.Prelude.{◌≡◌, ℕ, true, not, cond, List, ◌++◌, map, Option, Result, Ok, Err}
use Rattle.std.specs.List.{All, list_any, flat_map}
use Rattle.std.specs.Io.KnownBytes.{Appends, Keeps}
use Rattle.cg_cgroup.specs.Paths.{Names, same_path}
use Rattle.cg_cgroup.specs.Identity.{Identity}
use Rattle.cg_model.specs.States.{State}
use Rattle.cg_model.specs.Clauses.{first}
use Rattle.cg_model.specs.Checks.{subtree_faults, unless_fault}
use Rattle.cg_model.specs.Listed.{Listed, is_contained}
use Rattle.cg_model.specs.Mends.{Pair}
use Rattle.cg_model.specs.Once.{once}
use Rattle.cg_model.specs.declared.answer.Answer.{Answer}
use Rattle.cg_explain.specs.PairExplained.{pair_lines}
use Rattle.cg_format.specs.Readings.{Reading}
use Rattle.cg_cli.specs.Advising.{pair_with, all_pairs}
use Rattle.cg_cli.specs.AllPairs.{is_escape, read_then}
use Rattle.cg_cli.specs.Audits.{users_read, paths_read}
use Rattle.cg_cli.specs.Containment.{in_call, answer_status}
use Rattle.cg_cli.specs.May.{tree_read}
use Rattle.cg_cli.specs.Once.{same_user}
use Rattle.cg_cli.specs.Reports.{takes_memory}
use Rattle.cg_cli.specs.Settled.{IsSettled}
use Rattle.streams.specs.Written.{AppendsPart}
use Rattle.cg_faults.specs.declared.fault.CliFault.{CliFault}
use Rattle.cg_faults.specs.declared.fault.CliFault.TheVariants.{Write, NoMemory}

-- 1 where one escapes, else 2 where one is unsettled, else 0
abbrev pub told_status : List Listed → ℕ
told_status told = cond (list_any (λ each. is_escape each.found) told) 1 (cond (list_any (λ each. not (is_contained each.found)) told) 2 0)

-- how what is told of a pair is written in a state
abbrev pub Writing : Type 0
Writing = State → Listed → List ℕ

abbrev pub told_by : Writing → State → List Listed → List ℕ
told_by written st told = flat_map (written st) told

abbrev pub pair_told : Listed → Pair
pair_told each = pair_with each.user each.subtree

-- what settle may answer for the pair
abbrev pub IsTold : State → Listed → Type 0
IsTold st each = IsSettled st each.user each.subtree each.found

-- Pairs, each with what settle may answer for it.
abbrev pub AreTold : State → List Pair → List Listed → Type 0
AreTold st pairs told = (map pair_told told ≡ pairs) × All (IsTold st) told

-- those of a front of the pairs
abbrev pub AreFrontTold : State → List Pair → List Listed → Type 0
AreFrontTold st pairs told = (front : List Pair) × (back : List Pair) × (front ++ back ≡ pairs) × AreTold st front told

-- Pairs are told one after another, and give their status. A failed write leaves a part of the text of a front of them, and out of
-- memory the whole text of one.
abbrev pub TellsPairsBy : Writing → State → List Pair → Option (List ℕ) → Option (List ℕ) → Result ℕ CliFault → Type 0
TellsPairsBy written st pairs old new (Ok status) =
    (told : List Listed) × AreTold st pairs told × (told_status told ≡ status) × Appends old new (told_by written st told)
TellsPairsBy written st pairs old new (Err Write) =
    (told : List Listed) × AreFrontTold st pairs told × AppendsPart old new (told_by written st told)
TellsPairsBy written st pairs old new (Err NoMemory) =
    (told : List Listed) × AreFrontTold st pairs told × Appends old new (told_by written st told)
TellsPairsBy written st pairs old new (Err fault) = ⊥

abbrev pub TellsPairs : State → List Pair → Option (List ℕ) → Option (List ℕ) → Result ℕ CliFault → Type 0
TellsPairs st pairs old new result = TellsPairsBy pair_lines st pairs old new result

-- One pair is told.
abbrev pub TellsPairBy : Writing → State → Pair → Option (List ℕ) → Option (List ℕ) → Result ℕ CliFault → Type 0
TellsPairBy written st pair old new (Ok status) =
    (found : Answer) × IsSettled st pair.user pair.subtree found × (answer_status found ≡ status)
    × Appends old new (written st (record { user = pair.user; subtree = pair.subtree; found = found }))
TellsPairBy written st pair old new (Err Write) =
    (found : Answer) × IsSettled st pair.user pair.subtree found
    × AppendsPart old new (written st (record { user = pair.user; subtree = pair.subtree; found = found }))
TellsPairBy written st pair old new (Err NoMemory) = Keeps old new
TellsPairBy written st pair old new (Err fault) = ⊥

-- the first fault of the subtrees, in the order of their list, or the state and pairs
abbrev pub asked_unless_fault : State → List Names → List Pair → Result (State × List Pair) CliFault
asked_unless_fault st subtrees pairs = in_call (unless_fault (first (flat_map (subtree_faults st) subtrees)) (st, pairs))

-- every user with every subtree
abbrev pub pairs_asked : State → List Identity → List Names → Result (State × List Pair) CliFault
pairs_asked st users subtrees = asked_unless_fault st subtrees (all_pairs users subtrees)

-- All users are looked at first, each with their uid before their gids; then all paths, the tree's text, and whether the
-- subtrees are ones that can be checked. Who and what is named again counts once.
abbrev pub explain_asked : Reading → List (ℕ × List ℕ) → List (List ℕ) → Result (State × List Pair) CliFault
explain_asked tree given texts =
    read_then (users_read given) (λ users.
    read_then (paths_read texts) (λ subtrees.
    read_then (tree_read tree) (λ st. pairs_asked st (once same_user users) (once same_path subtrees))))

-- What the call answers, and has written by then. A fault that is met before a pair is told leaves nothing written.
abbrev pub ReportsToldBy : Writing → Result (State × List Pair) CliFault → Option (List ℕ) → Option (List ℕ) → Result ℕ CliFault → Type 0
ReportsToldBy written (Ok asked) old new result = TellsPairsBy written asked.0 asked.1 old new result
ReportsToldBy written (Err fault) old new (Ok status) = ⊥
ReportsToldBy written (Err fault) old new (Err NoMemory) = (takes_memory (Err fault) ≡ true) × Keeps old new
ReportsToldBy written (Err fault) old new (Err other) = (fault ≡ other) × Keeps old new

abbrev pub ReportsTold : Result (State × List Pair) CliFault → Option (List ℕ) → Option (List ℕ) → Result ℕ CliFault → Type 0
ReportsTold asked old new result = ReportsToldBy pair_lines asked old new result
