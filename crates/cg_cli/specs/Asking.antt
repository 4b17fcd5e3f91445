-- What calls read before they ask a tree.
use Rattle.std.specs.Prelude.{◌≡◌, ◌⊎◌, ℕ, Bool, true, List, Option, Result, Ok, Err}
use Rattle.cg_cgroup.specs.Paths.{Names, same_path}
use Rattle.cg_cgroup.specs.Identity.{Identity}
use Rattle.cg_model.specs.States.{State}
use Rattle.cg_format.specs.Readings.{Reading}
use Rattle.cg_cli.specs.AllPairs.{read_then}
use Rattle.cg_cli.specs.Audits.{users_read, paths_read}
use Rattle.cg_cli.specs.May.{tree_read}
use Rattle.cg_model.specs.Once.{once}
use Rattle.cg_cli.specs.Once.{same_user}
use Rattle.cg_cli.specs.Reports.{takes_memory}
use Rattle.cg_faults.specs.declared.fault.CliFault.{CliFault}
use Rattle.cg_faults.specs.declared.fault.CliFault.TheVariants.{Write, NoMemory}

-- three things that are read one after another, or the first fault
abbrev pub read_in_turn : {A B C : Type 0} → Result A CliFault → Result B CliFault → Result C CliFault → Result (A × B × C) CliFault
read_in_turn first second third = read_then first (λ x. read_then second (λ y. read_then third (λ z. Ok (x, y, z))))

-- users, subtrees and a tree
abbrev pub named_read : List (ℕ × List ℕ) → List (List ℕ) → Reading → Result (List Identity × List Names × State) CliFault
named_read given texts tree = read_in_turn (users_read given) (paths_read texts) (tree_read tree)

abbrev pub read_takes_memory : {A : Type 0} → Result A CliFault → Bool
read_takes_memory (Ok x) = true
read_takes_memory (Err fault) = takes_memory (Err fault)

-- A fault that is met in reading: the first, or out of memory, which isn't met in place of a fault of a number.
abbrev pub IsMet : {A : Type 0} → Result A CliFault → CliFault → Type 0
IsMet read Write = ⊥
IsMet read NoMemory = read_takes_memory read ≡ true
IsMet read fault = read ≡ Err fault

-- What was read of users, subtrees and a tree: of who and what is named again, only the first is kept.
pub record IsKeptOnce (read : Result (List Identity × List Names × State) CliFault) (users : List Identity) (subtrees : List Names)
    (st : State) : Type 0 where
  pub all_users : List Identity
  pub all_subtrees : List Names
  pub is : read ≡ Ok (all_users, all_subtrees, st)
  pub of_users : users ≡ once same_user all_users
  pub of_subtrees : subtrees ≡ once same_path all_subtrees

-- what may be answered, and written by then
abbrev pub CallEnding : Type 1
CallEnding = Option (List ℕ) → Option (List ℕ) → Result ℕ CliFault → Type 0

-- What a call answers that reads users, subtrees and a tree, and then answers something of what it keeps of these; or a fault that
-- it meets in reading, by when nothing is written.
abbrev pub ReadReports : Result (List Identity × List Names × State) CliFault → (List Identity → List Names → State → Type 0)
    → (State → List Identity → List Names → CallEnding) → CallEnding
ReadReports read Kept answers old new result =
    ((fault : CliFault) × IsMet read fault × (result ≡ Err fault) × (new ≡ old))
    ⊎ ((users : List Identity) × (subtrees : List Names) × (st : State) × Kept users subtrees st
    × answers st users subtrees old new result)

-- Of who and what is named again, the first.
abbrev pub NamedReports : (State → List Identity → List Names → CallEnding) → Reading → List (ℕ × List ℕ) → List (List ℕ) → CallEnding
NamedReports answers tree given texts =
    ReadReports (named_read given texts tree) (IsKeptOnce (named_read given texts tree)) answers

-- All of them, as they are named.
abbrev pub PairsReport : (State → List Identity → List Names → CallEnding) → Reading → List (ℕ × List ℕ) → List (List ℕ) → CallEnding
PairsReport answers tree given texts =
    ReadReports (named_read given texts tree) (λ users subtrees st. named_read given texts tree ≡ Ok (users, subtrees, st)) answers
