-- What a yes on a text says: of the machine that the text tells of, what stands on the page of a yes. Own.
use Rattle.std.specs.Prelude.{◌≡◌, ℕ, false, true, List, Some}
use Rattle.std.specs.List.{AllByRecursion, Contains}
use Rattle.cg_cgroup.specs.Paths.{Names, is_root}
use Rattle.cg_cgroup.specs.Identity.{Identity}
use Rattle.machine.specs.Machines.{Machine, has, IsPresent, IsContainedAgainst}
use Rattle.machine.specs.Several.{Turn, run_of_all, AreTurnsOf, IsContainedAgainstAll}
use Rattle.machine_everybody.specs.Everybody.{Everybody, IsAsked, IsGuardedAgainstEverybody}
use Rattle.machine_text.specs.Telling.{path_names, TextTells}

abbrev pub of_ids : ℕ × List ℕ → Identity
of_ids ids = record { uid = ids.0; gids = ids.1 }

-- Below the root of the machine there is what a word names, and it is contained against a user.
pub record IsContainedIn (text : List ℕ) (user : Identity) (word : List ℕ) : Type 0 where
  pub machine : Machine
  pub told : TextTells text machine
  pub subtree : Names
  pub named : path_names word ≡ Some subtree
  pub below : is_root subtree ≡ false
  pub there : has machine subtree ≡ true
  pub contained : IsContainedAgainst machine user subtree

-- So is what each of some words names, against several users, all of them together.
pub record IsHeldIn (machine : Machine) (users : List Identity) (word : List ℕ) : Type 0 where
  pub subtree : Names
  pub named : path_names word ≡ Some subtree
  pub below : is_root subtree ≡ false
  pub there : has machine subtree ≡ true
  pub contained : IsContainedAgainstAll machine users subtree

pub record AreContainedIn (text : List ℕ) (users : List Identity) (words : List (List ℕ)) : Type 0 where
  pub machine : Machine
  pub told : TextTells text machine
  pub each : (word : List ℕ) → Contains words word → IsHeldIn machine users word

-- So is what each of some words names, against everybody who is asked about: against all users of every list of these, together; and
-- wherever their turns lead, what is guarded lets nobody of them in.
pub record IsHeldAgainstEverybody (machine : Machine) (asked : Everybody) (word : List ℕ) : Type 0 where
  pub subtree : Names
  pub named : path_names word ≡ Some subtree
  pub below : is_root subtree ≡ false
  pub there : has machine subtree ≡ true
  pub contained : (users : List Identity) → AllByRecursion (IsAsked asked) users → IsContainedAgainstAll machine users subtree
  pub again : (users : List Identity) (turns : List Turn) → AllByRecursion (IsAsked asked) users → AreTurnsOf users turns
      → IsPresent (run_of_all machine turns) subtree × IsGuardedAgainstEverybody (run_of_all machine turns) asked subtree

pub record AreHeldAgainstEverybody (text : List ℕ) (asked : Everybody) (words : List (List ℕ)) : Type 0 where
  pub machine : Machine
  pub told : TextTells text machine
  pub each : (word : List ℕ) → Contains words word → IsHeldAgainstEverybody machine asked word
