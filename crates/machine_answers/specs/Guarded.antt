-- What `check` answers `contained` of. Own.
use Rattle.std.specs.Prelude.{◌≡◌, ℕ, List, Some}
use Rattle.cg_cgroup.specs.Paths.{Names, path_at}
use Rattle.cg_cgroup.specs.Users.{user_of}
use Rattle.cg_cgroup.specs.Identity.{Identity}
use Rattle.cg_model.specs.States.{State}
use Rattle.cg_model.specs.Guards.{GuardsHold, IsSubtree}
use Rattle.cg_format.specs.TextOf.{IsTextOf}

-- The words name a user, and a subtree of the state that the text has, and no guard of that fails for the user.
pub record NamesGuarded (text : List ℕ) (uid : ℕ) (gids : List ℕ) (word : List ℕ) : Type 0 where
  pub user : Identity
  pub subtree : Names
  pub state : State
  pub named : user_of uid gids ≡ Some user
  pub path : path_at word ≡ Some subtree
  pub read : IsTextOf state text
  pub there : IsSubtree state subtree
  pub guarded : GuardsHold state user subtree
