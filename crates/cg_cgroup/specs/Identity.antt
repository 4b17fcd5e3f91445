-- Who a user is: their uid, and their groups, of which the first is the primary one.
use Rattle.std.specs.Prelude.{ℕ, List}

pub record Identity : Type 0 where
  pub uid : ℕ
  pub gids : List ℕ
