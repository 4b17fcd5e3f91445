-- The lines of the advice, in which an entry stands once.
use Rattle.std.proofs.Common.{Bool, []}
use Rattle.cg_advice.specs.WayLines.{Spot}
use Rattle.cg_advice.specs.Ways.{Key, is_keyed}
use Rattle.cg_model.specs.Mends.{Entrant as Entering}

-- whoever it is who gets in there
abbrev pub anybody_at : Spot → Entering
anybody_at spot = record { user = record { uid = 0; gids = [] }; subtree = spot.0; at = spot.1 }

-- whether a spot is the entry of a key
abbrev pub is_keyed_spot : Key → Spot → Bool
is_keyed_spot key spot = is_keyed key (anybody_at spot)
