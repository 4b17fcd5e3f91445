use Rattle.cg_everybody.proofs.Held.{in_no_class, held_in_no_class}
use Rattle.cg_everybody.proofs.laws.guards_hold_for_who_is_in_no_class.Goals as goal

pub returns : goal.returns
returns c = λ st asked user subtree real. (
  λ held. in_no_class st asked subtree user real held,
  λ given. held_in_no_class st asked subtree user real given,
)
