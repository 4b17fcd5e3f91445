use Rattle.cg_format.proofs.OneState.{one_state}
use Rattle.cg_format.proofs.NoFaults.{no_faults}
use Rattle.cg_format.proofs.StateOf.{state_of_text}
use Rattle.cg_format.proofs.laws.texts_are_of_states.Goals as goal

pub returns : goal.returns
returns c = record {
  fault = no_faults;
  state = state_of_text;
  one = one_state;
}
