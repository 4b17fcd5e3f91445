use Rattle.cg_format.proofs.OneState.{one_state}
use Rattle.cg_format.proofs.NoFaults.{no_faults}
use Rattle.cg_format.proofs.StateOf.{state_of_text}
use Rattle.cg_print.proofs.DocumentBack.{text_back}
use Rattle.cg_print.proofs.Spelling.{spelled_once}
use Rattle.theorems.proofs.texts.Goals as goal

pub returns : goal.returns
returns c = record {
  faultless = no_faults;
  state = state_of_text;
  one_state = one_state;
  one_text = spelled_once;
  read_again = λ vocabulary text st. text_back text vocabulary st;
}
