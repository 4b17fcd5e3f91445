use Rattle.cg_laws.proofs.RunLaws.{held-guarded, guarded-again}
use Rattle.cg_laws.proofs.StrangerLaws.{broken-of_stranger}
use Rattle.theorems.proofs.StatusLaws.{all_contained_by_status}
use Rattle.theorems.proofs.several_users.Goals as goal

pub returns : goal.returns
returns c = record {
  held = held-guarded;
  again = guarded-again;
  strangers = broken-of_stranger;
  bytes = λ text st given words users subtrees of_text of_users of_paths.
      all_contained_by_status st given words users subtrees of_text.says.formed of_users of_paths;
}
