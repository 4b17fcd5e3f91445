use Rattle.cg_check.proofs.ListedLaws.{unlisted-contained}
use Rattle.theorems.proofs.ListedLaws.{listed_are}
use Rattle.theorems.proofs.StatusLaws.{pairs_by_report}
use Rattle.theorems.proofs.all_pairs.Goals as goal

pub returns : goal.returns
returns c = record {
  listed = listed_are;
  unlisted = λ st users subtree. unlisted-contained st subtree users;
  bytes = λ text st given words users subtrees pairs of_text of_users of_paths.
      pairs_by_report st given words users subtrees of_text.says.formed of_users of_paths pairs;
}
