use Rattle.cg_advice.proofs.Advising.{is_advised, opens-nothing}
use Rattle.cg_cli.proofs.AdvisedTrees.{contained-advised}
use Rattle.cg_cli.proofs.NamedPairs.{advised-as-named}
use Rattle.cg_everybody.proofs.Changed.{changed-no_more, opens-nobody}
use Rattle.theorems.proofs.AdviceLaws.{changed_are_contained}
use Rattle.theorems.proofs.EverybodyLaws.{advised_are_contained, changes_are_said}
use Rattle.theorems.proofs.PairedLaws.{contained_as_they_are, changed_as_named}
use Rattle.theorems.proofs.StatusLaws.{all_contained_by_advice}
use Rattle.theorems.proofs.advice.Goals as goal

pub returns : goal.returns
returns c = record {
  contained = contained-advised;
  as_named = advised-as-named;
  opens_nothing = opens-nothing;
  no_more = is_advised;
  bytes = λ text st given words users subtrees of_text of_users of_paths.
      all_contained_by_advice st given words users subtrees of_text.says.formed of_users of_paths;
  changed = λ text st given words users subtrees of_text.
      changed_are_contained st given words users subtrees of_text.says.formed;
  pairs = λ text st given users subtrees of_text. contained_as_they_are st given users subtrees of_text.says.formed;
  pairs_changed = λ text st given users subtrees of_text. changed_as_named st given users subtrees of_text.says.formed;
  everybody = advised_are_contained;
  everybody_opens_nothing = opens-nobody;
  everybody_no_more = changed-no_more;
  everybody_changed = λ text st asked words subtrees of_text. changes_are_said st asked words subtrees;
}
