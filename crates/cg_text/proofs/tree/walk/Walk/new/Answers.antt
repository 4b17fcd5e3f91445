use Rattle.std.proofs.Common.{[], sym, rules}
use Rattle.cg_format.proofs.Cuts.{not_empty}
use Rattle.cg_text.proofs.LeastNumbers.{least_none}
use Rattle.cg_text.proofs.tree.walk.Walk.new.Goals as goal

pub returns : goal.returns
returns c controllers = record {
  entries = search rules;
  told = search rules;
  none = search rules;
  above = λ row rows e. absurd (not_empty rows row [] (sym e));
  tested = record { twice = least_none _; orphan = least_none _; not_within = least_none _; no_file = least_none _ };
}
