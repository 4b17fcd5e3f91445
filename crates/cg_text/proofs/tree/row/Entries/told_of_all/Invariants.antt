use Rattle.cg_text.proofs.FurtherLaws.{AreTold}
use Rattle.cg_text.proofs.tree.row.Entries.told_of_all.Given as goal

abbrev pub invariant-loop-at : goal.invariant-loop-at
invariant-loop-at l = AreTold l.self l.at l.files.entries
