use Rattle.cg_print.proofs.DocumentBack.{text_back}
use Rattle.cg_print.proofs.laws.texts_are_of_their_trees.Goals as goal

pub returns : goal.returns
returns c = text_back
