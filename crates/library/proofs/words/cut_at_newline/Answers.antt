use Rattle.std.proofs.Common.{lit<}
use Rattle.library.proofs.WordLaws.{words_by}
use Rattle.library.proofs.words.cut_at_newline.Goals as goal

pub returns-clause-pieces : goal.returns-clause-pieces
returns-clause-pieces c = words_by c.args.lines.now c.split_once.result (c.split_once.ensures.byte (lit< tt) (λ w o found. found))
