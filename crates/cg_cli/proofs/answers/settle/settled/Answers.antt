use Rattle.std.proofs.Common.{◌≡◌, true, [], ◌∷◌, rules}
use Rattle.cg_second.specs.Judged.{second_row}
use Rattle.cg_cli.proofs.Settled.{contained-row}
use Rattle.cg_cli.proofs.answers.settle.settled.Goals as goal

pub returns-in-Ok-true-clause-contained : goal.returns-in-Ok-true-clause-contained
returns-in-Ok-true-clause-contained g c same =
    let st = g.H.Hierarchy.state c.args.tree.now in
    let holds : second_row st (c.args.user.now ∷ []) c.args.subtree.now ≡ true = search rules in
    contained-row st c.args.user.now c.args.subtree.now c.requires.formed c.requires.subtree holds
