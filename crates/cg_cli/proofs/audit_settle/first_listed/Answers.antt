use Rattle.std.proofs.lemmas.Result.{IfOk-weaker}
use Rattle.cg_cli.specs.Formats.{first_in}
use Rattle.cg_cli.proofs.FirstPairs.{first_says}
use Rattle.cg_cli.proofs.SettledPairs.{listed_as, rows_all, rows_lines}
use Rattle.cg_cli.proofs.audit_settle.first_listed.Goals as goal

pub first_of_rows-requires : goal.first_of_rows-requires
first_of_rows-requires g c =
    let st = g.H.Hierarchy.state c.args.tree.now in
    let listed = listed_as c.as_slice.ensures.value c.in_ok-rows.ensures in
    record {
      all = rows_all st c.args.users.now c.args.subtrees.now c.as_slice.result.now listed c.requires.there;
      lines = rows_lines st c.args.users.now c.args.subtrees.now c.as_slice.result.now listed c.requires.there;
    }

pub returns : goal.returns
returns g c =
    IfOk-weaker c.first_of_rows.result _ _
    (λ said same.
    first_says (first_in c.args.format) (g.H.Hierarchy.state c.args.tree.now) c.args.users.now c.args.subtrees.now c.as_slice.result.now
    (listed_as c.as_slice.ensures.value c.in_ok-rows.ensures) c.requires.there _ same)
    c.first_of_rows.ensures
