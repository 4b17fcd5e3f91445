use Rattle.std.proofs.Common.{map}
use Rattle.cg_everybody.specs.Everybody.{everybody_of}
use Rattle.cg_cli.proofs.EverybodyReports.{everybody_is_said}
use Rattle.cg_cli.proofs.everybody.everybody_bytes_in.Goals as goal

pub returns : goal.returns
returns g c =
    let asked = c.ask_named.ensures.report in (
      asked.0,
      asked.1,
      everybody_is_said c.args.format c.args.wanted (everybody_of c.args.asked.now) asked.0
          (map (λ subtree. subtree.now) c.args.subtrees.now)
          (g.W.Write.contents c.args.out.now) (g.W.Write.contents c.ask_named.new.out) c.ask_named.result asked.2,
    )
