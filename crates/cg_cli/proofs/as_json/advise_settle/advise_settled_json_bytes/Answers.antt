use Rattle.std.proofs.Common.{map}
use Rattle.cg_cli.specs.AsJson.{settled_json_report}
use Rattle.cg_cli.specs.Reports.{Reports}
use Rattle.cg_cli.proofs.AsJson.{settled_takes, once_said}
use Rattle.cg_cli.proofs.as_json.advise_settle.advise_settled_json_bytes.Goals as goal

pub returns-clause-report : goal.returns-clause-report
returns-clause-report g c =
    let asked = c.ask_named.ensures.report in (
      asked.0,
      asked.1,
      once_said settled_json_report settled_takes (λ st users subtrees. Reports (settled_json_report st users subtrees))
          (λ st users subtrees old new result said. said) asked.0
          (map (λ user. (user.uid, user.gids.now)) c.args.users.now) (map (λ subtree. subtree.now) c.args.subtrees.now)
          (g.W.Write.contents c.args.out.now) (g.W.Write.contents c.ask_named.new.out) c.ask_named.result asked.2,
    )
