use Rattle.std.proofs.Common.{map}
use Rattle.cg_cli.specs.AsJson.{pairs_json_report, AuditsAsJson}
use Rattle.cg_cli.proofs.AsJson.{pairs_take, once_said}
use Rattle.cg_cli.proofs.AuditReports.{means_contained}
use Rattle.cg_cli.proofs.as_json.audit.audit_json_bytes.Goals as goal

pub returns-clause-report : goal.returns-clause-report
returns-clause-report g c =
    let asked = c.ask_named.ensures.report in (
      asked.0,
      asked.1,
      once_said pairs_json_report pairs_take AuditsAsJson (λ st users subtrees old new result said. said.0) asked.0
          (map (λ user. (user.uid, user.gids.now)) c.args.users.now) (map (λ subtree. subtree.now) c.args.subtrees.now)
          (g.W.Write.contents c.args.out.now) (g.W.Write.contents c.ask_named.new.out) c.ask_named.result asked.2,
    )

pub returns-clause-contained : goal.returns-clause-contained
returns-clause-contained g c =
    means_contained AuditsAsJson (λ st users subtrees old new result said. said.1) c.args.tree.now
    (map (λ user. (user.uid, user.gids.now)) c.args.users.now) (map (λ subtree. subtree.now) c.args.subtrees.now)
    (g.W.Write.contents c.args.out.now) (g.W.Write.contents c.ask_named.new.out) c.ask_named.result c.ask_named.ensures.report
