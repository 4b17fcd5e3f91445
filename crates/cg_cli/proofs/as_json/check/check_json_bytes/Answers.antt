use Rattle.std.proofs.Common.{refl, subst}
use Rattle.cg_cli.specs.AsJson.{subtree_json_report}
use Rattle.cg_cli.specs.Reports.{Report, Reports}
use Rattle.cg_cli.proofs.AsJson.{containment_takes}
use Rattle.cg_cli.proofs.Asked.{said_is}
use Rattle.cg_cli.proofs.as_json.check.check_json_bytes.Goals as goal

pub ask-requires : goal.ask-requires
ask-requires g c = λ st who path. (subtree_json_report st who path, refl, containment_takes st who path)

pub returns-clause-report : goal.returns-clause-report
returns-clause-report g c =
    let asked = c.ask.ensures.report in (
      asked.0,
      asked.1,
      subst (λ (r : Report). Reports r (g.W.Write.contents c.args.out.now) (g.W.Write.contents c.ask.new.out) c.ask.result)
          (said_is asked.0 c.args.user.uid c.args.user.gids.now c.args.subtree.now subtree_json_report asked.2.0 asked.2.1) asked.2.2,
    )
