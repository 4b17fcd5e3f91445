use Rattle.std.proofs.Common.{Some}
use Rattle.cg_cli.proofs.AsJson.{bar_shown}
use Rattle.cg_cli.proofs.as_json.may.permission_said.Goals as goal

pub permission_json-requires-in-Some : goal.permission_json-requires-in-Some
permission_json-requires-in-Some g c =
    bar_shown (g.H.Hierarchy.state c.args.tree.now) c.args.user.now c.args.op.now (Some c.in-Some.bar) c.in-Some.ensures
