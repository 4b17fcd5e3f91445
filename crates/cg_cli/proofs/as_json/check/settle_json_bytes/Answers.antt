use Rattle.cg_cli.proofs.AsJson.{settling_takes}
use Rattle.cg_cli.proofs.as_json.check.settle_json_bytes.Goals as goal

pub ask-requires : goal.ask-requires
ask-requires g c = settling_takes
