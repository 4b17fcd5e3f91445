use Rattle.cg_cli.proofs.replay.reader.replay_from.Goals as goal

pub returns-clause-replays : goal.returns-clause-replays
returns-clause-replays g c = c.replay_from_in.ensures.replays
