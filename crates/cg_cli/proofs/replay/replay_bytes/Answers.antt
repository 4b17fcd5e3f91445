use Rattle.cg_cli.proofs.replay.replay_bytes.Goals as goal

pub returns-clause-replays : goal.returns-clause-replays
returns-clause-replays g c = c.replay_bytes_in.ensures.replays
