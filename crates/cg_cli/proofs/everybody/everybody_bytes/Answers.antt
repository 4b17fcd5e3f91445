use Rattle.cg_cli.proofs.everybody.everybody_bytes.Goals as goal

pub returns : goal.returns
returns g c = c.everybody_bytes_in.ensures
