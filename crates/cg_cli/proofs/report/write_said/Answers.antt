use Rattle.std.proofs.Common.{refl}
use Rattle.std.proofs.lemmas.Result.{err_from_is_err_and}
use Rattle.cg_cli.proofs.report.write_said.Goals as goal

pub returns-in_err-write_whole : goal.returns-in_err-write_whole
returns-in_err-write_whole g c =
    let p = err_from_is_err_and c.from_residual.result c.from_residual.ensures.1 in
    rw (p.1, p.2) (rw c.as_slice.ensures.value at c.in_err-write_whole.ensures.err)

pub returns : goal.returns
returns g c = (refl, rw c.as_slice.ensures.value at c.in_ok-write_whole.ensures.ok)
