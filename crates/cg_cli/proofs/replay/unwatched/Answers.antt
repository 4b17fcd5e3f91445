use Rattle.std.proofs.Common.{rules}
use Rattle.std.proofs.lemmas.Result.{err_from_is_err_and}
use Rattle.cg_cli.proofs.CourseReads.{unwatched_fault}
use Rattle.cg_cli.proofs.replay.unwatched.Goals as goal

pub returns-in_err-text-clause-read : goal.returns-in_err-text-clause-read
returns-in_err-text-clause-read c = λ read is.
    let p = err_from_is_err_and c.from_residual.result c.from_residual.ensures.1 in
    rw (p.1, p.2) (unwatched_fault read c.in_err-text.field-0.0 (c.in_err-text.ensures.read read is))

pub returns-in_err-kept-clause-read : goal.returns-in_err-kept-clause-read
returns-in_err-kept-clause-read c = λ read is. let found = c.in_ok-text.ensures.read read is in search rules

pub returns-clause-read : goal.returns-clause-read
returns-clause-read c = λ read is. let found = c.in_ok-text.ensures.read read is in search rules
