use Rattle.std.proofs.Common.{◌≡◌, Ok, ap, sym, ◌∙◌, rules}
use Rattle.std.proofs.lemmas.Result.{err_from_is_err_and}
use Rattle.cg_cli.proofs.CourseReads.{watched_fault, start_fault}
use Rattle.cg_cli.proofs.replay.watched.Goals as goal

pub returns-in_err-text-clause-read : goal.returns-in_err-text-clause-read
returns-in_err-text-clause-read c = λ read is.
    let p = err_from_is_err_and c.from_residual-in_err-text.result c.from_residual-in_err-text.ensures.1 in
    rw (p.1, p.2)
    (watched_fault c.args.subtree.now c.in_ok-subtree.subtree read c.in_ok-subtree.ensures c.in_err-text.field-0.0
    (c.in_err-text.ensures.read read is))

pub returns-in_err-from_rows-clause-read : goal.returns-in_err-from_rows-clause-read
returns-in_err-from_rows-clause-read c = λ read is. let found = c.in_ok-text.ensures.read read is in search rules

pub returns-in_err-replay-clause-read : goal.returns-in_err-replay-clause-read
returns-in_err-replay-clause-read c = λ read is.
    let p = err_from_is_err_and c.from_residual-in_err-replay.result c.from_residual-in_err-replay.ensures.1 in
    let found = c.in_ok-text.ensures.read read is in
    let tree : read ≡ Ok c.in_ok-from_rows.field-0 = found ∙ ap Ok (sym c.in_ok-from_rows.ensures) in
    rw (p.1, p.2)
    (start_fault c.args.subtree.now c.in_ok-subtree.subtree read c.in_ok-subtree.ensures _ c.in_err-replay.field-0.0 tree
    c.in_err-replay.ensures.err)

pub returns-clause-read : goal.returns-clause-read
returns-clause-read c = λ read is. let found = c.in_ok-text.ensures.read read is in search rules
