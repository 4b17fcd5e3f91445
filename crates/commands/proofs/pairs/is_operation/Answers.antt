use Rattle.std.proofs.Common.{sym, refl}
use Rattle.commands.proofs.PairLaws.{operation_line, no_operation}
use Rattle.commands.proofs.pairs.is_operation.Goals as goal

pub returns-in-Ok : goal.returns-in-Ok
returns-in-Ok c =
    let told = c.in-Ok.ensures.ok in
    sym (operation_line c.args.line.now c.in-Ok._op told.0 told.1 told.2)

pub returns-in-Err-BadWord : goal.returns-in-Err-BadWord
returns-in-Err-BadWord c =
    sym (no_operation c.args.line.now (c.in-Err-BadWord.ensures.bad_word (rw c.in-Err-BadWord.field-0-is refl)))
