use Rattle.std.proofs.Common.{◌+◌, ◌-◌, ◌<◌, drop, length, length-drop, take_all, arith}
use Rattle.commands.proofs.LineLaws.{uncut, cut_here}
use Rattle.commands.proofs.lines.cut_at_newline.Goals as goal

pub returns-then-end-bytes-clause-pieces : goal.returns-then-end-bytes-clause-pieces
returns-then-end-bytes-clause-pieces c = uncut c.args.bytes.now c.line_end-end.result (omega arith) c.line_end-end.ensures.before

pub returns-clause-pieces : goal.returns-clause-pieces
returns-clause-pieces c =
    let bytes = c.args.bytes.now in
    let end = c.line_end-end.result in
    let within : end < length bytes = omega arith in
    rw (take_all (length bytes - (end + 1)) (drop (end + 1) bytes) (omega (arith, length-drop (end + 1) bytes)))
    (cut_here bytes end 0 within c.line_end-end.ensures.before (c.line_end-end.ensures.newline within))
