use Rattle.std.proofs.Common.{◌∙◌, map, refl}
use Rattle.std.specs.Prelude.{string_bytes}
use Rattle.commands.proofs.RequestLaws.{Keeps-refl}
use Rattle.commands.proofs.WaitingLaws.{silent, heard, refused, cut, told, none}
use Rattle.commands.proofs.waiting.tell_waiting.Goals as goal

pub returns-then-not-is_terminal : goal.returns-then-not-is_terminal
returns-then-not-is_terminal g c =
    silent c.args.is_terminal (map string_bytes c.args.words.now) (g.E.Write.contents c.args.errors.now) c.if-not-is_terminal.true

pub returns-in_err-line-in-Ok : goal.returns-in_err-line-in-Ok
returns-in_err-line-in-Ok g c =
    let words = map string_bytes c.args.words.now in
    let known = g.E.Write.contents c.args.errors.now in
    heard c.args.is_terminal words known known c.from_residual.result c.if-not-is_terminal.false
    (refused words known c.from_residual.result c.from_residual.ensures.1)

pub returns-in_err-write_whole-in-Ok : goal.returns-in_err-write_whole-in-Ok
returns-in_err-write_whole-in-Ok g c =
    let words = map string_bytes c.args.words.now in
    let old = g.E.Write.contents c.args.errors.now in
    let new = g.E.Write.contents c.write_whole.new.out in
    let result = c.from_residual-in_err-write_whole-in-Ok.result in
    heard c.args.is_terminal words old new result c.if-not-is_terminal.false
    (cut words c.in-Ok.request c.as_slice.result.now old new result c.in-Ok.ensures (c.as_slice.ensures.value ∙ c.in_ok-line-in-Ok.ensures)
    c.in_err-write_whole-in-Ok.ensures.err c.from_residual-in_err-write_whole-in-Ok.ensures.1)

pub returns-in_ok-write_whole-in-Ok : goal.returns-in_ok-write_whole-in-Ok
returns-in_ok-write_whole-in-Ok g c =
    let words = map string_bytes c.args.words.now in
    let old = g.E.Write.contents c.args.errors.now in
    let new = g.E.Write.contents c.write_whole.new.out in
    heard c.args.is_terminal words old new _ c.if-not-is_terminal.false
    (told words c.in-Ok.request c.as_slice.result.now old new c.in-Ok.ensures (c.as_slice.ensures.value ∙ c.in_ok-line-in-Ok.ensures)
    c.in_ok-write_whole-in-Ok.ensures.ok)

pub returns-in-Err-Usage : goal.returns-in-Err-Usage
returns-in-Err-Usage g c =
    let words = map string_bytes c.args.words.now in
    let known = g.E.Write.contents c.args.errors.now in
    heard c.args.is_terminal words known known _ c.if-not-is_terminal.false (none words known (c.in-Err-Usage.ensures (λ other. cc)))

pub returns-in-Err-NoMemory : goal.returns-in-Err-NoMemory
returns-in-Err-NoMemory g c =
    let words = map string_bytes c.args.words.now in
    let known = g.E.Write.contents c.args.errors.now in
    heard c.args.is_terminal words known known _ c.if-not-is_terminal.false (refl, Keeps-refl known)
