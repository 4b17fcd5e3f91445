use Rattle.std.proofs.Common.{◌≡◌, ◌⊎◌, length, subst, arith}
use Rattle.std.proofs.lemmas.Bool.Decides.{nat_tests}
use Rattle.std.proofs.lemmas.Result.{err_from_is_err_and}
use Rattle.std.specs.Io.BufRead.{FillKeeps}
use Rattle.cg_cli.specs.Replaying.{standing_of, coming}
use Rattle.cg_faults.specs.declared.fault.CliFault.TheVariants.{Read, NoMemory}
use Rattle.cg_cli.proofs.ReplayReads.{read_failed, read_end, read_fault, read_some}
use Rattle.cg_cli.proofs.replay.reader.read_on.Goals as goal

pub returns-in-Err-clause-read : goal.returns-in-Err-clause-read
returns-in-Err-clause-read g c =
    let before = coming (standing_of g.C.OnCourse.course c.args.run.now) in
    let failed : (c.from.result ≡ Read) ⊎ (c.from.result ≡ NoMemory) = grind arith in
    read_failed before before (g.R.Read.remaining c.args.ops.now) (g.R.Read.remaining c.fill_buf.follows.lender-at-none)
    (g.W.Write.contents c.args.out.now) c.from.result
    failed c.fill_buf.follows.holds-at-none.0

pub returns-then-is_empty-clause-read : goal.returns-then-is_empty-clause-read
returns-then-is_empty-clause-read g c =
    let none : length c.in-Ok.piece.now ≡ 0 = grind (arith, nat_tests) in
    read_end _ _ _ _ _ none c.in-Ok.ensures.end c.fill_buf.follows.holds-at-none.0

pub returns-in_err-taken-clause-read : goal.returns-in_err-taken-clause-read
returns-in_err-taken-clause-read g c =
    let before = coming (standing_of g.C.OnCourse.course c.args.run.now) in
    let after = coming (standing_of g.C.OnCourse.course c.feed.new.self) in
    let p = err_from_is_err_and c.from_residual.result c.from_residual.ensures.1 in
    rw (p.1, p.2)
    (read_fault before after (g.R.Read.remaining c.args.ops.now) (g.R.Read.remaining c.fill_buf.follows.lender-at-none)
    (g.W.Write.contents c.args.out.now)
    (g.W.Write.contents c.feed.new.out) c.in-Ok.piece.now c.in_err-taken.field-0.0 c.in-Ok.ensures.front c.in_err-taken.ensures.fed)

pub returns-clause-read : goal.returns-clause-read
returns-clause-read g c =
    let before = coming (standing_of g.C.OnCourse.course c.args.run.now) in
    let after = coming (standing_of g.C.OnCourse.course c.feed.new.self) in
    let had = g.R.Read.remaining c.args.ops.now in
    let rested = c.fill_buf.follows.lender-at-none in
    let filled =
    subst (FillKeeps had (g.R.Read.remaining rested) (g.R.BufRead.consumable_len rested)) c.in-Ok.is c.fill_buf.follows.holds-at-none in
    read_some before after had (g.R.Read.remaining rested) (g.R.Read.remaining c.consume.new.self) (g.W.Write.contents c.args.out.now)
    (g.W.Write.contents c.feed.new.out)
    (g.R.BufRead.consumable_len rested) c.in-Ok.piece.now c.in_ok-taken.taken c.in_ok-taken.ensures.some c.in-Ok.ensures.front
    c.in-Ok.ensures.end filled.0 filled.1
    c.consume.ensures.bytes c.in_ok-taken.ensures.fed
