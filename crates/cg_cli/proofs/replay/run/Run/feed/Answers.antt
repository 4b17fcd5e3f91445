use Rattle.std.proofs.Common.{◌≡◌, ◌<◌, false, ◌++◌, take, length, arith, length-append, length-take-le}
use Rattle.std.proofs.lemmas.Grind.{common_steps}
use Rattle.std.proofs.lemmas.List.Elements.{All-append}
use Rattle.std.proofs.KnownBytes.{Keeps-refl}
use Rattle.cg_cli.specs.Replays.{is_newline}
use Rattle.cg_cli.specs.Replaying.{standing_of, coming}
use Rattle.cg_cli.proofs.ReplayRuns.{fed_answer, fed_fault, fed_long, fed_many}
use Rattle.cg_cli.proofs.replay.run.Run.feed.Goals as goal

pub returns-then-self-ge-MOST_OPERATIONS-clause-fed : goal.returns-then-self-ge-MOST_OPERATIONS-clause-fed
returns-then-self-ge-MOST_OPERATIONS-clause-fed g c = (
  λ rest. fed_many (standing_of g.C.OnCourse.course c.args.self.now) c.args.piece.now (omega arith) c.requires.some rest,
  Keeps-refl (g.W.Write.contents c.args.out.now),
)

pub returns-then-len-end-gt-LONGEST_LINE-clause-fed : goal.returns-then-len-end-gt-LONGEST_LINE-clause-fed
returns-then-len-end-gt-LONGEST_LINE-clause-fed g c =
    let at = standing_of g.C.OnCourse.course c.args.self.now in
    let piece = c.args.piece.now in
    let end = c.line_end-end.result in
    let none = All-append (λ b. is_newline b ≡ false) at.line (take end piece) c.requires.waiting.one_line c.line_end-end.ensures.before in
    let long : 8192 < length (at.line ++ take end piece) =
    omega (arith, length-append at.line (take end piece), length-take-le end piece c.line_end-end.ensures.bound) in
    let few : at.done < 65536 = omega arith in
    rw c.of_line.ensures (λ rest. fed_long at piece end none long few rest, Keeps-refl (g.W.Write.contents c.args.out.now))

-- the line is whole, and its newline is there
pub returns-in_err-answer-clause-fed : goal.returns-in_err-answer-clause-fed
returns-in_err-answer-clause-fed g c =
    let self = c.args.self.now in
    let now = g.C.OnCourse.course c.answer.new.course in
    fed_fault (standing_of g.C.OnCourse.course self) c.args.piece.now c.line_end-end.result
    c.as_slice.result.now (grind (arith, common_steps)) c.requires.waiting.one_line c.line_end-end.ensures.before
    (omega arith) c.line_end-end.ensures.newline now (g.W.Write.contents c.args.out.now) (g.W.Write.contents c.answer.new.out)
    (coming (record {
      protocol = self.protocol;
      course = now;
      user = self.user;
      line = c.extend_from_slice.new.self.items;
      done = self.done;
    }))
    c.in_err-answer.field-0.0 c.in_err-answer.ensures c.from_residual-in_err-answer.result c.from_residual-in_err-answer.ensures.1

pub returns-clause-fed : goal.returns-clause-fed
returns-clause-fed g c = (
  omega arith,
  fed_answer (standing_of g.C.OnCourse.course c.args.self.now) c.args.piece.now c.line_end-end.result
      c.as_slice.result.now (grind (arith, common_steps)) c.requires.waiting.one_line c.line_end-end.ensures.before
      (omega arith) c.line_end-end.ensures.newline (g.C.OnCourse.course c.answer.new.course)
      (g.W.Write.contents c.args.out.now) (g.W.Write.contents c.answer.new.out) c.in_ok-answer.ensures _ c.clear.ensures.items,
)
