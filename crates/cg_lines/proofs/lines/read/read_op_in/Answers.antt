use Rattle.std.proofs.Common.{arith, subst, sym, List, ℕ}
use Rattle.std.specs.Str.{IsUtf8}
use Rattle.cg_lines.specs.LineReading.{ReadsAs, operation_at}
use Rattle.cg_lines.proofs.LineLaws.{line_utf8, read_ok, read_bad}
use Rattle.cg_lines.proofs.lines.read.read_op_in.Goals as goal

pub returns-clause-ok : goal.returns-clause-ok
returns-clause-ok c =
    let read = λ (t : List ℕ). ReadsAs c.operation_of.result (operation_at c.args.vocabulary t) in
    read_ok c.args.vocabulary c.args.line.now c.operation_of.result 8192 (subst read c.in-Ok.ensures.cases.0 c.operation_of.ensures)
    (omega arith)

pub returns-clause-bad_word : goal.returns-clause-bad_word
returns-clause-bad_word c =
    let read = λ (t : List ℕ). ReadsAs c.operation_of.result (operation_at c.args.vocabulary t) in
    read_bad c.args.vocabulary c.args.line.now c.operation_of.result (subst read c.in-Ok.ensures.cases.0 c.operation_of.ensures)

pub returns-in_default-clause-bad_word : goal.returns-in_default-clause-bad_word
returns-in_default-clause-bad_word c e op h spelled =
    c.in_default.ensures.cases.0 (subst IsUtf8 (sym spelled) (line_utf8 c.args.vocabulary op h))
