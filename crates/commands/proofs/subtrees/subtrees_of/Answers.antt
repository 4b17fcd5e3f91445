use Rattle.std.proofs.Common.{List, ℕ, [], ◌∷◌, map, arith, ap, sym, ◌∙◌, Err}
use Rattle.std.specs.Borrow.{Bor}
use Rattle.std.proofs.lemmas.List.{map-append}
use Rattle.std.proofs.lemmas.Result.{err_from_is_err_and}
use Rattle.commands.specs.Lines.{one_read}
use Rattle.commands.specs.SubtreeLines.{subtree_line_read}
use Rattle.commands.proofs.LineLaws.{further, stopped, ended, cut_off}
use Rattle.commands.proofs.subtrees.subtrees_of.Goals as goal

abbrev words_of : List (Bor (List ℕ)) → List (List ℕ)
words_of subtrees = map (λ subtree. subtree.now) subtrees

pub loop-line-preserved : goal.loop-line-preserved
loop-line-preserved c =
    let subtree = c.in_ok-subtree_at.field-0 in
    let front = c.loop-line.subtrees.items in record {
      read =
          rw (c.in_ok-push.ensures.items, map-append (λ (subtree : Bor (List ℕ)). subtree.now) front (subtree ∷ []))
          (further subtree_line_read c.args.is_long c.loop-line.done c.loop-line.rest.now (words_of front) _ c.loop-line.invariant.read
          c.in-Some.line.now c.in-Some.others.now c.in-Some.ensures.pieces (subtree.now ∷ [])
          (ap (one_read c.loop-line.done) c.in_ok-subtree_at.ensures.subtree));
      few = omega (arith, c.in-Some.ensures.less, c.loop-line.invariant.few);
    }

pub returns-in_err-subtree_at-clause-subtrees : goal.returns-in_err-subtree_at-clause-subtrees
returns-in_err-subtree_at-clause-subtrees c =
    let p = err_from_is_err_and c.from_residual.result c.from_residual.ensures.1 in
    rw (p.1, p.2)
    (λ known.
    let bad = c.in_err-subtree_at.ensures.subtree known in
    stopped subtree_line_read c.args.is_long c.loop-line.done c.loop-line.rest.now (words_of c.loop-line.subtrees.items) _
    c.loop-line.invariant.read c.in-Some.line.now c.in-Some.others.now c.in-Some.ensures.pieces c.in_err-subtree_at.field-0.0
    (ap (one_read c.loop-line.done) bad.0 ∙ ap Err (sym bad.1)))

pub returns-in_err-test_end-clause-subtrees : goal.returns-in_err-test_end-clause-subtrees
returns-in_err-test_end-clause-subtrees c =
    let p = err_from_is_err_and c.from_residual-in_err-test_end.result c.from_residual-in_err-test_end.ensures.1 in
    rw (p.1, p.2)
    (λ known. cut_off subtree_line_read c.args.is_long c.loop-line.done c.loop-line.rest.now (words_of c.loop-line.subtrees.items) _
    c.loop-line.invariant.read c.in_default.ensures.pieces c.in_err-test_end.field-0.0 c.in_err-test_end.ensures.end)

pub returns-clause-subtrees : goal.returns-clause-subtrees
returns-clause-subtrees c =
    ended subtree_line_read c.args.is_long c.loop-line.done c.loop-line.rest.now (words_of c.loop-line.subtrees.items) _
    c.loop-line.invariant.read c.in_default.ensures.pieces c.in_ok-test_end.ensures.end
