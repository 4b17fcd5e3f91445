use Rattle.std.proofs.Common.{◌∙◌}
use Rattle.std.proofs.lemmas.Result.{err_from_is_err_and}
use Rattle.cg_report.proofs.Shown.{answers_are_shown}
use Rattle.cg_model.specs.Answers.{answer}
use Rattle.cg_model.specs.Listed.{listed_unless_contained}
use Rattle.cg_cli.specs.Formats.{listing_in}
use Rattle.cg_cli.proofs.AllPairs.{fault_wants, contained_writes, pair_writes, pair_stops, wants}
use Rattle.cg_cli.proofs.audit_all.write_pair.Goals as goal

pub returns-in_err-answer : goal.returns-in_err-answer
returns-in_err-answer g c =
    let p = err_from_is_err_and c.from_residual.result c.from_residual.ensures.1 in
    rw (p.1, p.2)
    (fault_wants (listing_in c.args.format) c.args.user.now c.args.subtree.now (g.H.Hierarchy.state c.args.tree.now) c.requires.there
    c.in_err-answer.field-0.0 (g.W.Write.contents c.args.out.now) c.in_err-answer.ensures.answer)

pub returns-in-Contained : goal.returns-in-Contained
returns-in-Contained g c =
    contained_writes (listing_in c.args.format) c.args.user.now c.args.subtree.now (g.H.Hierarchy.state c.args.tree.now) c.requires.there
    c.in_ok-answer.answer (g.W.Write.contents c.args.out.now) c.in_ok-answer.ensures.answer c.in-Contained.is

pub text_of-requires : goal.text_of-requires
text_of-requires g c =
    answers_are_shown (g.H.Hierarchy.state c.args.tree.now) c.args.user.now c.args.subtree.now c.in_ok-answer.answer
    c.in_ok-answer.ensures.answer

pub returns-in_err-text : goal.returns-in_err-text
returns-in_err-text g c =
    let p = err_from_is_err_and c.from_residual-in_err-text.result c.from_residual-in_err-text.ensures.1 in
    rw (p.1, p.2) (wants (listing_in c.args.format) (listed_unless_contained c.args.user.now c.args.subtree.now
    (answer (g.H.Hierarchy.state c.args.tree.now) c.args.user.now c.args.subtree.now)) (g.W.Write.contents c.args.out.now))

pub returns-in_err-write_whole : goal.returns-in_err-write_whole
returns-in_err-write_whole g c =
    let p = err_from_is_err_and c.from_residual-in_err-write_whole.result c.from_residual-in_err-write_whole.ensures.1 in
    rw (p.1, p.2)
    (pair_stops (listing_in c.args.format) c.args.user.now c.args.subtree.now (g.H.Hierarchy.state c.args.tree.now) c.requires.there
    c.in_ok-answer.answer (g.W.Write.contents c.args.out.now) (g.W.Write.contents c.write_whole.new.out) c.as_slice.result.now
    c.in_ok-answer.ensures.answer c.in_default.not-Contained (c.as_slice.ensures.value ∙ c.in_ok-text.ensures)
    c.in_err-write_whole.ensures.err)

pub returns : goal.returns
returns g c =
    pair_writes (listing_in c.args.format) c.args.user.now c.args.subtree.now (g.H.Hierarchy.state c.args.tree.now) c.requires.there
    c.in_ok-answer.answer (g.W.Write.contents c.args.out.now) (g.W.Write.contents c.write_whole.new.out) c.as_slice.result.now
    c.status.result
    c.in_ok-answer.ensures.answer c.in_default.not-Contained (c.as_slice.ensures.value ∙ c.in_ok-text.ensures) c.status.ensures
    c.in_ok-write_whole.ensures.ok
