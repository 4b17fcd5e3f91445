use Rattle.std.proofs.Common.{◌∙◌}
use Rattle.std.proofs.lemmas.Result.{err_from_is_err_and}
use Rattle.cg_model.specs.Listed.{listed_unless_contained}
use Rattle.cg_cli.specs.Formats.{listing_in}
use Rattle.cg_cli.proofs.AllPairs.{one_written, one_part, wants}
use Rattle.cg_cli.proofs.audit_settle.write_pair.Goals as goal

pub returns-in_err-text : goal.returns-in_err-text
returns-in_err-text g c =
    let p = err_from_is_err_and c.from_residual.result c.from_residual.ensures.1 in
    rw (p.1, p.2)
    (wants (listing_in c.args.format) (listed_unless_contained c.args.user.now c.args.subtree.now c.args.answer.now)
    (g.W.Write.contents c.args.out.now))

pub returns-in_err-write_whole : goal.returns-in_err-write_whole
returns-in_err-write_whole g c =
    let p = err_from_is_err_and c.from_residual-in_err-write_whole.result c.from_residual-in_err-write_whole.ensures.1 in
    rw (p.1, p.2)
    (one_part (listing_in c.args.format) c.args.user.now c.args.subtree.now c.args.answer.now (g.W.Write.contents c.args.out.now)
    (g.W.Write.contents c.write_whole.new.out) c.as_slice.result.now c.requires.listed
    (c.as_slice.ensures.value ∙ c.in_ok-text.ensures) c.in_err-write_whole.ensures.err)

pub returns : goal.returns
returns g c =
    one_written (listing_in c.args.format) c.args.user.now c.args.subtree.now c.args.answer.now (g.W.Write.contents c.args.out.now)
    (g.W.Write.contents c.write_whole.new.out) c.as_slice.result.now c.status.result c.requires.listed
    (c.as_slice.ensures.value ∙ c.in_ok-text.ensures) c.status.ensures c.in_ok-write_whole.ensures.ok
