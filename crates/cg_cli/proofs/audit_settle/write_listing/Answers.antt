use Rattle.std.proofs.Common.{subst, ◌∙◌}
use Rattle.std.specs.Io.KnownBytes.{Appends}
use Rattle.std.proofs.lemmas.Result.{err_from_is_err_and}
use Rattle.streams.specs.Written.{AppendsPart}
use Rattle.cg_cli.specs.Formats.{listing_in}
use Rattle.cg_cli.specs.SettledRows.{rows_pairs}
use Rattle.cg_cli.proofs.AllPairs.{contained_wants, contained_reports, contained_part}
use Rattle.cg_cli.proofs.audit_settle.write_listing.Goals as goal

pub returns-in_err-text : goal.returns-in_err-text
returns-in_err-text g c =
    let p = err_from_is_err_and c.from_residual-in_err-text.result c.from_residual-in_err-text.ensures.1 in
    rw (p.1, p.2)
    (contained_wants (listing_in c.args.format) (rows_pairs c.args.users.now c.args.subtrees.now c.args.rows.now)
    c.in_ok-status.status _ _ c.in_ok-status.ensures)

pub returns-in_err-write_whole : goal.returns-in_err-write_whole
returns-in_err-write_whole g c =
    let p = err_from_is_err_and c.from_residual-in_err-write_whole.result c.from_residual-in_err-write_whole.ensures.1 in
    rw (p.1, p.2)
    (contained_part (listing_in c.args.format) (rows_pairs c.args.users.now c.args.subtrees.now c.args.rows.now)
    c.in_ok-status.status _ _ _ c.in_ok-status.ensures c.if-status-eq0.true
    (subst (AppendsPart (g.W.Write.contents c.write_rows.new.out) (g.W.Write.contents c.write_whole.new.out))
    (c.as_slice.ensures.value ∙ c.in_ok-text.ensures) c.in_err-write_whole.ensures.err))

pub returns-in_ok-write_whole : goal.returns-in_ok-write_whole
returns-in_ok-write_whole g c =
    contained_reports (listing_in c.args.format) (rows_pairs c.args.users.now c.args.subtrees.now c.args.rows.now)
    c.in_ok-status.status _ _ _ c.in_ok-status.ensures c.if-status-eq0.true
    (subst (Appends (g.W.Write.contents c.write_rows.new.out) (g.W.Write.contents c.write_whole.new.out))
    (c.as_slice.ensures.value ∙ c.in_ok-text.ensures) c.in_ok-write_whole.ensures.ok)
