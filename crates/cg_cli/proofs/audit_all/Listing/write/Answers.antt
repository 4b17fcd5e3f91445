use Rattle.std.proofs.Common.{List, refl, sym, subst, ◌∙◌}
use Rattle.std.specs.Io.KnownBytes.{Appends}
use Rattle.std.proofs.lemmas.Result.{err_from_is_err_and}
use Rattle.cg_model.specs.Listed.{Listed, listed}
use Rattle.streams.specs.Written.{AppendsPart}
use Rattle.cg_check.proofs.ListedLaws.{all-unlisted}
use Rattle.cg_cli.specs.Formats.{listing_in}
use Rattle.cg_cli.proofs.AllPairs.{by_pairs, contained_wants, contained_said, contained_stops}
use Rattle.cg_cli.proofs.audit_all.Listing.write.Goals as goal

pub returns-in_err-text-clause-report : goal.returns-in_err-text-clause-report
returns-in_err-text-clause-report g c =
    let p = err_from_is_err_and c.from_residual-in_err-text.result c.from_residual-in_err-text.ensures.1 in
    let st = g.H.Hierarchy.state c.args.self.now.tree.now in
    let pairs : List Listed = listed st c.args.users.now c.args.self.now.subtrees.now in
    rw (p.1, p.2)
    (by_pairs (listing_in c.args.self.now.format) st c.args.self.now.subtrees.now pairs c.in_default.ensures.fault _ _ _
    (contained_wants (listing_in c.args.self.now.format) pairs c.in_ok-status.status _ _ c.in_ok-status.ensures))

pub returns-in_err-write_whole-clause-report : goal.returns-in_err-write_whole-clause-report
returns-in_err-write_whole-clause-report g c =
    let p = err_from_is_err_and c.from_residual-in_err-write_whole.result c.from_residual-in_err-write_whole.ensures.1 in
    let st = g.H.Hierarchy.state c.args.self.now.tree.now in
    rw (p.1, p.2)
    (contained_stops (listing_in c.args.self.now.format) st c.args.self.now.subtrees.now
    (listed st c.args.users.now c.args.self.now.subtrees.now) c.in_default.ensures.fault c.in_ok-status.status _ _ _ c.in_ok-status.ensures
    c.if-status-eq0.true
    (subst (AppendsPart (g.W.Write.contents c.write_pairs.new.out) (g.W.Write.contents c.write_whole.new.out))
    (c.as_slice.ensures.value ∙ c.in_ok-text.ensures) c.in_err-write_whole.ensures.err))

pub returns-in_ok-write_whole-clause-report : goal.returns-in_ok-write_whole-clause-report
returns-in_ok-write_whole-clause-report g c =
    let st = g.H.Hierarchy.state c.args.self.now.tree.now in
    contained_said (listing_in c.args.self.now.format) st c.args.self.now.subtrees.now
    (listed st c.args.users.now c.args.self.now.subtrees.now) c.in_default.ensures.fault c.in_ok-status.status _ _ _ c.in_ok-status.ensures
    c.if-status-eq0.true
    (subst (Appends (g.W.Write.contents c.write_pairs.new.out) (g.W.Write.contents c.write_whole.new.out))
    (c.as_slice.ensures.value ∙ c.in_ok-text.ensures) c.in_ok-write_whole.ensures.ok)

pub returns-in_ok-write_whole-clause-unlisted : goal.returns-in_ok-write_whole-clause-unlisted
returns-in_ok-write_whole-clause-unlisted g c =
    all-unlisted (g.H.Hierarchy.state c.args.self.now.tree.now) c.args.users.now c.args.self.now.subtrees.now
    (sym c.in_default.ensures.fault) (c.in_default.ensures.formed refl)

pub returns-else-status-eq0-clause-unlisted : goal.returns-else-status-eq0-clause-unlisted
returns-else-status-eq0-clause-unlisted g c =
    all-unlisted (g.H.Hierarchy.state c.args.self.now.tree.now) c.args.users.now c.args.self.now.subtrees.now
    (sym c.in_default.ensures.fault) (c.in_default.ensures.formed refl)
