use Rattle.std.proofs.Common.{Err, refl, sym, subst, ◌∙◌}
use Rattle.cg_cli.specs.AllPairs.{ReportsPairsBy}
use Rattle.cg_cli.specs.Formats.{listing_in}
use Rattle.cg_cli.specs.SettledPairs.{ReportsFound}
use Rattle.cg_faults.specs.declared.fault.CliFault.{CliFault}
use Rattle.cg_cli.proofs.SettledPairs.{subtree_found, memory_wanted, rows_found, listed_as, rows_all, rows_lines, tells}
use Rattle.cg_cli.proofs.audit_settle.write_found.Goals as goal

pub returns-in-Some-clause-report : goal.returns-in-Some-clause-report
returns-in-Some-clause-report g c =
    let st = g.H.Hierarchy.state c.args.tree.now in
    let known = g.W.Write.contents c.args.out.now in
    subst (λ (fault : CliFault).
    ReportsFound (ReportsPairsBy (listing_in c.args.format)) st c.args.users.now c.args.subtrees.now known known (Err fault))
    (sym c.from.ensures)
    (subtree_found st c.args.users.now c.args.subtrees.now (listing_in c.args.format) c.in-Some.fault known
    (sym c.in-Some.is ∙ c.first_fault.ensures.fault))

pub returns-in_err-rows-clause-report : goal.returns-in_err-rows-clause-report
returns-in_err-rows-clause-report g c =
    memory_wanted (g.H.Hierarchy.state c.args.tree.now) c.args.users.now c.args.subtrees.now (listing_in c.args.format)
    (g.W.Write.contents c.args.out.now) c.from_residual.result c.from_residual.ensures.1

pub write_listing-requires : goal.write_listing-requires
write_listing-requires g c =
    let st = g.H.Hierarchy.state c.args.tree.now in
    record {
      all =
          rows_all st c.args.users.now c.args.subtrees.now c.as_slice.result.now (listed_as c.as_slice.ensures.value c.in_ok-rows.ensures)
          (sym c.in_default.ensures.fault);
      lines =
          rows_lines st c.args.users.now c.args.subtrees.now c.as_slice.result.now (listed_as c.as_slice.ensures.value c.in_ok-rows.ensures)
          (sym c.in_default.ensures.fault);
    }

pub returns-clause-report : goal.returns-clause-report
returns-clause-report g c =
    rows_found (g.H.Hierarchy.state c.args.tree.now) c.args.users.now c.args.subtrees.now (listing_in c.args.format) c.as_slice.result.now
    (listed_as c.as_slice.ensures.value c.in_ok-rows.ensures)
    (sym c.in_default.ensures.fault) (g.W.Write.contents c.args.out.now) (g.W.Write.contents c.write_listing.new.out)
    c.write_listing.result c.write_listing.ensures

pub returns-clause-unlisted : goal.returns-clause-unlisted
returns-clause-unlisted g c =
    tells (g.H.Hierarchy.state c.args.tree.now) c.args.users.now c.args.subtrees.now c.as_slice.result.now
    (listed_as c.as_slice.ensures.value c.in_ok-rows.ensures)
    (sym c.in_default.ensures.fault) (listing_in c.args.format) (c.in_default.ensures.formed refl) (g.W.Write.contents c.args.out.now)
    (g.W.Write.contents c.write_listing.new.out) c.write_listing.result c.write_listing.ensures
