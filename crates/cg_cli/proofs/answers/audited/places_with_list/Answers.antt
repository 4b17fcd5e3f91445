use Rattle.std.proofs.Common.{sym, ◌∙◌}
use Rattle.std.specs.Ordering.{nat_cmp}
use Rattle.std.specs.BTreeSet.{contains}
use Rattle.cg_cli.proofs.Auditing.{place_entered, place_passed}
use Rattle.cg_cli.proofs.answers.audited.places_with_list.Goals as goal

pub loop-each-preserved-then-not-has_list : goal.loop-each-preserved-then-not-has_list
loop-each-preserved-then-not-has_list c =
    place_passed c.args.found.now c.loop-each.each-index c.each-item.result c.loop-each-test.true c.each-item.is
    (contains nat_cmp c.loop-each.places) c.loop-each.invariant (sym c.has_list.ensures ∙ c.if-not-has_list.true)

pub loop-each-preserved : goal.loop-each-preserved
loop-each-preserved c =
    place_entered c.args.found.now c.loop-each.each-index c.each-item.result c.loop-each-test.true c.each-item.is
    (contains nat_cmp c.loop-each.places) (contains nat_cmp c.insert.new.self) c.loop-each.invariant
    (sym c.has_list.ensures ∙ c.if-not-has_list.false) c.in_ok-insert.ensures.updates.0
