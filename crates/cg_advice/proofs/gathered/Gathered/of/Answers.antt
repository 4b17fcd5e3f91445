use Rattle.std.proofs.Common.{ap, sym, subst, ◌∙◌, map, take}
use Rattle.cg_advice.specs.Ways.{entering, ways_with, AreGathered}
use Rattle.cg_advice.proofs.Gathering.{one_more, gathered_more}
use Rattle.cg_advice.proofs.gathered.Gathered.of.Goals as goal

pub loop-each-preserved : goal.loop-each-preserved
loop-each-preserved c =
    let x = entering c.each-item.result in
    subst (AreGathered c.insert.new.self)
    (sym (one_more entering c.args.entrants.now c.loop-each.each-index c.each-item.result c.loop-each-test.true c.each-item.is))
    (gathered_more c.loop-each.gathered.ways c.insert.new.self (map entering (take c.loop-each.each-index c.args.entrants.now)) x
    c.in_ok-key.key c.with-ways.result c.loop-each.invariant
    (record { path = c.in_ok-key.ensures.path; name = c.in_ok-key.ensures.name })
    (c.with-ways.ensures ∙ ap (λ ways. ways_with ways x.user x.at.entry) c.at.ensures)
    c.in_ok-insert.ensures.updates.0)
