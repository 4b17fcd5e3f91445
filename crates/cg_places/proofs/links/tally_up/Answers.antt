use Rattle.std.proofs.Common.{ap, sym, ◌∙◌, arith, length, ℕ, ◌<◌, ◌+◌, ◌-◌}
use Rattle.std.specs.Prelude.{slice_set}
use Rattle.cg_places.specs.Links.{link_at, tallied_link, tallied_up}
use Rattle.cg_places.proofs.Turns.{changed_more}
use Rattle.cg_places.proofs.links.tally_up.Goals as goal

pub loop-done-preserved : goal.loop-done-preserved
loop-done-preserved c =
    let within : c.loop-done.at < length c.loop-done.links = omega arith in
    let m =
    sym (changed_more (tallied_link c.args.tally) c.loop-done.links c.loop-done.at c.args.count c.loop-done.done within (omega arith))
    ∙ c.loop-done.invariant in
    ap (λ (b : ℕ). tallied_up c.args.tally
    (slice_set c.loop-done.links c.loop-done.at (record (link_at c.loop-done.links c.loop-done.at) { below = b }))
    (link_at c.loop-done.links c.loop-done.at).above (c.args.count - (c.loop-done.done + 1))) c.of-link.ensures ∙ m
