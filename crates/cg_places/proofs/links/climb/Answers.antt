use Rattle.std.proofs.Common.{true, false, sym, ◌∙◌, arith}
use Rattle.cg_places.proofs.Turns.{climbed_more}
use Rattle.cg_places.proofs.links.climb.Goals as goal

pub returns-then-is_full : goal.returns-then-is_full
returns-then-is_full c =
    climbed_more c.args.links.now c.args.len c.loop-up.at c.loop-up.up true (sym c.if-is_full.true ∙ c.is_full.ensures) (omega arith)
    (omega arith) ∙ c.loop-up.invariant

pub loop-up-preserved : goal.loop-up-preserved
loop-up-preserved c =
    climbed_more c.args.links.now c.args.len c.loop-up.at c.loop-up.up false (sym c.if-is_full.false ∙ c.is_full.ensures) (omega arith)
    (omega arith) ∙ c.loop-up.invariant
