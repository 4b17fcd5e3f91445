use Rattle.std.proofs.Common.{ap, sym, ◌∙◌, cond}
use Rattle.cg_advice.specs.Ways.{ways_with}
use Rattle.cg_advice.proofs.stand.enter.Goals as goal

pub returns-then-not-is_new-clause-ways : goal.returns-then-not-is_new-clause-ways
returns-then-not-is_new-clause-ways c =
    let stand = c.args.stand.now in
    ap (λ b. cond b (ways_with stand.ways c.args.user.now stand.at.entry) stand.ways) (sym c.if-not-is_new.true ∙ c.is_new.ensures)

pub returns-clause-ways : goal.returns-clause-ways
returns-clause-ways c =
    let stand = c.args.stand.now in
    c.with-stand.ensures
    ∙ ap (λ b. cond b (ways_with stand.ways c.args.user.now stand.at.entry) stand.ways) (sym c.if-not-is_new.false ∙ c.is_new.ensures)
