use Rattle.std.proofs.Common.{◌∙◌, ◌++◌, ap, sym, map, append-nil}
use Rattle.cg_model.specs.Clauses.{present}
use Rattle.cg_everybody.specs.Everybody.{everybody_of, entered_by}
use Rattle.cg_everybody.specs.Entrances.{entrance_spot}
use Rattle.cg_everybody.proofs.walk.enter.Goals as goal

pub returns-in_default : goal.returns-in_default
returns-in_default g c =
    let asked = everybody_of c.args.asked.now in
    sym (ap (λ o. map entrance_spot c.args.found.now.items ++ present o (entered_by asked c.args.subtree.now))
    (sym c.in_default.ensures.entry) ∙ append-nil (map entrance_spot c.args.found.now.items))

pub returns : goal.returns
returns g c =
    let asked = everybody_of c.args.asked.now in
    c.in_ok-enter_one.ensures
    ∙ ap (λ o. map entrance_spot c.args.found.now.items ++ present o (entered_by asked c.args.subtree.now)) c.in-Some.ensures.entry
