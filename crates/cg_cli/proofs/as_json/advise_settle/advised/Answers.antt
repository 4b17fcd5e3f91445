use Rattle.std.proofs.Common.{ap, sym, ◌∙◌}
use Rattle.cg_model.specs.Checks.{unless_fault}
use Rattle.cg_cli.specs.AsJson.{settled_parts}
use Rattle.cg_cli.proofs.AsJson.{settled_found}
use Rattle.cg_cli.proofs.as_json.advise_settle.advised.Goals as goal

pub returns-in-Some : goal.returns-in-Some
returns-in-Some g c = λ other.
    ap (λ found. unless_fault found (settled_parts (g.H.Hierarchy.state c.args.tree.now) c.args.users.now c.args.subtrees.now))
    (sym c.first_fault.ensures.fault ∙ c.in-Some.is)

pub returns-in-Ok : goal.returns-in-Ok
returns-in-Ok g c =
    settled_found (g.H.Hierarchy.state c.args.tree.now) c.args.users.now c.args.subtrees.now
    (sym c.first_fault.ensures.fault ∙ c.in_default.is) _ (rw c.in-Ok.is at c.advice_said.ensures)
