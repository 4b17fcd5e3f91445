use Rattle.std.proofs.Common.{ap, sym, ◌∙◌}
use Rattle.cg_model.specs.Checks.{unless_fault}
use Rattle.cg_advice.specs.Found.{advice_parts}
use Rattle.cg_cli.specs.Advising.{paired}
use Rattle.cg_cli.specs.Reports.{Report}
use Rattle.cg_cli.proofs.AsJson.{advice_found, no_lines}
use Rattle.cg_cli.proofs.NamedPairs.{contained-as-named}
use Rattle.cg_cli.proofs.ReportLaws.{same_Ok}
use Rattle.cg_cli.proofs.as_json.advise_pairs.advised.Goals as goal

pub returns-in-Some-clause-said : goal.returns-in-Some-clause-said
returns-in-Some-clause-said g c = λ other.
    ap (λ found. unless_fault found
    (advice_parts (g.H.Hierarchy.state c.args.tree.now) (paired c.args.users.now c.args.subtrees.now)))
    (sym c.first_fault.ensures.fault ∙ c.in-Some.is)

pub returns-in-Ok-clause-said : goal.returns-in-Ok-clause-said
returns-in-Ok-clause-said g c =
    advice_found (g.H.Hierarchy.state c.args.tree.now) c.args.subtrees.now (paired c.args.users.now c.args.subtrees.now)
    (sym c.first_fault.ensures.fault ∙ c.in_default.is) _ (rw c.in-Ok.is at c.advice_said.ensures)

pub returns-in-Ok-clause-contained : goal.returns-in-Ok-clause-contained
returns-in-Ok-clause-contained g c zero =
    let st = g.H.Hierarchy.state c.args.tree.now in
    let says = rw c.in-Ok.is at c.advice_said.ensures in
    contained-as-named st c.args.users.now c.args.subtrees.now (sym c.first_fault.ensures.fault ∙ c.in_default.is)
    (c.first_fault.ensures.formed c.in_default.is)
    (no_lines st (paired c.args.users.now c.args.subtrees.now) (same_Ok _ _ (ap (λ (r : Report). r.ending) says) ∙ zero))
