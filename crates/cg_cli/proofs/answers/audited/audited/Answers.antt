use Rattle.std.proofs.Common.{sym, ap, ◌∙◌}
use Rattle.std.specs.List.{list_any}
use Rattle.cg_cli.specs.declared.answers.audited.Found.{Found}
use Rattle.cg_cli.specs.FoundPlaces.{is_unsettled}
use Rattle.cg_cli.proofs.Auditing.{known-settled}
use Rattle.cg_cli.proofs.answers.audited.audited.Goals as goal

pub returns-clause-apart : goal.returns-clause-apart
returns-clause-apart g c = c.in_ok-found.ensures.apart

pub returns-clause-within : goal.returns-clause-within
returns-clause-within g c = c.in_ok-found.ensures.before

pub returns-clause-known : goal.returns-clause-known
returns-clause-known g c =
    known-settled (g.H.Hierarchy.state c.args.tree.now) c.args.users.now c.args.subtree.now c.in_ok-found.found.items c.in_ok-found.ensures
    (ap (list_any (λ (each : Found). is_unsettled each.answer)) (sym c.as_slice.ensures.value) ∙ sym c.is_any_unsettled.ensures
    ∙ c.if-is_any_unsettled.false)
