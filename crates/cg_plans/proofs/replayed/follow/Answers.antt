use Rattle.std.proofs.Common.{refl, sym, subst, ◌++◌, ◌∷◌, []}
use Rattle.cg_model.specs.Clauses.{first}
use Rattle.cg_model.specs.Bars.{bars}
use Rattle.cg_model.specs.Outcomes.{RefusedBy}
use Rattle.cg_lines.specs.OperationLines.{HasLine}
use Rattle.cg_plans.specs.Following.{Follows}
use Rattle.cg_plans.proofs.Following.{follows-more}
use Rattle.cg_plans.proofs.replayed.follow.Goals as goal

pub returns : goal.returns
returns g c start subtree known at kept =
    let user = c.args.user.now in
    let free = subst (λ outcome. RefusedBy outcome (first (bars c.args.replay.now.state user c.args.op))) c.in-Ok-Done.field-0-is
    c.in-Ok-Done.ensures.outcome in
    let line = subst (λ vocabulary. HasLine vocabulary c.args.op) known (c.if-not-has_short_line.ensures.line refl) in
    let more = follows-more start user subtree c.args.replay.now c.args.kept.now c.args.op at free line in
    let stepped-is = subst (λ run. Follows start user subtree run (c.args.kept.now ++ c.args.op ∷ [])) (sym c.in-Ok-Done.ensures.ok) more in
    subst (λ ops. Follows start user subtree c.step.new.self ops) (sym c.in_ok-push.ensures.ok) stepped-is
