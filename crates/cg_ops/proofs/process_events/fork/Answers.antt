use Rattle.std.proofs.Common.{sym, ap, ◌∙◌, is_some, true≢false}
use Rattle.cg_model.specs.States.{process_at}
use Rattle.cg_cgroup.proofs.Options.{is_some-mapped}
use Rattle.cg_model.proofs.Allowed.{live_fork}
use Rattle.cg_ops.proofs.process_events.fork.Goals as goal

pub unreachable-requires : goal.unreachable-requires
unreachable-requires g c =
    let st = g.H.Hierarchy.state c.args.tree.now in
    true≢false (sym (live_fork st c.args.user.now c.args.parent c.args.child c.requires)
    ∙ sym (is_some-mapped (λ process. process.uid) (process_at st c.args.parent)) ∙ ap is_some (sym c.in_default.ensures))

pub unreachable-requires-in_default-place : goal.unreachable-requires-in_default-place
unreachable-requires-in_default-place g c =
    let st = g.H.Hierarchy.state c.args.tree.now in
    true≢false (sym (live_fork st c.args.user.now c.args.parent c.args.child c.requires)
    ∙ sym (is_some-mapped (λ process. process.place) (process_at st c.args.parent)) ∙ ap is_some (sym c.in_default-place.ensures.place))
