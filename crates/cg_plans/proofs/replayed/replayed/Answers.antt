use Rattle.std.proofs.Common.{◌<◌, length, Ok, refl, sym, ap, ◌∙◌, subst}
use Rattle.cg_cgroup.specs.Files.{vocabulary_of}
use Rattle.cg_model.specs.declared.verdict.Verdict.TheVariants.{Broken}
use Rattle.cg_plans.proofs.Following.{follows-breaks}
use Rattle.cg_plans.proofs.replayed.replayed.Goals as goal

pub returns-then-is_broken_by_last : goal.returns-then-is_broken_by_last
returns-then-is_broken_by_last g c =
    let start = g.H.Hierarchy.state c.args.tree.now in
    let subtree = c.args.subtree.now in
    let follows = c.in_ok-follow.ensures start subtree (c.of-vocabulary.ensures ∙ ap vocabulary_of c.controllers.ensures.controllers)
    c.loop-op.invariant.1 (ap Ok c.if-not-branch.false) in
    let last = c.if-is_broken_by_last.ensures refl in
    follows-breaks start c.args.user.now subtree c.follow.new.replay c.follow.new.kept last.1 follows
    (sym c.verdict.ensures ∙ last.2 ∙ ap (λ ops. Broken (length ops) last.1) c.as_slice.ensures)
    (subst (λ ops. length ops < 65536) c.as_slice.ensures last.0)

pub loop-op-preserved : goal.loop-op-preserved
loop-op-preserved g c =
    let start = g.H.Hierarchy.state c.args.tree.now in
    let known = c.of-vocabulary.ensures ∙ ap vocabulary_of c.controllers.ensures.controllers in
    ((tt, tt), c.in_ok-follow.ensures start c.args.subtree.now known c.loop-op.invariant.1 (ap Ok c.if-not-branch.false))
