use Rattle.std.proofs.Common.{◌≡◌, ◌+◌, ◌-◌, length, take, sym, ap, ◌∙◌, arith}
use Rattle.cg_tries.specs.Finding.{free_path, probe_path, first_probe_path}
use Rattle.cg_tries.proofs.ProbeWalk.{probe_past, probe_here, unwritten, opened, from_level}
use Rattle.cg_tries.proofs.probe_tries.first_probe_path.Given as given
use Rattle.cg_tries.proofs.probe_tries.first_probe_path.Goals as goal
use Rattle.cg_tries.proofs.probe_tries.first_probe_path.Goals.{In_ok-path}

-- an ancestor that the user writes, and that limits let in
written : (g : given.Over) (c : In_ok-path g)
    → probe_path (g.H.Hierarchy.state c.args.asker.now.tree.now) c.args.asker.now.user.now c.args.asker.now.subtree.now (c.loop-len.len - 1)
    ≡ free_path (g.H.Hierarchy.state c.args.asker.now.tree.now) (take (c.loop-len.len - 1) c.args.asker.now.subtree.now)
written g c =
    let within = c.open_levels-len.ensures.within in
    let low = c.loop-len.auto.len in
    opened (g.H.Hierarchy.state c.args.asker.now.tree.now) c.args.asker.now.user.now c.args.asker.now.subtree.now
    c.open_levels-len.result c.open_levels-len.ensures.open (c.loop-len.len - 1) (omega (arith, within, low)) (omega (arith, low))
    (sym c.writes_both.ensures ∙ c.if-writes_both.true)

pub loop-len-init : goal.loop-len-init
loop-len-init g c =
    let st = g.H.Hierarchy.state c.args.asker.now.tree.now in
    let subtree = c.args.asker.now.subtree.now in
    let within = c.open_levels-len.ensures.within in
    let whole : c.open_levels-len.result + (length subtree - c.open_levels-len.result) ≡ length subtree = omega (arith, within) in
    from_level st c.args.asker.now.user.now subtree c.open_levels-len.result c.open_levels-len.ensures.open
    (length subtree - c.open_levels-len.result) (omega (arith, whole))
    ∙ ap (first_probe_path st c.args.asker.now.user.now subtree) whole

pub returns-in-Some : goal.returns-in-Some
returns-in-Some g c =
    sym (probe_here (g.H.Hierarchy.state c.args.asker.now.tree.now) c.args.asker.now.user.now c.args.asker.now.subtree.now c.loop-len.len
    c.in-Some.path c.loop-len-test.true (written g (goal.at.returns-in-Some g c).In_ok-path ∙ sym c.in_ok-path.ensures ∙ c.in-Some.is))
    ∙ c.loop-len.invariant

pub loop-len-preserved-in_default : goal.loop-len-preserved-in_default
loop-len-preserved-in_default g c =
    let at = written g (goal.at.loop-len-preserved-in_default g c).In_ok-path in
    probe_past (g.H.Hierarchy.state c.args.asker.now.tree.now) c.args.asker.now.user.now c.args.asker.now.subtree.now c.loop-len.len
    c.loop-len-test.true (at ∙ sym c.in_ok-path.ensures ∙ c.in_default.is)
    ∙ c.loop-len.invariant

pub loop-len-preserved : goal.loop-len-preserved
loop-len-preserved g c =
    let st = g.H.Hierarchy.state c.args.asker.now.tree.now in
    let user = c.args.asker.now.user.now in
    let subtree = c.args.asker.now.subtree.now in
    probe_past st user subtree c.loop-len.len c.loop-len-test.true
    (unwritten st user subtree (c.loop-len.len - 1) (sym c.writes_both.ensures ∙ c.if-writes_both.false))
    ∙ c.loop-len.invariant
