use Rattle.std.proofs.Common.{arith}
use Rattle.cg_cgroup.specs.declared.files.Controller.TheVariants.{Memory}
use Rattle.cg_second.specs.Anchors.{is_fixed}
use Rattle.cg_second.proofs.Staying.{end-read-fits, read-any}
use Rattle.cg_second.proofs.survey.Survey.fixed_below.Goals as goal

pub index-requires-3 : goal.index-requires-3
index-requires-3 g c =
    let s = c.args.self.now in
    let fits =
    end-read-fits (g.H.Hierarchy.state s.tree.now) s.users.now s.paths.items s.ends.items s.kept.items s.fixed.items c.requires.survey
    c.args.at c.requires.within (is_fixed (g.H.Hierarchy.state s.tree.now) s.users.now Memory) s.fixed.items c.requires.survey.enabling
    c.index-2.result.now c.index-2.ensures in
    let long = s.fixed.ok in
    omega (arith, fits, long)

pub returns : goal.returns
returns g c =
    let s = c.args.self.now in
    read-any (g.H.Hierarchy.state s.tree.now) s.users.now s.paths.items s.ends.items s.kept.items s.fixed.items c.requires.survey
    c.args.at c.requires.within (is_fixed (g.H.Hierarchy.state s.tree.now) s.users.now Memory) s.fixed.items c.requires.survey.enabling
    c.index.result.now c.index-2.result.now c.index-3.result.now c.index.ensures c.index-2.ensures c.index-3.ensures
