use Rattle.std.proofs.Common.{arith}
use Rattle.cg_second.specs.Greatest.{greatest}
use Rattle.cg_second.proofs.Staying.{end-read-fits, read-below}
use Rattle.cg_second.proofs.survey.Survey.kept_below.Goals as goal

pub index-requires-2 : goal.index-requires-2
index-requires-2 g c =
    let s = c.args.self.now in
    let fits =
    end-read-fits (g.H.Hierarchy.state s.tree.now) s.users.now s.paths.items s.ends.items s.kept.items s.fixed.items c.requires.survey
    c.args.at c.requires.within (greatest (g.H.Hierarchy.state s.tree.now) s.users.now).stays s.kept.items c.requires.survey.staying
    c.index.result.now c.index.ensures in
    let long = s.kept.ok in
    omega (arith, fits, long)

pub overflow_sub-result : goal.overflow_sub-result
overflow_sub-result g c =
    let s = c.args.self.now in
    let sum =
    read-below (g.H.Hierarchy.state s.tree.now) s.users.now s.paths.items s.ends.items s.kept.items s.fixed.items c.requires.survey
    c.args.at c.requires.within (greatest (g.H.Hierarchy.state s.tree.now) s.users.now).stays s.kept.items c.requires.survey.staying
    c.index-3.result.now c.index.result.now c.index-2.result.now c.index-3.ensures c.index.ensures c.index-2.ensures in
    omega (arith, sum)

pub returns : goal.returns
returns g c =
    let s = c.args.self.now in
    let sum =
    read-below (g.H.Hierarchy.state s.tree.now) s.users.now s.paths.items s.ends.items s.kept.items s.fixed.items c.requires.survey
    c.args.at c.requires.within (greatest (g.H.Hierarchy.state s.tree.now) s.users.now).stays s.kept.items c.requires.survey.staying
    c.index-3.result.now c.index.result.now c.index-2.result.now c.index-3.ensures c.index.ensures c.index-2.ensures in
    omega (arith, sum)
