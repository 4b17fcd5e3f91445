use Rattle.std.proofs.Common.{Bor, [], map, take}
use Rattle.std.specs.BTreeSet.{contains}
use Rattle.cg_cgroup.specs.Paths.{Names, path_cmp, same_path}
use Rattle.cg_advice.specs.Found.{over_raised, raised_of}
use Rattle.cg_advice.proofs.Gathering.{AreWritten}
use Rattle.cg_everybody.proofs.objects.advised.overs_of.Given as goal

abbrev pub invariant-loop-subtree : goal.invariant-loop-subtree
invariant-loop-subtree g l =
    AreWritten (raised_of (g.H.Hierarchy.state l.tree)) same_path (λ (key : Bor Names) path. same_path path key.now)
    (map over_raised l.overs.items) [] (take l.subtree-index l.subtrees) (contains (λ (a b : Bor Names). path_cmp a.now b.now) l.seen)
