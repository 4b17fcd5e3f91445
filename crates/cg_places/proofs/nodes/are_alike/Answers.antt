use Rattle.std.proofs.Common.{sym, ◌∙◌}
use Rattle.cg_places.proofs.Alike.{cgroup_same, cgroup_found}
use Rattle.cg_places.proofs.nodes.are_alike.Goals as goal

pub returns : goal.returns
returns c = record {
  same = λ is. cgroup_same c.args.a.now c.args.b.now (sym c.eq.ensures ∙ is);
  found = λ is. c.eq.ensures ∙ cgroup_found c.args.a.now c.args.b.now is;
}
