use Rattle.std.proofs.Common.{sym, ap, take, ◌∙◌}
use Rattle.std.specs.Ordering.{is_eq}
use Rattle.cg_cgroup.proofs.PathOrder.{same_path-ties}
use Rattle.cg_rows.proofs.tables.kin.is_same.Goals as goal

pub returns : goal.returns
returns c = c.is_eq.ensures ∙ ap is_eq c.cmp_prefix.ensures ∙ sym (same_path-ties c.args.other.now (take c.args.len c.args.path.now))
