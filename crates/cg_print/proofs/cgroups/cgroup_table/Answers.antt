use Rattle.cg_print.proofs.IdLaws.{ids_only}
use Rattle.cg_print.proofs.cgroups.cgroup_table.Goals as goal

pub returns-clause-named : goal.returns-clause-named
returns-clause-named c = record {
  path = c.path_value.ensures.path;
  ids =
      ids_only c.args.cgroup.now c.in_ok-files.ensures.files c.in_ok-dir.ensures.ids c.in_ok-files.ensures.procs
      c.in_ok-files.ensures.subtree_control;
  told_ids = c.in_ok-files.ensures.told;
}
