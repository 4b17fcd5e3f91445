use Rattle.std.proofs.Common.{◌≡◌, take, fold}
use Rattle.std.specs.List.{AllByRecursion}
use Rattle.toml.specs.Data.{table, no_members}
use Rattle.toml.specs.View.{table_view}
use Rattle.cg_cgroup.specs.Texts.{cgroup_procs, cgroup_subtree_control}
use Rattle.cg_cgroup.specs.Files.{all_files}
use Rattle.cg_print.specs.Carried.{FileHasIds}
use Rattle.cg_print.specs.Keys.{with_key}
use Rattle.cg_print.specs.Documents.{entry_table, with_file}
use Rattle.cg_print.proofs.cgroups.limits_table.Given as goal

abbrev pub invariant-loop-file : goal.invariant-loop-file
invariant-loop-file l = record {
  written : table_view l.keys
      ≡ fold (with_file l.cgroup) (with_key cgroup_subtree_control (table (entry_table l.cgroup.subtree_control))
      (with_key cgroup_procs (table (entry_table l.cgroup.procs)) no_members)) (take l.file-index all_files);
  ids : AllByRecursion (FileHasIds l.cgroup) (take l.file-index all_files);
}
