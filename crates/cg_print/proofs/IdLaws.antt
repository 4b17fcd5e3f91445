-- The owners and groups of a cgroup, entry by entry.
use Rattle.std.proofs.Common.{subst, true≢false}
use Rattle.std.specs.List.{AllByRecursion}
use Rattle.cg_cgroup.specs.Files.{all_files}
use Rattle.cg_cgroup.specs.Cgroups.{file_of}
use Rattle.cg_cgroup.specs.declared.files.EntryName.TheVariants.{Dir, Procs, SubtreeControl, File, Other}
use Rattle.cg_cgroup.specs.declared.cgroup.LimitEntry.{LimitEntry}
use Rattle.cg_cgroup.specs.declared.cgroup.Cgroup.{Cgroup}
use Rattle.cg_cgroup.proofs.AllFiles.{each_file}
use Rattle.cg_cgroup.proofs.Options.{same_some, mapped_from}
use Rattle.cg_print.specs.Carried.{HasIds, FileHasIds, HasIdsOnly}

module _ (row : Cgroup) (files : AllByRecursion (FileHasIds row) all_files) where
  pub ids_only : HasIds row.dir → HasIds row.procs → HasIds row.subtree_control → HasIdsOnly row
  ids_only dir procs control Dir entry within is = subst HasIds (same_some row.dir entry is) dir
  ids_only dir procs control Procs entry within is = subst HasIds (same_some row.procs entry is) procs
  ids_only dir procs control SubtreeControl entry within is = subst HasIds (same_some row.subtree_control entry is) control
  ids_only dir procs control (File file) entry within is =
      let held = mapped_from (λ (f : LimitEntry). f.entry) (file_of row file) entry is in
      subst HasIds held.2 (each_file (FileHasIds row) files file held.0 held.1)
  ids_only dir procs control (Other file) entry within is = absurd (true≢false within)
