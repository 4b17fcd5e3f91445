use Rattle.std.proofs.Common.{◌≡◌, take, fold}
use Rattle.std.specs.List.{AllByRecursion}
use Rattle.toml.specs.View.{table_view}
use Rattle.cg_cgroup.specs.Files.{all_others}
use Rattle.cg_print.specs.Carried.{ToldHasIds}
use Rattle.cg_print.specs.Documents.{with_told}
use Rattle.cg_print.proofs.told.with_all_told.Given as goal

abbrev pub invariant-loop-file : goal.invariant-loop-file
invariant-loop-file l = record {
  written : table_view l.all ≡ fold (with_told l.files) (table_view l.fn.keys) (take l.file-index all_others);
  ids : AllByRecursion (ToldHasIds l.files) (take l.file-index all_others);
}
