use Rattle.std.proofs.Common.{◌≡◌, length, take, map, filter_map}
use Rattle.toml.specs.Data.{as_table}
use Rattle.toml.specs.View.{view}
use Rattle.cg_text.specs.Rows.{AreReadAs}
use Rattle.cg_format.specs.TextFaults.{row_faults}
use Rattle.cg_format.specs.declared.fault.Place.TheVariants.{Cgroup}
use Rattle.cg_text.proofs.EachRow.{HavePassed}
use Rattle.cg_text.proofs.tree.row.rows_of.Given as goal

abbrev pub invariant-loop-element : goal.invariant-loop-element
invariant-loop-element l = record {
  count : length l.rows.items ≡ length l.yielded;
  passed : HavePassed (λ _. row_faults l.format) Cgroup (filter_map as_table (map view l.fn.elements.items)) (length l.yielded);
  read : AreReadAs l.format 1 (take (length l.yielded) (filter_map as_table (map view l.fn.elements.items))) l.rows.items;
}
