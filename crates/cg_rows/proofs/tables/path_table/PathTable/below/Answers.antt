use Rattle.std.proofs.Common.{take}
use Rattle.cg_rows.proofs.Below.{entries_below}
use Rattle.cg_rows.proofs.tables.path_table.PathTable.below.Goals as goal

pub returns : goal.returns
returns g c =
    entries_below (take c.args.len c.args.path.now) _ _ _ _ c.deref.ensures.value c.range_below-start.ensures _ c.self.view_is
    c.self.invariant c.deref-2.ensures.value
