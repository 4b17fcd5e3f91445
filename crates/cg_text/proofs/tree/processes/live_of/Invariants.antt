use Rattle.std.proofs.Common.{List, map, filter_map}
use Rattle.toml.specs.Data.{Members, as_table}
use Rattle.toml.specs.View.{view}
use Rattle.cg_format.specs.Tables.{IsAmong}
use Rattle.cg_text.proofs.LiveLaws.{HasRead}
use Rattle.cg_text.proofs.tree.processes.live_of.Given as goal

abbrev pub invariant-loop-index : goal.invariant-loop-index
invariant-loop-index l = (tables : List Members) → IsAmong tables l.cgroups → HasRead tables
    (filter_map as_table (map view l.elements)) l.index l.live
