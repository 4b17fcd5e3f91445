use Rattle.std.proofs.Common.{◌≡◌, ◌++◌, take, drop, map}
use Rattle.cg_model.specs.States.{enabling}
use Rattle.cg_rows.proofs.tables.path_table.enable.enable_all.Given as goal

abbrev pub invariant-loop-entry : goal.invariant-loop-entry
invariant-loop-entry l =
    l.entries ≡ map (λ e. (e.0, enabling l.path l.enabled l.user e.0 e.1)) (take l.entry-index l.initial.entries)
    ++ drop l.entry-index l.initial.entries
