-- The lines of an entry, by which classes get in there. Own.
use Rattle.std.specs.Prelude.{ℕ, Bool, not, nat_eq, cond, List, [], ◌∷◌, ◌++◌}
use Rattle.std.specs.List.{filter, flat_map}
use Rattle.cg_cgroup.specs.Paths.{Names}
use Rattle.cg_model.specs.Clauses.{unless}
use Rattle.cg_model.specs.declared.guard.GuardedEntry.{GuardedEntry}
use Rattle.cg_model.specs.Mended.{without_bits}
use Rattle.cg_model.specs.declared.mend.Class.{Class}
use Rattle.cg_model.specs.declared.mend.Class.TheVariants.{Owner, Group, Others}
use Rattle.cg_model.specs.declared.mend.Mend.{Mend}
use Rattle.cg_model.specs.declared.mend.Mend.TheVariants.{Chown, Chmod}
use Rattle.cg_advice.specs.declared.ways.Ways.{Ways}
use Rattle.cg_advice.specs.AdviceLines.{fails_line, mend_lines}

-- a guarded entry of a subtree
abbrev pub Spot : Type 0
Spot = Names × GuardedEntry

abbrev pub has_way : Ways → Class → Bool
has_way ways Owner = ways.owner
has_way ways Group = ways.group
has_way ways Others = ways.others

abbrev pub chown_by : Ways → GuardedEntry → List Mend
chown_by ways at = unless (not ways.owner) (Chown at.len at.name (cond ways.owner 0 at.entry.uid) at.entry.gid)

abbrev pub chmod_by : Ways → GuardedEntry → List Mend
chmod_by ways at =
    let shut : ℕ = without_bits ways.inside ways.outside at.entry.mode in unless (nat_eq shut at.entry.mode) (Chmod at.len at.name shut)

abbrev pub lines_by : Ways → Names → GuardedEntry → List ℕ
lines_by ways subtree at =
    flat_map (fails_line subtree at) (filter (has_way ways) (Owner ∷ Group ∷ Others ∷ []))
    ++ mend_lines subtree (chown_by ways at ++ chmod_by ways at)
