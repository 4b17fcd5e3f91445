-- How an answer is found: nobody has to believe it.
-- What the changes of the advice leave of a tree.
use Rattle.std.specs.Prelude.{not, List, ◌++◌, filter}
use Rattle.std.specs.List.{flat_map}
use Rattle.cg_model.specs.States.{State}
use Rattle.cg_model.specs.Mends.{Pair, Entrant, entrants, same_place, met, subtrees_of, entry_changes, limit_changes, made}

-- The tree with all changes made but those of the entry that lets one in.
abbrev pub all_but : State → List Pair → Entrant → State
all_but st pairs left =
    made (flat_map (entry_changes (entrants st pairs)) (filter (λ each. not (same_place left each)) (met st pairs))
    ++ flat_map (limit_changes st) (subtrees_of pairs)) st

-- the tree with all changes made but those of the limits
abbrev pub all_but_limits : State → List Pair → State
all_but_limits st pairs = made (flat_map (entry_changes (entrants st pairs)) (met st pairs)) st
