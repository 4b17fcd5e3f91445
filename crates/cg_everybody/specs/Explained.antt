-- Whom each guarded entry of a subtree lets in, and what its limits count. Own.
use Rattle.std.specs.Prelude.{ℕ, cond, List, [], ◌++◌}
use Rattle.std.specs.List.{flat_map}
use Rattle.cg_cgroup.specs.Paths.{Names}
use Rattle.cg_model.specs.Clauses.{present}
use Rattle.cg_model.specs.Guards.{Guarded, guarded_entries, standing}
use Rattle.cg_model.specs.States.{State}
use Rattle.cg_model.specs.declared.guard.GuardedEntry.{GuardedEntry}
use Rattle.cg_advice.specs.AdviceLines.{fails_line}
use Rattle.cg_explain.specs.ExplainLines.{holds_line}
use Rattle.cg_explain.specs.FirstRow.{is_told_of}
use Rattle.cg_explain.specs.PairExplained.{limits_lines}
use Rattle.machine_everybody.specs.Everybody.{Everybody, lets_anybody_in}
use Rattle.cg_everybody.specs.Everybody.{classes_in, subtree_line}

-- A line for each class that it lets in; else one, where the tree tells of it, that it lets nobody in.
abbrev pub entry_explained : State → Everybody → Names → GuardedEntry → List ℕ
entry_explained st asked subtree at =
    cond (lets_anybody_in asked at.entry) (flat_map (fails_line subtree at) (classes_in asked at.entry))
    (cond (is_told_of st subtree at.name) (holds_line subtree at) [])

-- where it is there
abbrev pub guarded_explained : State → Everybody → Names → Guarded → List ℕ
guarded_explained st asked subtree guarded = present (standing st subtree guarded) (entry_explained st asked subtree)

abbrev pub subtree_explained : State → Everybody → Names → List ℕ
subtree_explained st asked subtree =
    subtree_line subtree ++ flat_map (guarded_explained st asked subtree) (guarded_entries subtree) ++ limits_lines st subtree

abbrev pub everybody_explained : State → Everybody → List Names → List ℕ
everybody_explained st asked subtrees = flat_map (subtree_explained st asked) subtrees
