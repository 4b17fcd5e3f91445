-- Runs, and what they break of a subtree.
use Rattle.std.specs.Prelude.{ℕ, suc, List, [], ◌∷◌, ◌++◌, map}
use Rattle.cg_cgroup.specs.Paths.{Names}
use Rattle.cg_model.specs.States.{State}
use Rattle.cg_model.specs.WellFormed.{has_row}
use Rattle.cg_model.specs.Clauses.{unless}
use Rattle.cg_model.specs.Steps.{after, Deed}
use Rattle.cg_model.specs.Limits.{Limits as LimitMap, limits, same_limits, fits_descendants, fits_depth}
use Rattle.cg_model.specs.Edge.{crossing}
use Rattle.cg_model.specs.declared.verdict.Clause.{Clause}
use Rattle.cg_model.specs.declared.verdict.Clause.TheVariants.{Gone, Crossed, Limits, Descendants, Depth}
use Rattle.cg_model.specs.declared.verdict.Verdict.{Verdict}
use Rattle.cg_model.specs.declared.verdict.Verdict.TheVariants.{Kept, Broken}

-- What is broken of a subtree where a step leads from a state to a new one, in a run that began with these limits.
abbrev pub broken_since : LimitMap → State → State → Names → List Clause
broken_since had st new subtree =
    unless (has_row new subtree) Gone
    ++ map Crossed (crossing st new subtree)
    ++ unless (same_limits had (limits new subtree)) Limits
    ++ unless (fits_descendants new subtree) Descendants
    ++ unless (fits_depth new subtree) Depth

-- the same in a run from a start
abbrev pub broken : State → State → State → Names → List Clause
broken start st new subtree = broken_since (limits start subtree) st new subtree

-- broken after so many steps where a clause is, by the first one, and else what comes later
abbrev pub or_later : List Clause → ℕ → Verdict → Verdict
or_later [] steps later = later
or_later (clause ∷ clauses) steps later = Broken steps clause

-- the verdict on a run from a start that has come to a state after so many steps, none of which broke anything
abbrev pub verdict_from : State → ℕ → State → List Deed → Names → Verdict
verdict_from start steps st [] subtree = Kept
verdict_from start steps st (deed ∷ deeds) subtree =
    or_later (broken start st (after st deed.0 deed.1) subtree) (suc steps)
    (verdict_from start (suc steps) (after st deed.0 deed.1) deeds subtree)

-- The first clause that is broken, and after how many steps; 0 for the start itself.
abbrev pub verdict : State → List Deed → Names → Verdict
verdict st deeds subtree = or_later (broken st st st subtree) 0 (verdict_from st 0 st deeds subtree)
