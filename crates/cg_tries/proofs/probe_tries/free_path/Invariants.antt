use Rattle.std.proofs.Common.{◌≡◌, ℕ, ◌-◌, Bool, not, take, find}
use Rattle.cg_model.specs.WellFormed.{has_row}
use Rattle.cg_model.specs.Tries.{probe, numbers_from}
use Rattle.cg_tries.proofs.probe_tries.free_path.Given as goal

-- the first is among those that are still to come
abbrev pub invariant-loop-number : goal.invariant-loop-number
invariant-loop-number g l =
    let free : ℕ → Bool = λ number.
    not (has_row (g.H.Hierarchy.state l.asker.tree.now) (probe (take l.len l.asker.subtree.now) number)) in
    find free (numbers_from l.number (l.count - l.number)) ≡ find free (numbers_from 0 l.count)
