use Rattle.std.proofs.Common.{◌≡◌, ◌≤◌, ℕ, false}
use Rattle.cg_model.specs.NearestFull.{is_full}
use Rattle.cg_rows.proofs.rows.RowsHierarchy.nearest_full.Given as goal

-- none of those that were asked is full
abbrev pub invariant-loop-at : goal.invariant-loop-at
invariant-loop-at l = (k : ℕ) → l.at ≤ k → k ≤ l.len → is_full l.self l.path l.len k ≡ false
