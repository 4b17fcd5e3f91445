-- From the start on there is no newline.
use Rattle.std.proofs.Common.{◌≡◌, ◌≤◌, ◌<◌, ℕ, get_or, length, false}
use Rattle.text_places.specs.Positions.{is_newline}
use Rattle.text_places.proofs.position.last_line.Given as goal

abbrev pub decreases-back : goal.decreases-back
decreases-back l = l.start

abbrev pub invariant-back : goal.invariant-back
invariant-back l = (l.start ≤ length l.text) × ((k : ℕ) → l.start ≤ k → k < length l.text → is_newline (get_or l.text k 0) ≡ false)
