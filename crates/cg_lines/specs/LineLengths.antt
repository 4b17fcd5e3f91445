-- How it is read and written: nobody has to believe it.
-- How many changes an operation may have so that its line can't be too long. Own.
use Rattle.std.specs.Prelude.{◌≤◌, ℕ, length}
use Rattle.cg_cgroup.specs.declared.files.Vocabulary.{Vocabulary}
use Rattle.cg_cgroup.specs.declared.files.Vocabulary.TheVariants.{Format2, Format4}
use Rattle.cg_model.specs.declared.operation.Op.{Op}
use Rattle.cg_model.specs.declared.operation.Op.TheVariants.{Control}

-- The longest name of a controller has 6 bytes in formats 1 and 2, and 7 in format 4.
abbrev pub most_changes : Vocabulary → ℕ
most_changes Format2 = 511
most_changes Format4 = 454

-- So few changes that a line has at most 8192 bytes, whatever the path. Other operations have no changes.
abbrev pub HasFewChanges : Vocabulary → Op → Type 0
HasFewChanges vocabulary (Control at changes) = length changes ≤ most_changes vocabulary
HasFewChanges vocabulary op = Unit {0}
