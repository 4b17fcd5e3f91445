-- How a tree is kept: nobody has to believe it.
-- The limit files of some controllers, taken from another cgroup.
use Rattle.std.specs.Prelude.{◌≡◌, ℕ, ◌<◌, Bool, cond, length, get_or}
use Rattle.cg_cgroup.specs.Files.{brought_files, stands_under}
use Rattle.cg_cgroup.specs.Cgroups.{held_at}
use Rattle.cg_cgroup.specs.declared.brought.BroughtFiles.{BroughtFiles}
use Rattle.cg_cgroup.specs.declared.controllers.ControllerSet.{ControllerSet}
use Rattle.cg_cgroup.specs.declared.files.LimitFile.TheVariants.{CpuWeight}

-- whether one of these controllers brings the file of a place
abbrev pub brings : ControllerSet → ℕ → Bool
brings changed place = stands_under changed (get_or brought_files place CpuWeight)

-- the files of these controllers as they are elsewhere, and the others as they were
pub record Takes (changed : ControllerSet) (from old new : BroughtFiles) : Type 0 where
  pub each : (place : ℕ) → place < length brought_files
      → held_at new place ≡ cond (brings changed place) (held_at from place) (held_at old place)
