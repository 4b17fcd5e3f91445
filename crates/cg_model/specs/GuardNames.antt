-- The names of the guards in reports. Own.
use Rattle.std.specs.Prelude.{ℕ, List, codes}
use Rattle.cg_model.specs.declared.guard.Guard.{Guard}
use Rattle.cg_model.specs.declared.guard.Guard.TheVariants.{CommonAncestor, LimitFile, ParentControl, ParentDir, AlreadyOver}

abbrev pub guard_name : Guard → List ℕ
guard_name CommonAncestor = codes "common-ancestor"
guard_name (LimitFile name) = codes "limit-file"
guard_name ParentControl = codes "parent-control"
guard_name ParentDir = codes "parent-dir"
guard_name AlreadyOver = codes "already-over"
