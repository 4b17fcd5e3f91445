-- How an answer is found: nobody has to believe it.
-- The answer for a user and a subtree, and for several of both.
use Rattle.cg_model.specs.declared.guard.Guard.{Guard}
use Rattle.cg_model.specs.declared.guard.Guard.TheVariants.{CommonAncestor, LimitFile, ParentControl, ParentDir, AlreadyOver}

-- The guards that an unsettled answer may name.
abbrev pub MayBeUnsettled : Guard → Type 0
MayBeUnsettled CommonAncestor = Unit {0}
MayBeUnsettled (LimitFile file) = ⊥
MayBeUnsettled ParentControl = Unit {0}
MayBeUnsettled ParentDir = Unit {0}
MayBeUnsettled AlreadyOver = ⊥
