-- What is known of a list that was replayed.
use Rattle.std.specs.Prelude.{◌≡◌, List, [], ◌∷◌, length}
use Rattle.cg_cgroup.specs.Paths.{Names}
use Rattle.cg_cgroup.specs.Files.{vocabulary_of}
use Rattle.cg_cgroup.specs.Identity.{Identity}
use Rattle.cg_model.specs.States.{State}
use Rattle.cg_model.specs.Bars.{bars}
use Rattle.cg_model.specs.Steps.{after}
use Rattle.cg_model.specs.Verdicts.{verdict}
use Rattle.cg_model.specs.Held.{by_user}
use Rattle.cg_model.specs.declared.operation.Op.{Op}
use Rattle.cg_model.specs.declared.verdict.Clause.{Clause}
use Rattle.cg_model.specs.declared.verdict.Verdict.TheVariants.{Broken}
use Rattle.cg_lines.specs.OperationLines.{HaveLines}

-- Nothing bars any of the operations, one after another.
abbrev pub AreAllowed : State → Identity → List Op → Type 0
AreAllowed st user [] = Unit {0}
AreAllowed st user (op ∷ ops) = (bars st user op ≡ []) × AreAllowed (after st user op) user ops

-- A list of a user that can be printed and replayed with the tree, and breaks a subtree by its last operation.
pub record Breaks (st : State) (user : Identity) (subtree : Names) (ops : List Op) : Type 0 where
  pub allowed : AreAllowed st user ops
  pub broken : (clause : Clause) × (verdict st (by_user user ops) subtree ≡ Broken (length ops) clause)
  pub lines : HaveLines (vocabulary_of st.controllers) ops
