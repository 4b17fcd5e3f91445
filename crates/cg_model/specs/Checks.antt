-- What the checks answer: the first fault of the paths, and else the answer.
use Rattle.std.specs.Prelude.{not, List, ◌++◌, Option, Some, None, Result, Ok, Err}
use Rattle.std.specs.List.{flat_map}
use Rattle.cg_cgroup.specs.Paths.{Names, is_root}
use Rattle.cg_cgroup.specs.Identity.{Identity}
use Rattle.cg_model.specs.States.{State}
use Rattle.cg_model.specs.WellFormed.{has_row}
use Rattle.cg_model.specs.Clauses.{unless, first}
use Rattle.cg_model.specs.declared.fault.CheckFault.{CheckFault}
use Rattle.cg_model.specs.declared.fault.CheckFault.TheVariants.{RootSubtree, NoSuchSubtree}
use Rattle.cg_model.specs.Answers.{answer}
use Rattle.cg_model.specs.AllAnswers.{all_answers}
use Rattle.cg_model.specs.declared.answer.Answer.{Answer}
use Rattle.cg_model.specs.declared.answer.AllAnswer.{AllAnswer}

-- Own: the root isn't asked about, nor a cgroup that isn't there.
abbrev pub subtree_faults : State → Names → List CheckFault
subtree_faults st subtree = unless (not (is_root subtree)) RootSubtree ++ unless (has_row st subtree) NoSuchSubtree

-- a fault where there is one
abbrev pub unless_fault : {A : Type 0} → Option CheckFault → A → Result A CheckFault
unless_fault None found = Ok found
unless_fault (Some fault) found = Err fault

-- The first fault of the subtree, or the answer.
abbrev pub checked : State → Identity → Names → Result Answer CheckFault
checked st user subtree = unless_fault (first (subtree_faults st subtree)) (answer st user subtree)

-- The first fault of the subtrees, in the order of the list, or the answer for all pairs.
abbrev pub all_checked : State → List Identity → List Names → Result AllAnswer CheckFault
all_checked st users subtrees = unless_fault (first (flat_map (subtree_faults st) subtrees)) (all_answers st users subtrees)
