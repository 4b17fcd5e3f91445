-- How an answer is found: nobody has to believe it.
-- What the checks answer: the first fault of the paths, and else the answer.
use Rattle.std.specs.Prelude.{◌≡◌, Bool, true, false, Result, Ok, Err}
use Rattle.cg_model.specs.declared.fault.CheckFault.{CheckFault}
use Rattle.cg_model.specs.declared.fault.CheckFault.TheVariants.{RootSubtree, NoSuchSubtree, NoMemory}
use Rattle.cg_model.specs.Answers.{answer}
use Rattle.cg_model.specs.declared.answer.Answer.{Answer}
use Rattle.cg_model.specs.declared.answer.Answer.TheVariants.{Contained, Escapes, Unsettled}
use Rattle.cg_model.specs.declared.answer.AllAnswer.{AllAnswer}
use Rattle.cg_model.specs.declared.answer.AllAnswer.TheVariants as all

-- Neither a fault of a path nor that all is contained takes memory to find.
abbrev pub takes_memory : Result Answer CheckFault → Bool
takes_memory (Ok Contained) = false
takes_memory (Ok (Escapes ops)) = true
takes_memory (Ok (Unsettled failed)) = true
takes_memory (Err fault) = false

abbrev pub all_take_memory : Result AllAnswer CheckFault → Bool
all_take_memory (Ok all.Contained) = false
all_take_memory (Ok (all.Pair user subtree answer)) = true
all_take_memory (Err fault) = false

-- A call answers what is stated, or that it is out of memory where that takes memory.
abbrev pub Gives : {A : Type 0} → (Result A CheckFault → Bool) → Result A CheckFault → Result A CheckFault → Type 0
Gives takes stated (Ok found) = stated ≡ Ok found
Gives takes stated (Err RootSubtree) = stated ≡ Err RootSubtree
Gives takes stated (Err NoSuchSubtree) = stated ≡ Err NoSuchSubtree
Gives takes stated (Err NoMemory) = takes stated ≡ true
