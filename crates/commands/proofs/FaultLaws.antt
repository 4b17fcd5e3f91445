-- What the program has written of a fault.
use Rattle.std.proofs.Common.{◌≡◌, inl, inr, ℕ, List}
use Rattle.std.specs.Prelude.{Option, Result, Ok, Err, IfErr, OnOk, OnErr}
use Rattle.std.specs.Io.KnownBytes.{Appends}
use Rattle.cg_faults.specs.FaultLines.{fault_line}
use Rattle.streams.specs.Written.{AppendsPart}
use Rattle.cg_faults.specs.declared.fault.CliFault.{CliFault}
use Rattle.cg_faults.specs.declared.fault.CliFault.TheVariants.{NoMemory as MemoryFault}
use Rattle.commands.specs.declared.fault.Fault.{Fault}
use Rattle.commands.specs.declared.fault.Fault.TheVariants.{Usage, Cli}
use Rattle.commands.specs.declared.fault.Untold.{Untold}
use Rattle.commands.specs.declared.fault.Untold.TheVariants.{Write, NoMemory}
use Rattle.commands.specs.Faults.{printed_line, WritesFront, LiesThere, Prints}

-- what a write that isn't looked at left
writes_front : {E : Type 0} (written : Result (Unit {0}) E) (text : List ℕ) (old new : Option (List ℕ))
    → OnOk written (Appends old new text) → OnErr written (AppendsPart old new text) → WritesFront text old new
writes_front (Ok done) text old new all part = inl all
writes_front (Err failed) text old new all part = inr part

no_usage : (fault : CliFault) → ¬ (Cli fault ≡ Usage)
no_usage fault is = let never : ⊥ = cc in never

-- where there was no memory for the line
pub prints_memory : {E : Type 0} (fault : CliFault) (written : Result (Unit {0}) E) (old new : Option (List ℕ))
    → OnOk written (Appends old new (fault_line MemoryFault)) → OnErr written (AppendsPart old new (fault_line MemoryFault))
    → Prints (Cli fault) old new (Err NoMemory)
prints_memory fault written old new all part = (no_usage fault, writes_front written (fault_line MemoryFault) old new all part)

-- and where there was
pub prints_told : (fault : Fault) (told : Result (Unit {0}) Untold) (old new : Option (List ℕ))
    → LiesThere (printed_line fault) old new told → IfErr told (λ why. why ≡ Write) → Prints fault old new told
prints_told fault (Ok done) old new says why = says
prints_told fault (Err Write) old new says why = says
prints_told fault (Err NoMemory) old new says why = let never : ⊥ = cc in absurd never
