-- The line of a verdict. Own.
use Rattle.std.specs.Prelude.{ℕ, List, ◌++◌, codes}
use Rattle.std.specs.Fmt.{decimal}
use Rattle.cg_lines.specs.Outcomes.{spaced}
use Rattle.cg_model.specs.declared.verdict.Clause.{Clause}
use Rattle.cg_model.specs.declared.verdict.Clause.TheVariants.{Gone, Crossed, Limits, Descendants, Depth}
use Rattle.cg_model.specs.declared.verdict.Verdict.{Verdict}
use Rattle.cg_model.specs.declared.verdict.Verdict.TheVariants.{Kept, Broken}

abbrev pub clause_text : Clause → List ℕ
clause_text Gone = codes "gone"
clause_text (Crossed pid) = codes "crossed " ++ decimal pid
clause_text Limits = codes "limits"
clause_text Descendants = codes "descendants"
clause_text Depth = codes "depth"

-- kept, or after how many steps what was broken
abbrev pub verdict_text : Verdict → List ℕ
verdict_text Kept = codes "kept\n"
verdict_text (Broken steps clause) = codes "broken " ++ spaced (decimal steps) (clause_text clause) ++ codes "\n"
