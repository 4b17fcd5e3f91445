use Rattle.std.proofs.Common.{refl}
use Rattle.commands.proofs.SubtreeLaws.{no_text, no_path, path_read}
use Rattle.commands.proofs.subtrees.subtree_at.Goals.{in-Ok-parse, in-Err-BadPath, in-Err-NoMemory}
use Rattle.commands.proofs.subtrees.subtree_at.Goals as goal

pub returns-in_default-clause-subtree : goal.returns-in_default-clause-subtree
returns-in_default-clause-subtree c = λ _. (no_text c.args.line.now c.in_default.ensures.cases.0, refl)

pub returns-clause-subtree : goal.returns-clause-subtree
returns-clause-subtree c =
    elim c.match-parse.branch [
      | in-Ok-parse w ↦ rw w.result-is
          (path_read c.args.line.now c.in-Ok.subtree.now _ c.in-Ok.ensures.cases.0 c.in-Ok.ensures.cases.1 w.in-Ok-parse.ensures.value)
      | in-Err-BadPath w ↦
          let none = w.in-Err-BadPath.ensures.value w.in-Err-BadPath.field-0-is in
          rw w.result-is (λ _. (no_path c.args.line.now c.in-Ok.subtree.now c.in-Ok.ensures.cases.0 none, refl))
      | in-Err-NoMemory w ↦ rw w.result-is (λ other. absurd (other refl))
    ]
