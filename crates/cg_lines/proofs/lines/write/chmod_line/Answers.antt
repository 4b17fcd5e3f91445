use Rattle.std.proofs.Common.{◌∙◌, ◌++◌, List, ℕ, ap}
use Rattle.std.specs.Prelude.{codes}
use Rattle.cg_cgroup.specs.Paths.{path_text}
use Rattle.cg_cgroup.specs.Files.{entry_text}
use Rattle.cg_lines.proofs.LineSpelled.{written_mode}
use Rattle.cg_lines.proofs.lines.write.chmod_line.Goals as goal

pub returns-clause-text : goal.returns-clause-text
returns-clause-text c =
    c.in_ok-format.ensures.ok
    ∙ rw (c.whole-at.ensures.text, c.name-entry.ensures, ← c.get-bits.ensures.value)
    (ap (λ (text : List ℕ). codes "chmod " ++ text)
    (written_mode (path_text c.args.at.now) (entry_text c.args.entry) c.get-bits.result c.get-bits.ensures.range))
