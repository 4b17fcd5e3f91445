use Rattle.std.proofs.Common.{◌∙◌, ◌∷◌, [], ◌++◌, List, ℕ, ap, sym}
use Rattle.std.specs.Prelude.{codes}
use Rattle.cg_cgroup.specs.Paths.{path_text}
use Rattle.cg_lines.proofs.LineSpelled.{written_changes}
use Rattle.cg_lines.proofs.lines.write.control_line.Goals as goal

pub returns-clause-text : goal.returns-clause-text
returns-clause-text c =
    c.in_ok-push_str.ensures.bytes
    ∙ rw (c.in_ok-push_changes.ensures, c.in_ok-line.ensures.ok, c.whole-at.ensures.text, c.as_slice.ensures)
    (ap (λ (text : List ℕ). codes "control " ++ (text ++ (10 ∷ []))) (sym (written_changes (path_text c.args.at.now) c.args.changes.now)))
