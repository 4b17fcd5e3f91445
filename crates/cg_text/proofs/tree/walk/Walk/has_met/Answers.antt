use Rattle.std.proofs.Common.{Bool, false, Option, None, Some, ap, sym, ◌∙◌}
use Rattle.std.specs.Option.{option_copied}
use Rattle.cg_cgroup.specs.Paths.{Names, same_path}
use Rattle.cg_cgroup.specs.declared.cgroup.Cgroup.{Cgroup}
use Rattle.cg_text.specs.Walk.{has_met, last_of}
use Rattle.cg_text.proofs.WalkFronts.{met_by_last}
use Rattle.cg_text.proofs.tree.walk.Walk.has_met.Goals as goal

abbrev of_last : Names → Option (Names × Cgroup) → Bool
of_last path last = elim last [ None ↦ false | Some last ↦ same_path last.0 path ]

pub returns-in-None : goal.returns-in-None
returns-in-None c met row are order is =
    let none = sym (ap last_of c.deref.ensures.value) ∙ sym c.last.ensures.value ∙ ap option_copied c.in-None.is in
    sym (ap (of_last row.path) none) ∙ met_by_last c.args.self.now.entries.items met row are order ∙ ap (has_met met) is

pub returns-in-Some : goal.returns-in-Some
returns-in-Some c met row are order is =
    let some = sym (ap last_of c.deref.ensures.value) ∙ sym c.last.ensures.value ∙ ap option_copied c.in-Some.is in
    c.eq.ensures ∙ ap (same_path c.in-Some.field-0.now.0) (sym is) ∙ sym (ap (of_last row.path) some)
    ∙ met_by_last c.args.self.now.entries.items met row are order ∙ ap (has_met met) is
