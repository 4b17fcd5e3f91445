use Rattle.std.proofs.Common.{ℕ, Option, ◌≡◌, sym, ap, ◌∙◌, subst}
use Rattle.std.specs.Prelude.{OnOk}
use Rattle.cg_cgroup.specs.Cgroups.{with_mode_of}
use Rattle.cg_cgroup.specs.declared.told.FileText.{FileText}
use Rattle.cg_model.specs.States.{telling_of, told_text}
use Rattle.cg_model.specs.WellFormed.{IsWellFormed}
use Rattle.cg_ops.proofs.Tellings.{mode_told, mode_formed}
use Rattle.cg_ops.proofs.other_limits.set_mode.Goals as goal

pub tell-requires : goal.tell-requires
tell-requires g c =
    let st = g.H.Hierarchy.state c.args.tree.now in
    let entry = with_mode_of c.get.result c.in-Some.entry in
    subst (λ value. IsWellFormed (telling_of st c.args.at.now c.args.file (record { entry = entry; value = value })))
    (sym c.in_ok-value.ensures)
    (mode_formed st c.args.at.now c.args.file c.in-Some.entry c.in-Some.ensures.entry c.get.result c.get.ensures.range
    c.in-Some.ensures.formed)

pub returns-clause-ok : goal.returns-clause-ok
returns-clause-ok g c =
    let st = g.H.Hierarchy.state c.args.tree.now in
    let at = c.args.at.now in
    let entry = c.in-Some.entry in
    let after = λ (mode : ℕ) (value : Option FileText).
    telling_of st at c.args.file (record { entry = with_mode_of mode entry; value = value }) in
    subst (λ after. OnOk c.tell.result (g.H.Hierarchy.state c.tell.new.self ≡ after))
    (ap (after c.get.result) c.in_ok-value.ensures
    ∙ (ap (λ mode. after mode (told_text st at c.args.file)) c.get.ensures.value
    ∙ sym (mode_told st at c.args.file entry c.in-Some.ensures.entry c.args.mode)))
    c.tell.ensures.ok
