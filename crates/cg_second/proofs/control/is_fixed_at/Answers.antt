use Rattle.std.proofs.Common.{sym, ap, ◌∙◌, ◌&&◌, [], get_or, refl, not}
use Rattle.cg_cgroup.specs.Files.{enables}
use Rattle.cg_cgroup.specs.declared.files.EntryName.TheVariants.{SubtreeControl}
use Rattle.cg_model.specs.WellFormed.{enabled_at}
use Rattle.cg_second.specs.Lasting.{is_reached}
use Rattle.cg_second.proofs.Staying.{read-fixed, same_default}
use Rattle.cg_second.proofs.control.is_fixed_at.Goals as goal

pub returns-then-stays_at : goal.returns-then-stays_at
returns-then-stays_at g c =
    let s = c.args.survey.now in
    ap (λ b. b && c.goes_on_enabling.result) (sym c.if-stays_at.true)
    ∙ read-fixed (g.H.Hierarchy.state s.tree.now) s.users.now s.paths.items s.ends.items s.kept.items s.fixed.items c.requires.survey
    c.args.at c.requires.within c.args.controller c.stays_at.result c.goes_on_enabling.result c.index.result.now c.index.ensures
    c.stays_at.ensures c.goes_on_enabling.ensures

pub returns-else-stays_at : goal.returns-else-stays_at
returns-else-stays_at g c =
    let s = c.args.survey.now in
    let st = g.H.Hierarchy.state s.tree.now in
    let path = get_or s.paths.items c.args.at [] in
    let goes_on = enables (enabled_at st path) c.args.controller && not (is_reached st s.users.now path SubtreeControl) in
    c.if-stays_at.false ∙ ap (λ b. b && goes_on) (sym c.if-stays_at.false)
    ∙ read-fixed st s.users.now s.paths.items s.ends.items s.kept.items s.fixed.items c.requires.survey
    c.args.at c.requires.within c.args.controller c.stays_at.result goes_on path
    (same_default s.paths.items c.args.at [] path c.requires.within) c.stays_at.ensures refl
