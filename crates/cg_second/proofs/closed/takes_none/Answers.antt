use Rattle.std.proofs.Common.{ap, sym, ◌∙◌, ◌≡◌, take, take_all, get_or, [], false, arith}
use Rattle.cg_cgroup.specs.Files.{enables}
use Rattle.cg_cgroup.specs.Paths.{is_root}
use Rattle.cg_cgroup.specs.declared.files.Controller.TheVariants.{Memory}
use Rattle.cg_cgroup.specs.declared.files.EntryName.TheVariants.{Procs, SubtreeControl}
use Rattle.cg_model.specs.WellFormed.{enabled_at}
use Rattle.cg_second.specs.Lasting.{is_reached}
use Rattle.cg_model.proofs.Prefixes.{no_root_of_length}
use Rattle.cg_second.proofs.Staying.{takes-is, same_default}
use Rattle.cg_second.proofs.closed.takes_none.Goals as goal

pub returns-else-not-is_reached-2 : goal.returns-else-not-is_reached-2
returns-else-not-is_reached-2 g c =
    let s = c.args.survey.now in
    let st = g.H.Hierarchy.state s.tree.now in
    let users = s.users.now in
    let path = c.index-path.result.now in
    let q = get_or s.paths.items c.args.at [] in
    let named : path ≡ q = c.index-path.ensures ∙ same_default s.paths.items c.args.at path [] c.requires.within in
    let deep = c.depth-len.ensures.depth in
    let whole : take c.depth-len.result path ≡ q = take_all c.depth-len.result path (omega (arith, deep)) ∙ named in
    let not_root : is_root q ≡ false =
    ap is_root (sym named) ∙ no_root_of_length path (let some = c.if-len-eq0.false in omega (arith, deep, some)) in
    takes-is st users c.requires.survey.formed q c.fixed_below.result
    (ap (λ p. is_reached st users p Procs) (sym whole) ∙ sym c.is_reached.ensures ∙ c.if-not-is_reached.false)
    not_root
    (ap (λ p. enables (enabled_at st p) Memory) (sym whole) ∙ sym c.is_enabled.ensures ∙ c.if-not-is_enabled.false)
    (ap (λ p. is_reached st users p SubtreeControl) (sym whole) ∙ sym c.is_reached-2.ensures ∙ c.if-not-is_reached-2.false)
    c.fixed_below.ensures
