use Rattle.std.proofs.Common.{◌≡◌, Some, Err, false, ◌++◌, ◌∷◌, [], subst, sym, ap, ◌∙◌, take}
use Rattle.cg_cgroup.specs.Paths.{Name, Names, IsPath, is_path}
use Rattle.cg_cgroup.proofs.PathNames.{IsPath-take}
use Rattle.cg_model.specs.Tries.{probe}
use Rattle.cg_tries.proofs.ProbeNames.{short-is_path, short-not_path}
use Rattle.cg_tries.proofs.probe_tries.probe.Goals as goal

pub returns-in-Err-BadPath : goal.returns-in-Err-BadPath
returns-in-Err-BadPath c =
    let ancestor = take c.args.len c.args.subtree.now in
    let bad : is_path (probe ancestor c.args.number) ≡ false =
    ap (λ (name : Name). is_path (ancestor ++ name ∷ [])) (sym (c.deref.ensures ∙ c.in_ok-name.ensures.ok))
    ∙ c.in-Err-BadPath.ensures.bad (ap Err c.in-Err-BadPath.field-0-is) in
    sym (short-not_path ancestor c.args.number (IsPath-take c.args.subtree.now c.args.len c.requires.path) bad)

pub returns-in-Ok : goal.returns-in-Ok
returns-in-Ok c =
    let ancestor = take c.args.len c.args.subtree.now in
    let is : c.in-Ok.path ≡ probe ancestor c.args.number =
    c.in-Ok.ensures.ok ∙ ap (λ (name : Name). ancestor ++ name ∷ []) (c.deref.ensures ∙ c.in_ok-name.ensures.ok) in
    let P : Names → Type 0 = λ path. IsPath path in
    ap Some is ∙ sym (short-is_path ancestor c.args.number (subst P is c.in-Ok.ensures.path))
