use Rattle.std.proofs.Common.{[], take, sym, ◌∙◌, arith, ⊎_elim, inl, inr}
use Rattle.std.proofs.lemmas.List.{length-take-le, get_or-take}
use Rattle.cg_cgroup.proofs.PathSteps.{shared_within, order_ended, order_parted}
use Rattle.cg_cgroup.proofs.path.Path.cmp_prefixes.Goals as goal

pub returns-then-shared-own : goal.returns-then-shared-own
returns-then-shared-own c =
    let n = length-take-le c.args.own c.args.self.now c.requires.own in
    order_ended (take c.args.own c.args.self.now) c.args.other.now c.args.len _ _ _ c.shared_len-shared.ensures (sym n) c.requires.others
    (⊎_elim (λ h. inl h) (λ h. inr h.1) c.then-shared-own.either) c.cmp.ensures

pub name-requires : goal.name-requires
name-requires c =
    omega (
      arith,
      shared_within (take c.args.own c.args.self.now) c.args.other.now c.args.len c.requires.others,
      length-take-le c.args.own c.args.self.now c.requires.own,
    )

pub name-requires-2 : goal.name-requires-2
name-requires-2 c =
    omega (arith, shared_within (take c.args.own c.args.self.now) c.args.other.now c.args.len c.requires.others)

pub returns : goal.returns
returns c =
    let n = length-take-le c.args.own c.args.self.now c.requires.own in
    let within = shared_within (take c.args.own c.args.self.now) c.args.other.now c.args.len c.requires.others in
    let name = c.name.ensures ∙ sym (get_or-take c.args.own c.args.self.now c.shared_len-shared.result [] (omega arith)) in
    order_parted (take c.args.own c.args.self.now) c.args.other.now c.args.len _ _ _ _ c.shared_len-shared.ensures (omega arith)
    (omega arith) c.requires.others name c.name-2.ensures c.cmp-2.ensures
