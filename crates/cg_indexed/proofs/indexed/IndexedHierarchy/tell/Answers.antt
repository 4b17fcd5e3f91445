use Rattle.std.proofs.Common.{◌≡◌, ap, sym, ◌∙◌, subst, Ok, Err}
use Rattle.std.proofs.lemmas.Result.{on_ok_weaker}
use Rattle.std.specs.Prelude.{OnOk, OnErr}
use Rattle.cg_model.specs.States.{telling_of}
use Rattle.cg_model.specs.WellFormed.{IsWellFormed}
use Rattle.cg_indexed.specs.Indexed.{state_of, IsIndexed}
use Rattle.cg_indexed.proofs.indexed.IndexedHierarchy.tell.Goals as goal

pub returns-clause-ok : goal.returns-clause-ok
returns-clause-ok c =
    on_ok_weaker c.tell.result (λ new.
    ap (λ told. state_of c.self.inside.cgroups c.self.inside.processes told c.self.inside.controllers) new
    ∙ ap (λ s. telling_of s c.args.path.now c.args.file c.args.told) c.self.view_is) c.tell.ensures.ok

pub invariant_of-self : goal.invariant_of-self
invariant_of-self c =
    let new = state_of c.self.inside.cgroups c.self.inside.processes c.tell.new.self c.self.inside.controllers in
    elim c.tell.result as (λ r. OnOk r (new ≡ telling_of c.args.self.now c.args.path.now c.args.file c.args.told)
    → OnErr r (c.tell.new.self ≡ c.self.inside.told)
    → IsIndexed c.self.inside.cgroups c.self.inside.processes c.tell.new.self c.self.inside.controllers) [
      | Ok x ↦ λ ok err. record { formed = subst IsWellFormed (sym ok) c.requires; live = c.self.invariant.live }
      | Err f ↦ λ ok err.
          subst (λ told. IsIndexed c.self.inside.cgroups c.self.inside.processes told c.self.inside.controllers) (sym err)
          c.self.invariant
    ] (returns-clause-ok c) c.tell.ensures.err
