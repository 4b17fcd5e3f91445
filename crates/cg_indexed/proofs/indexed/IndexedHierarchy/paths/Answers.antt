use Rattle.std.proofs.Common.{◌≡◌, ap, sym, ◌∙◌, Ok, Err}
use Rattle.std.specs.Prelude.{IfOk}
use Rattle.std.specs.FinMap as map
use Rattle.cg_model.specs.States.{paths_of}
use Rattle.cg_places.proofs.Values.{keys-mapped}
use Rattle.cg_indexed.proofs.indexed.IndexedHierarchy.paths.Goals as goal

pub returns : goal.returns
returns c =
    elim c.paths.result as
    (λ r. IfOk r (λ list. list.items ≡ map.keys c.self.inside.cgroups) → IfOk r (λ list. list.items ≡ paths_of c.args.self.now)) [
      | Ok list ↦ λ same. same ∙ sym (keys-mapped (λ h. h.cgroup) c.self.inside.cgroups) ∙ ap paths_of c.self.view_is
      | Err error ↦ λ none. tt
    ] c.paths.ensures
