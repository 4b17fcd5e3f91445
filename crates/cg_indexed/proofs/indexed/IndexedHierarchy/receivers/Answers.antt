use Rattle.std.proofs.Common.{◌≡◌, ap, sym, filter, ◌∙◌, Ok, Err}
use Rattle.std.specs.Prelude.{IfOk}
use Rattle.std.specs.FinMap as map
use Rattle.cg_model.specs.Receiving.{receives, receivers}
use Rattle.cg_counts.specs.Kept.{tree_of}
use Rattle.cg_places.proofs.Values.{keys-mapped}
use Rattle.cg_indexed.proofs.indexed.IndexedHierarchy.receivers.Goals as goal

pub returns : goal.returns
returns c =
    let taken = receives (tree_of c.self.inside.cgroups) c.args.user.now in
    elim c.receivers.result as
    (λ r. IfOk r (λ paths. paths.items ≡ filter taken (map.keys c.self.inside.cgroups))
    → IfOk r (λ paths. paths.items ≡ receivers c.args.self.now c.args.user.now)) [
      | Ok paths ↦ λ same. same ∙ ap (filter taken) (sym (keys-mapped (λ h. h.cgroup) c.self.inside.cgroups))
          ∙ ap (λ st. receivers st c.args.user.now) c.self.view_is
      | Err error ↦ λ none. tt
    ] c.receivers.ensures
