use Rattle.std.proofs.Common.{◌≡◌, ap, sym, ◌∙◌, Ok, Err}
use Rattle.std.specs.Prelude.{IfOk}
use Rattle.std.specs.FinMap as map
use Rattle.cg_counts.specs.Kept.{held_of}
use Rattle.cg_places.proofs.Values.{keys-values}
use Rattle.cg_counts.proofs.cgroups.Cgroups.paths.Goals as goal

pub returns : goal.returns
returns c =
    elim c.paths.result as
    (λ r. IfOk r (λ list. list.items ≡ map.keys c.self.inside.places) → IfOk r (λ list. list.items ≡ map.keys c.args.self.now)) [
      | Ok list ↦ λ same. same ∙ sym (keys-values held_of c.self.inside.places c.self.inside.nodes) ∙ ap map.keys c.self.view_is
      | Err error ↦ λ none. tt
    ] c.paths.ensures
