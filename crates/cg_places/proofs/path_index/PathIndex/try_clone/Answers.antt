use Rattle.std.proofs.Common.{ap, ◌∙◌}
use Rattle.std.specs.FinMap as map
use Rattle.cg_places.proofs.TextKeys.{numbers_copied, texts_copied}
use Rattle.cg_places.proofs.path_index.PathIndex.try_clone.Goals as goal

pub invariant_of-result : goal.invariant_of-result
invariant_of-result c =
    texts_copied c.self.inside.numbers.entries c.in_ok-clone.field-0.entries c.in_ok-clone.ensures.cases c.self.invariant

pub returns : goal.returns
returns c =
    ap map.from_entries (numbers_copied c.self.inside.numbers.entries c.in_ok-clone.field-0.entries c.in_ok-clone.ensures.cases)
    ∙ c.self.view_is
