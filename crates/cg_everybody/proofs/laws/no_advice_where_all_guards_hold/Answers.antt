use Rattle.std.proofs.lemmas.List.Elements.{All-from_recursion, recursion_from_All}
use Rattle.cg_everybody.specs.Everybody.{GuardsHoldForEverybody}
use Rattle.cg_everybody.proofs.AdviceLaws.{holds-each, none-advised}
use Rattle.cg_everybody.proofs.laws.no_advice_where_all_guards_hold.Goals as goal

pub returns : goal.returns
returns c = λ st asked subtrees. (
  λ none. All-from_recursion (GuardsHoldForEverybody st asked) subtrees (holds-each st asked subtrees none),
  λ all. none-advised st asked subtrees (recursion_from_All (GuardsHoldForEverybody st asked) subtrees all),
)
