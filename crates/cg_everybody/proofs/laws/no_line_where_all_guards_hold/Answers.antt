use Rattle.std.proofs.lemmas.List.Elements.{All-from_recursion, recursion_from_All}
use Rattle.cg_everybody.specs.Everybody.{GuardsHoldForEverybody}
use Rattle.cg_everybody.proofs.Held.{each_holds, none_of_each}
use Rattle.cg_everybody.proofs.laws.no_line_where_all_guards_hold.Goals as goal

pub returns : goal.returns
returns c = λ st asked subtrees. (
  λ none. All-from_recursion (GuardsHoldForEverybody st asked) subtrees (each_holds st asked subtrees none),
  λ all. none_of_each st asked subtrees (recursion_from_All (GuardsHoldForEverybody st asked) subtrees all),
)
