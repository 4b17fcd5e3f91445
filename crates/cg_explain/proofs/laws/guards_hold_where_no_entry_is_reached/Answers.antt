use Rattle.std.proofs.Common.{sym, ◌∙◌}
use Rattle.cg_explain.proofs.Holding.{where_held, held_where}
use Rattle.cg_explain.proofs.Within.{within-is}
use Rattle.cg_explain.proofs.laws.guards_hold_where_no_entry_is_reached.Goals as goal

pub returns : goal.returns
returns c =
    λ st user subtree row there.
    let same = within-is st subtree row there in (
      λ hold. let parts = where_held st user subtree hold in (parts.0, sym same ∙ parts.1),
      λ all. held_where st user subtree (all.0, same ∙ all.1),
    )
