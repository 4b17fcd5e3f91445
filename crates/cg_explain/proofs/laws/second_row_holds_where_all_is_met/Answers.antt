use Rattle.std.proofs.Common.{sym, ap, ◌∙◌, ◌&&◌}
use Rattle.std.specs.List.{list_all}
use Rattle.cg_explain.specs.SecondRow.{second_row_asked, is_met}
use Rattle.cg_explain.proofs.Meeting.{met-is}
use Rattle.cg_explain.proofs.Within.{within-is}
use Rattle.cg_explain.proofs.laws.second_row_holds_where_all_is_met.Goals as goal

pub returns : goal.returns
returns c =
    λ st users subtree row formed is there.
    ap (λ b. list_all is_met (second_row_asked st users subtree) && b) (sym (within-is st subtree row there))
    ∙ met-is st users subtree formed is.1
