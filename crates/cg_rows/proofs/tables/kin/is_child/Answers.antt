use Rattle.std.proofs.Common.{◌≤◌, length, take, sym, ◌∙◌, arith}
use Rattle.std.proofs.lemmas.List.{length-take-le}
use Rattle.cg_rows.proofs.Below.{inside_within}
use Rattle.cg_rows.proofs.tables.kin.is_child.Goals as goal

pub overflow_sub-result : goal.overflow_sub-result
overflow_sub-result c =
    let h : length (take c.args.len c.args.path.now) ≤ length c.args.other.now =
    inside_within _ _ (sym c.holds.ensures ∙ c.if-not-holds.false) in
    omega (arith, length-take-le c.args.len c.args.path.now c.requires)
