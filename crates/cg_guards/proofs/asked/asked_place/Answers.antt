use Rattle.std.proofs.Common.{◌+◌, ap, ◌∙◌, arith}
use Rattle.std.specs.Prelude.{slice_get}
use Rattle.cg_model.specs.Guards.{guarded_entries}
use Rattle.cg_guards.proofs.TableWalk.{few_names}
use Rattle.cg_guards.proofs.AskedTable.{few_passed, few_asked, early_turn, late_turn}
use Rattle.cg_guards.proofs.asked.asked_place.Goals as goal

pub overflow_add-depth : goal.overflow_add-depth
overflow_add-depth c = omega (arith, few_names c.args.subtree.now c.depth.ensures.path, c.depth.ensures.depth)

pub overflow_add-result : goal.overflow_add-result
overflow_add-result c =
    let asked = few_asked c.args.subtree.now c.args.passes in
    omega (arith, few_names c.args.subtree.now c.depth.ensures.path, c.requires, asked, c.passed_count.ensures, few_passed c.args.passes)

pub returns-then-turn-depth : goal.returns-then-turn-depth
returns-then-turn-depth c =
    early_turn c.args.subtree.now c.args.passes c.args.turn (omega (arith, c.depth.ensures.depth, c.if-turn-depth.true))

pub returns : goal.returns
returns c =
    ap (λ n. slice_get (guarded_entries c.args.subtree.now) (c.args.turn + n)) c.passed_count.ensures
    ∙ late_turn c.args.subtree.now c.args.passes c.args.turn (omega (arith, c.depth.ensures.depth, c.if-turn-depth.false))
