use Rattle.std.proofs.Common.{ap, sym, ◌∙◌, map}
use Rattle.std.proofs.lemmas.Bool.{eqb-true}
use Rattle.std.proofs.lemmas.Result.{IfOk-weaker}
use Rattle.cg_advice.specs.AdviceLines.{advice_lines}
use Rattle.cg_advice.specs.Ways.{pair_of}
use Rattle.cg_cli.proofs.AdviseReports.{none_left, pairs_there}
use Rattle.cg_cli.proofs.advise.advice.Goals as goal

pub advice_lines-requires : goal.advice_lines-requires
advice_lines-requires g c =
    pairs_there (g.H.Hierarchy.state c.args.tree.now) c.args.subtrees.now c.requires c.args.users.now c.as_slice.result.now
    (ap (map pair_of) c.as_slice.ensures.value ∙ c.in_ok-pairs.ensures)

pub returns-then-is_empty : goal.returns-then-is_empty
returns-then-is_empty g c =
    none_left (g.H.Hierarchy.state c.args.tree.now) c.args.subtrees.now c.args.users.now c.from_first_unguarded-left.result.now
    c.from_first_unguarded-left.ensures (eqb-true _ 0 (sym c.if-is_empty.ensures))

pub returns : goal.returns
returns g c =
    IfOk-weaker c.advice_lines.result _ _
    (λ found lines. lines ∙ ap (advice_lines (g.H.Hierarchy.state c.args.tree.now))
    (ap (map pair_of) c.as_slice.ensures.value ∙ c.in_ok-pairs.ensures))
    c.advice_lines.ensures.lines
