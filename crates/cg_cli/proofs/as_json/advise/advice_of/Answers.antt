use Rattle.std.proofs.Common.{ap, sym, ◌∙◌, map}
use Rattle.std.proofs.lemmas.Bool.{eqb-true}
use Rattle.std.proofs.lemmas.Result.{IfOk-weaker}
use Rattle.cg_advice.specs.Found.{advice_parts}
use Rattle.cg_advice.specs.Ways.{pair_of}
use Rattle.cg_cli.specs.Advising.{all_pairs}
use Rattle.cg_cli.proofs.AdviseReports.{none_left, pairs_there}
use Rattle.cg_cli.proofs.AsJson.{no_parts}
use Rattle.cg_cli.proofs.as_json.advise.advice_of.Goals as goal

pub advice-requires : goal.advice-requires
advice-requires g c =
    pairs_there (g.H.Hierarchy.state c.args.tree.now) c.args.subtrees.now c.requires c.args.users.now c.as_slice.result.now
    (ap (map pair_of) c.as_slice.ensures.value ∙ c.in_ok-pairs.ensures)

pub returns-then-is_empty : goal.returns-then-is_empty
returns-then-is_empty g c =
    no_parts (g.H.Hierarchy.state c.args.tree.now) (all_pairs c.args.users.now c.args.subtrees.now)
    (none_left (g.H.Hierarchy.state c.args.tree.now) c.args.subtrees.now c.args.users.now c.from_first_unguarded-left.result.now
    c.from_first_unguarded-left.ensures (eqb-true _ 0 (sym c.if-is_empty.ensures)))

pub returns : goal.returns
returns g c =
    IfOk-weaker c.advice.result _ _
    (λ found parts. parts ∙ ap (advice_parts (g.H.Hierarchy.state c.args.tree.now))
    (ap (map pair_of) c.as_slice.ensures.value ∙ c.in_ok-pairs.ensures))
    c.advice.ensures
