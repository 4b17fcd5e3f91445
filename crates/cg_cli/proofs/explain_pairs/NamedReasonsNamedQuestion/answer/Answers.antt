use Rattle.std.proofs.Common.{List, refl, ap, sym, ◌∙◌, map, subst}
use Rattle.std.proofs.lemmas.Result.{err_from_is_err_and}
use Rattle.cg_model.specs.Mends.{Pair}
use Rattle.cg_advice.specs.Ways.{pair_of}
use Rattle.cg_cli.specs.Advising.{paired}
use Rattle.cg_cli.specs.Explaining.{TellsPairsBy}
use Rattle.cg_cli.specs.Formats.{told_in}
use Rattle.cg_cli.proofs.NamedPairs.{paired_there}
use Rattle.cg_cli.proofs.EachPair.{some_kept}
use Rattle.cg_cli.proofs.Explaining.{pairs_said, none_told}
use Rattle.cg_cli.proofs.explain_pairs.NamedReasonsNamedQuestion.answer.Goals as goal

pub returns-in_err-pairs : goal.returns-in_err-pairs
returns-in_err-pairs g c =
    let p = err_from_is_err_and c.from_residual.result c.from_residual.ensures.1 in
    let st = g.H.Hierarchy.state c.args.tree.now in
    let known = g.W.Write.contents c.args.out.now in
    rw (p.1, p.2)
    (pairs_said (told_in c.args.self.now.format) st c.args.subtrees.now (paired c.args.users.now c.args.subtrees.now)
    c.in_default.ensures.fault known known _
    (none_told (told_in c.args.self.now.format) st (paired c.args.users.now c.args.subtrees.now) known))

pub write_pairs-requires : goal.write_pairs-requires
write_pairs-requires g c =
    let st = g.H.Hierarchy.state c.args.tree.now in
    let are = ap (map pair_of) c.as_slice.ensures.value ∙ c.in_ok-pairs.ensures in record {
      formed = λ some. c.in_default.ensures.formed refl (some_kept c.args.users.now c.args.subtrees.now c.as_slice.result.now are some);
      there = paired_there st c.args.users.now c.args.subtrees.now (sym c.in_default.ensures.fault) c.as_slice.result.now are;
    }

pub returns : goal.returns
returns g c =
    let st = g.H.Hierarchy.state c.args.tree.now in
    let old = g.W.Write.contents c.args.out.now in
    let new = g.W.Write.contents c.write_pairs.new.out in
    pairs_said (told_in c.args.self.now.format) st c.args.subtrees.now (paired c.args.users.now c.args.subtrees.now)
    c.in_default.ensures.fault old new c.write_pairs.result
    (subst (λ (l : List Pair). TellsPairsBy (told_in c.args.self.now.format) st l old new c.write_pairs.result)
    (ap (map pair_of) c.as_slice.ensures.value ∙ c.in_ok-pairs.ensures) c.write_pairs.ensures)
