use Rattle.std.proofs.Common.{◌∙◌, ◌++◌, ap, sym, take, append_assoc}
use Rattle.std.specs.List.{flat_map}
use Rattle.cg_advice.specs.Found.{stand_let}
use Rattle.cg_advice.specs.declared.pair.Stand.{Stand}
use Rattle.cg_advice.proofs.Gathering.{flat_more}
use Rattle.cg_everybody.specs.Advice.{let_lines}
use Rattle.cg_everybody.proofs.Walked.{taken_more}
use Rattle.cg_everybody.proofs.advice.push_stands.Goals as goal

pub loop-stand-preserved : goal.loop-stand-preserved
loop-stand-preserved c =
    let lines = λ (stand : Stand). let_lines (stand_let stand) in
    let begun = c.args.text.now.items in
    let front = take c.loop-stand.stand-index c.args.stands.now in
    let stand = c.stand-item.result in
    c.in_ok-push_lines.ensures ∙ ap (λ text. text ++ lines stand) c.loop-stand.invariant
    ∙ append_assoc begun (flat_map lines front) (lines stand)
    ∙ ap (λ l. begun ++ l) (sym (flat_more lines front stand))
    ∙ ap (λ l. begun ++ flat_map lines l)
    (sym (taken_more c.args.stands.now c.loop-stand.stand-index stand c.loop-stand-test.true c.stand-item.is))
