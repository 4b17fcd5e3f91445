use Rattle.std.proofs.Common.{◌∙◌, List, ℕ, map, ap, sym, Ok}
use Rattle.std.specs.Borrow.{Bor}
use Rattle.commands.specs.Requests.{whom, wanted_of, EverybodyOn}
use Rattle.commands.specs.SubtreeLines.{subtrees_read}
use Rattle.commands.proofs.LineLaws.{fault_said, call_answered}
use Rattle.commands.proofs.on_subtrees.answered.Goals as goal

pub returns-in-Err : goal.returns-in-Err
returns-in-Err g c =
    fault_said subtrees_read (EverybodyOn c.args.format (wanted_of c.args.wanted) (whom c.args.everyone.now))
    c.args.tree.now c.args.text.now
    c.in-Err.fault c.in-Err.ensures.read c.in-Err.ensures.subtrees
    (g.W.Write.contents c.args.out.now)

pub returns-in-Ok : goal.returns-in-Ok
returns-in-Ok g c =
    call_answered subtrees_read (EverybodyOn c.args.format (wanted_of c.args.wanted) (whom c.args.everyone.now))
    c.args.tree.now c.args.text.now
    (map (λ subtree. subtree.now) c.as_slice.result.now)
    (g.W.Write.contents c.args.out.now) (g.W.Write.contents c.against_everybody.new.out) c.against_everybody.result
    (c.in-Ok.ensures.subtrees
    ∙ ap Ok (sym (ap (map (λ (subtree : Bor (List ℕ)). subtree.now)) c.as_slice.ensures.value)))
    c.against_everybody.ensures
