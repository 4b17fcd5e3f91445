use Rattle.std.proofs.Common.{◌∙◌, ap}
use Rattle.cg_help.specs.Modes.{spelled_mode}
use Rattle.commands.specs.Requests.{whom, wanted_of, EverybodyOn}
use Rattle.commands.specs.SubtreeLines.{subtrees_read}
use Rattle.commands.proofs.LineLaws.{both_answered}
use Rattle.commands.proofs.RequestLaws.{plain_on}
use Rattle.commands.proofs.on_subtrees.on_subtrees.Goals as goal

pub returns-clause-noted : goal.returns-clause-noted
returns-clause-noted g c =
    plain_on _ c.in_ok-texts.texts.tree.items _ c.in_ok-texts.ensures.tree
    (c.in_ok-noted.ensures.mode ∙ ap spelled_mode c.as_slice.ensures.value) c.in_ok-noted.ensures.stranger c.in_ok-noted.ensures.missing _

pub returns-clause-answer : goal.returns-clause-answer
returns-clause-answer g c =
    both_answered subtrees_read (EverybodyOn c.args.asked.now.format (wanted_of c.args.asked.now.wanted) (whom c.args.asked.now.everyone))
    c.in_ok-texts.texts.tree.items c.in_ok-texts.texts.other.items _ _ _ _ (g.W.Write.contents c.args.out.now)
    (g.W.Write.contents c.answered.new.out) c.answered.result
    c.in_ok-texts.ensures.tree c.in_ok-texts.ensures.other c.as_slice-2.ensures.value c.as_slice-3.ensures.value c.answered.ensures
