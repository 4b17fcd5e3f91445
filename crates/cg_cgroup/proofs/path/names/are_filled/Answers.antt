use Rattle.std.proofs.Common.{◌==◌, ◌&&◌, ◌+◌, drop, get_or, ap, sym, ◌∙◌}
use Rattle.std.specs.Prelude.{not}
use Rattle.std.proofs.lemmas.List.{at_drop_all}
use Rattle.cg_cgroup.proofs.Words.{filled_from, filled_more, filled_of}
use Rattle.cg_cgroup.proofs.path.names.are_filled.Goals as goal

pub loop-byte-preserved : goal.loop-byte-preserved
loop-byte-preserved c =
    let text = c.args.text.now in
    let at = c.loop-byte.byte-index in
    ap (λ may. (c.loop-byte.good && may) && filled_from (not (get_or text at 0 == 47)) (drop (at + 1) text)) c.may_follow-good.ensures
    ∙ filled_more c.loop-byte.good c.loop-byte.before at text c.loop-byte-test.true
    ∙ c.loop-byte.invariant

pub returns : goal.returns
returns c =
    sym (filled_of c.args.text.now ∙ sym c.loop-byte.invariant
    ∙ at_drop_all (λ rest. c.loop-byte.good && filled_from (not (c.loop-byte.before == 47)) rest) c.args.text.now c.loop-byte.byte-index
    c.loop-byte-test.false)
