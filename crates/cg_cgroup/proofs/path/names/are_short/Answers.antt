use Rattle.std.proofs.Common.{◌∙◌, ap, sym, arith}
use Rattle.std.proofs.lemmas.List.{take_rest}
use Rattle.cg_cgroup.proofs.Words.{short_from, short_of, short_whole, short_read, short_none}
use Rattle.cg_cgroup.proofs.path.names.are_short.Goals as goal

pub returns-then-read-eq0 : goal.returns-then-read-eq0
returns-then-read-eq0 c =
    sym (short_of c.args.text.now ∙ sym c.loop-rest.invariant
    ∙ short_none c.loop-rest.rest.now c.loop-rest-test.true (c.after_last_slash-read.ensures.none c.if-read-eq0.true))

pub loop-rest-preserved : goal.loop-rest-preserved
loop-rest-preserved c =
    let said = c.after_last_slash-read.ensures in
    ap (short_from 0) (take_rest c.loop-rest.rest.now c.after_last_slash-read.result)
    ∙ short_read c.after_last_slash-read.result c.loop-rest.rest.now c.if-read-eq0.false said.within said.near (said.slash (omega arith))
    ∙ c.loop-rest.invariant

pub returns : goal.returns
returns c = sym (short_of c.args.text.now ∙ sym c.loop-rest.invariant ∙ short_whole 0 c.loop-rest.rest.now (omega arith))
