use Rattle.std.proofs.Common.{◌==◌, get_or, ap, sym, ◌∙◌}
use Rattle.std.specs.Prelude.{◌||◌}
use Rattle.std.proofs.lemmas.List.Folds.{list_any_more}
use Rattle.cg_cgroup.proofs.path.names.has_dot.Goals as goal

pub loop-byte-preserved : goal.loop-byte-preserved
loop-byte-preserved c =
    let text = c.args.text.now in
    let at = c.loop-byte.byte-index in
    ap (λ found. found || (get_or text at 0 == 46)) c.loop-byte.invariant
    ∙ sym (list_any_more (λ b. b == 46) text at 0 c.loop-byte-test.true)
