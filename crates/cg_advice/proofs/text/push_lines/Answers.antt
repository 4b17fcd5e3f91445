use Rattle.std.proofs.Common.{ap, ◌∙◌, ◌++◌}
use Rattle.cg_advice.specs.AdviceLines.{mend_lines}
use Rattle.cg_advice.proofs.Written.{entry_written}
use Rattle.cg_advice.proofs.text.push_lines.Goals as goal

pub returns : goal.returns
returns c =
    let subtree = c.args.subtree.now in
    entry_written c.args.ways subtree c.args.at.now c.args.text.now.items c.push_class.new.text.items c.push_class-2.new.text.items
    c.push_class-3.new.text.items c.push_mend.new.text.items c.push_mend-2.new.text.items
    c.in_ok-push_class.ensures c.in_ok-push_class-2.ensures c.in_ok-push_class-3.ensures
    (c.in_ok-push_mend.ensures ∙ ap (λ mends. c.push_class-3.new.text.items ++ mend_lines subtree mends) c.chown_of.ensures.mend)
    (c.in_ok-push_mend-2.ensures ∙ ap (λ mends. c.push_mend.new.text.items ++ mend_lines subtree mends) c.chmod_of.ensures.mend)
