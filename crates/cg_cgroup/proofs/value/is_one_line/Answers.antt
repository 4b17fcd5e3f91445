use Rattle.std.proofs.Common.{rules, lit<}
use Rattle.std.proofs.lemmas.Iterator.Search.{all_from_yields_List}
use Rattle.std.proofs.lemmas.Iterator.Splits.{YieldsList-from_str_split}
use Rattle.cg_cgroup.specs.Values.{is_value_word}
use Rattle.cg_cgroup.proofs.value.is_one_line.Goals as goal

pub returns : goal.returns
returns c =
    all_from_yields_List is_value_word _ _ _ c.all.ensures.ran
    (YieldsList-from_str_split 32 c.args.text.now (lit< tt) c.split.ensures.text c.split.ensures.has_more c.split.ensures.pattern)
    (λ x b q k. search rules)
