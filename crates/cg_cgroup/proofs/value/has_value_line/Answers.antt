use Rattle.std.proofs.Common.{rules, lit<}
use Rattle.std.proofs.lemmas.Iterator.Search.{any_from_yields_List}
use Rattle.std.proofs.lemmas.Iterator.Splits.{YieldsList-from_str_split}
use Rattle.cg_cgroup.specs.Paths.{same_name}
use Rattle.cg_cgroup.proofs.value.has_value_line.Goals as goal

pub returns : goal.returns
returns c =
    any_from_yields_List (same_name c.args.line.now) _ _ _ c.any.ensures.ran
    (YieldsList-from_str_split 10 c.args.value.now (lit< tt) c.split.ensures.text c.split.ensures.has_more c.split.ensures.pattern)
    (λ x b q k. search rules)
