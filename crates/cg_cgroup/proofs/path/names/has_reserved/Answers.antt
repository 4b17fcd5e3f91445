use Rattle.std.proofs.Common.{◌≡◌, ◌==◌, false, sym, ◌∙◌, rules, tests}
use Rattle.std.proofs.lemmas.Iterator.Search.{any_from_yields_List}
use Rattle.std.proofs.lemmas.Iterator.Splits.{YieldsList-from_slice_split}
use Rattle.cg_cgroup.specs.Paths.{is_reserved}
use Rattle.cg_cgroup.proofs.Words.{none_reserved}
use Rattle.cg_cgroup.proofs.path.names.has_reserved.Goals as goal

pub returns-then-has_dot : goal.returns-then-has_dot
returns-then-has_dot c =
    any_from_yields_List is_reserved _ _ _ c.any.ensures.ran (YieldsList-from_slice_split _ (λ b. b == 47) c.args.text.now (cc)
    c.split.ensures.done c.split.ensures.closure (λ x b q k. search (rules, tests))) (λ x b q k. search (rules, tests))

pub returns-else-has_dot : goal.returns-else-has_dot
returns-else-has_dot c =
    let none : c.has_dot.result ≡ false = c.if-has_dot.false in
    none ∙ sym (none_reserved c.args.text.now (sym c.has_dot.ensures ∙ none))
