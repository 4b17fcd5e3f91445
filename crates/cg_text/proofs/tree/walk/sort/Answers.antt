use Rattle.std.proofs.Common.{◌≡◌, ◌+◌, ◌<◌, Bool, List, length, get_or, rules, is_lt, false, sym, subst}
use Rattle.std.specs.Ordering.{is_le}
use Rattle.std.proofs.lemmas.List.Sorted.{ranks_by, answers_always}
use Rattle.std.proofs.lemmas.Result.{on_ok_weaker}
use Rattle.cg_cgroup.specs.Paths.{path_cmp}
use Rattle.cg_cgroup.proofs.PathOrder.{path_cmp_total}
use Rattle.cg_text.specs.declared.tree.row.Row.{Row}
use Rattle.cg_text.proofs.WalkFronts.{not_less}
use Rattle.cg_text.proofs.tree.walk.sort.Goals as goal

abbrev is_up_to : Row → Row → Bool
is_up_to x y = is_le (path_cmp x.path y.path)

abbrev is_before : Row → Row → Bool
is_before x y = is_lt (path_cmp x.path y.path)

pub returns-then-is_sorted_by-clause-order : goal.returns-then-is_sorted_by-clause-order
returns-then-is_sorted_by-clause-order c k d low within =
    let rows = c.deref.result.now in
    let rises = c.if-is_sorted_by.ensures.cases is_up_to (answers_always _ _ _ (λ f a r f' called. search rules)) in
    subst (λ (xs : List Row). k + 1 < length xs → is_before (get_or xs (k + 1) d) (get_or xs k d) ≡ false) c.deref.ensures.value
    (λ inside. not_less (get_or rows k d).path (get_or rows (k + 1) d).path (sym (rises k d inside))) within

pub returns-clause-order : goal.returns-clause-order
returns-clause-order c =
    let ranks = ranks_by path_cmp_total (λ (row : Row). row.path) in
    on_ok_weaker c.sort_by.result (λ sorted. sorted is_before ranks (answers_always _ _ _ (λ f a r f' called. search rules)))
    c.sort_by.ensures.sorted

pub returns-clause-stable : goal.returns-clause-stable
returns-clause-stable c =
    let ranks = ranks_by path_cmp_total (λ (row : Row). row.path) in
    c.sort_by.ensures.stable is_before ranks (answers_always _ _ _ (λ f a r f' called. search rules))
