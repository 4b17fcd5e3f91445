use Rattle.std.proofs.Common.{◌≡◌, subst, refl, ap, sym, ◌∙◌, ◌++◌, ◌∷◌, [], unwrap_or}
use Rattle.std.specs.Option.{option_to_list}
use Rattle.cg_text.specs.Walk.{over_at, fitted_to, entries_from, told_here, fronts_above, HasTested}
use Rattle.cg_text.specs.declared.tree.walk.Walk.{Walk}
use Rattle.cg_text.proofs.WalkFronts.{met_next, over_next}
use Rattle.cg_text.proofs.LeastNumbers.{tested_push}
use Rattle.cg_text.proofs.tree.walk.Walk.step.Goals as goal

pub returns : goal.returns
returns c met has next =
    let row = c.args.row in
    let controllers = c.args.controllers in
    let left = c.leave.new.self in
    let len = c.depth-len.result in
    let long = c.depth-len.ensures.depth in
    let above : left.above.items ≡ fronts_above met row.path = c.leave.ensures.left controllers met row has next refl in
    let is_over = c.over-over.ensures ∙ ap (λ xs. over_at xs len) c.deref.ensures.value in
    let over = over_next met row.path left.above.items len c.over-over.result above long is_over in
    let entries : left.entries.items ≡ entries_from [] met = ap (λ v. v.items) c.leave.ensures.entries ∙ has.entries in
    let least = subst (HasTested controllers met) (sym c.leave.ensures.least) has.tested in
    let tested =
    subst (HasTested controllers (met ++ row ∷ [])) (sym (c.test.ensures.tested met entries next))
    (tested_push controllers met row left.least c.over-over.result least over) in
    let same = ap (λ v. v.items) (c.test.ensures.entries ∙ c.leave.ensures.entries) in
    let unwrapped = c.unwrap_or-over.ensures ∙ ap (unwrap_or c.over-over.result) c.none.ensures in
    let fitted = c.fitted.ensures ∙ ap (λ set. fitted_to set row.cgroup) unwrapped in
    let told = c.in_ok-tell.ensures ∙ ap (λ v. v.items ++ option_to_list (told_here row)) (c.test.ensures.told ∙ c.leave.ensures.told) in
    let new : Walk =
    record { entries = c.push-2.new.self; told = c.tell.new.told; above = c.push.new.self; least = c.test.new.self.least } in
    met_next controllers met row c.args.self.now new left.above.items len c.over-over.result has above long over
    (c.in_ok-push.ensures.items ∙ ap (λ v. v.items ++ record { len = len; enabled = row.cgroup.enabled } ∷ []) c.test.ensures.above)
    (c.in_ok-push-2.ensures.items ∙ (λ i. same i ++ (row.path, fitted i) ∷ []))
    told
    tested
