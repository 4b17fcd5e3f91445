use Rattle.std.proofs.Common.{◌≡◌, ◌<◌, ◌∙◌, ◌++◌, [], ◌∷◌, ap, map, sym, length, append-nil, arith}
use Rattle.std.proofs.lemmas.Bool.Decides.{nat_tests}
use Rattle.serde_json.specs.View.{view}
use Rattle.cg_advice.proofs.Gathering.{map-append}
use Rattle.cg_everybody.proofs.ObjectLists.{none_headed, some_headed}
use Rattle.cg_everybody.proofs.objects.audited.push_headed.Goals as goal

pub returns-then-is_empty : goal.returns-then-is_empty
returns-then-is_empty c =
    let none : length c.args.found.items ≡ 0 = grind (arith, nat_tests) in
    let begun = map view c.args.list.now.items in
    sym (append-nil begun) ∙ ap (λ more. begun ++ more) (sym (none_headed c.args.subtree.now c.args.found.items none))

pub returns : goal.returns
returns c =
    let some : 0 < length c.args.found.items = grind (arith, nat_tests) in
    let begun = map view c.args.list.now.items in
    ap (map view) c.in_ok-push.ensures.items ∙ map-append view c.args.list.now.items (c.in_ok-value.value ∷ [])
    ∙ ap (λ value. begun ++ value ∷ []) c.in_ok-value.ensures
    ∙ ap (λ more. begun ++ more) (sym (some_headed c.args.subtree.now c.args.found.items some))
