use Rattle.std.proofs.Common.{ap, sym, ◌∙◌, ◌≡◌, ◌<◌, ◌≤◌, ◌&&◌, false, [], Bool, take, get_or, length, arith}
use Rattle.std.specs.List.{list_any}
use Rattle.std.proofs.lemmas.Bool.{and_left, and_right}
use Rattle.cg_cgroup.specs.Paths.{Names, inside}
use Rattle.cg_second.specs.Anchors.{is_fixed}
use Rattle.cg_second.proofs.Staying.{same_default, none-more, none-of, on-inside, on-found}
use Rattle.cg_second.proofs.control.stays_on.Goals as goal
use Rattle.cg_second.proofs.control.stays_on.Goals.{else-holds-via-then-holds+else-is_fixed_at, else-holds-via-else-holds}

pub returns-then-is_fixed_at : goal.returns-then-is_fixed_at
returns-then-is_fixed_at g c =
    let s = c.args.survey.now in
    let items = s.paths.items in
    let within : c.loop-at.at < length items =
    (let test = c.loop-at-test.true in let len = c.len-at-end.ensures in let ok = s.paths.ok in omega (arith, test, len, ok)) in
    let named : get_or items c.loop-at.at [] ≡ c.index.result.now =
    same_default items c.loop-at.at [] c.index.result.now within ∙ sym c.index.ensures in
    on-found (g.H.Hierarchy.state s.tree.now) s.users.now items s.ends.items s.kept.items s.fixed.items c.requires.survey c.loop-at.at
    within (take c.args.len c.args.path.now) c.args.controller
    (ap (inside (take c.args.len c.args.path.now)) named ∙ sym c.holds.ensures ∙ c.if-holds.true)
    (sym c.is_fixed_at.ensures ∙ c.if-is_fixed_at.true)

pub loop-at-preserved : goal.loop-at-preserved
loop-at-preserved g c =
    let s = c.args.survey.now in
    let st = g.H.Hierarchy.state s.tree.now in
    let items = s.paths.items in
    let top = take c.args.len c.args.path.now in
    let q = get_or items c.loop-at.at [] in
    let within : c.loop-at.at < length items =
    (let test = c.loop-at-test.true in let len = c.len-at-end.ensures in let ok = s.paths.ok in omega (arith, test, len, ok)) in
    let named : q ≡ c.index.result.now = same_default items c.loop-at.at [] c.index.result.now within ∙ sym c.index.ensures in
    let test : Names → Bool = λ p. inside top p && is_fixed st s.users.now c.args.controller p in
    let fails : test q ≡ false =
    elim c.else-holds.branch [
      | else-holds-via-then-holds+else-is_fixed_at w ↦
          and_right (inside top q) (is_fixed st s.users.now c.args.controller q) (sym w.is_fixed_at.ensures ∙ w.if-is_fixed_at.false)
      | else-holds-via-else-holds w ↦
          and_left (inside top q) (is_fixed st s.users.now c.args.controller q)
          (ap (inside top) named ∙ sym c.holds.ensures ∙ w.if-holds.false)
    ] in
    none-more test items c.loop-at.at within c.loop-at.invariant fails

pub returns : goal.returns
returns g c =
    let s = c.args.survey.now in
    let st = g.H.Hierarchy.state s.tree.now in
    let items = s.paths.items in
    let top = take c.args.len c.args.path.now in
    let test : Names → Bool = λ p. inside top p && is_fixed st s.users.now c.args.controller p in
    let all : length items ≤ c.loop-at.at =
    (let end = c.loop-at-test.false in let len = c.len-at-end.ensures in let ok = s.paths.ok in omega (arith, end, len, ok)) in
    sym (on-inside st s.users.now c.requires.survey.formed top c.args.controller
    ∙ ap (list_any test) (sym c.requires.survey.all) ∙ none-of test items c.loop-at.at all c.loop-at.invariant)
