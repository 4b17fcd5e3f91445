use Rattle.std.proofs.Common.{ap, sym, ◌∙◌, ◌≡◌, ◌<◌, ◌≤◌, [], get_or, length, arith}
use Rattle.std.specs.List.{list_any}
use Rattle.cg_cgroup.specs.Paths.{same_path}
use Rattle.cg_cgroup.proofs.PathOrder.{same_path-is, same_path_comm}
use Rattle.cg_second.specs.Greatest.{greatest}
use Rattle.cg_second.proofs.Staying.{same_default, none-more, none-of, stays-absent}
use Rattle.cg_second.proofs.control.stays.Goals as goal

pub returns-then-eq : goal.returns-then-eq
returns-then-eq g c =
    let s = c.args.survey.now in
    let items = s.paths.items in
    let within : c.loop-at.at < length items =
    (let test = c.loop-at-test.true in let len = c.len-at-end.ensures in let ok = s.paths.ok in omega (arith, test, len, ok)) in
    let is : get_or items c.loop-at.at [] ≡ c.args.path.now =
    same_default items c.loop-at.at [] c.index.result.now within ∙ sym c.index.ensures
    ∙ same_path-is c.index.result.now c.args.path.now (sym c.eq.ensures ∙ c.if-eq.true) in
    c.stays_at.ensures ∙ ap (greatest (g.H.Hierarchy.state s.tree.now) s.users.now).stays is

pub loop-at-preserved : goal.loop-at-preserved
loop-at-preserved g c =
    let s = c.args.survey.now in
    let items = s.paths.items in
    let within : c.loop-at.at < length items =
    (let test = c.loop-at-test.true in let len = c.len-at-end.ensures in let ok = s.paths.ok in omega (arith, test, len, ok)) in
    let named : get_or items c.loop-at.at [] ≡ c.index.result.now =
    same_default items c.loop-at.at [] c.index.result.now within ∙ sym c.index.ensures in
    none-more (same_path c.args.path.now) items c.loop-at.at within c.loop-at.invariant
    (ap (same_path c.args.path.now) named ∙ same_path_comm c.args.path.now c.index.result.now ∙ sym c.eq.ensures ∙ c.if-eq.false)

pub returns : goal.returns
returns g c =
    let s = c.args.survey.now in
    let items = s.paths.items in
    let all : length items ≤ c.loop-at.at =
    (let test = c.loop-at-test.false in let len = c.len-at-end.ensures in let ok = s.paths.ok in omega (arith, test, len, ok)) in
    stays-absent (g.H.Hierarchy.state s.tree.now) s.users.now c.requires.survey.formed c.args.path.now
    (ap (list_any (same_path c.args.path.now)) (sym c.requires.survey.all)
    ∙ none-of (same_path c.args.path.now) items c.loop-at.at all c.loop-at.invariant)
