use Rattle.std.proofs.Common.{◌≡◌, ℕ, ◌+◌, ◌-◌, Bool, not, cond, take, find, Option, Some, option_and_then, sym, ap, ◌∙◌}
use Rattle.cg_cgroup.specs.Paths.{Names}
use Rattle.cg_model.specs.States.{State}
use Rattle.cg_model.specs.WellFormed.{has_row}
use Rattle.cg_model.specs.Tries.{probe, numbers_from}
use Rattle.cg_tries.specs.Finding.{short_probe}
use Rattle.cg_tries.proofs.ProbeNames.{numbers_next, none_short, short_is}
use Rattle.cg_tries.proofs.probe_tries.free_path.Given as given
use Rattle.cg_tries.proofs.probe_tries.free_path.Goals as goal
use Rattle.cg_tries.proofs.probe_tries.free_path.Goals.{After-is_there}

abbrev lacks : State → Names → ℕ → Bool
lacks st ancestor number = not (has_row st (probe ancestor number))

-- the first that is free, of so many numbers from one on
abbrev free_from : State → Names → ℕ → ℕ → Option ℕ
free_from st ancestor number count = find (lacks st ancestor) (numbers_from number count)

pub returns-in_default : goal.returns-in_default
returns-in_default g c =
    let st = g.H.Hierarchy.state c.args.asker.now.tree.now in
    let ancestor = take c.args.len c.args.asker.now.subtree.now in
    sym (none_short ancestor (lacks st ancestor) c.loop-number.number _ (sym c.in_ok-path.ensures ∙ c.in_default.is))
    ∙ ap (option_and_then (short_probe ancestor)) (c.loop-number.invariant ∙ ap (λ n. free_from st ancestor 0 n) c.requires.count)

-- a path that is short is that of this number
short : (g : given.Over) (c : After-is_there g)
    → short_probe (take c.args.len c.args.asker.now.subtree.now) c.loop-number.number ≡ Some c.in-Some.path
short g c = sym c.in_ok-path.ensures ∙ c.in-Some.is

-- and where it isn't there, the number is the first free one
first_free : (g : given.Over) (c : After-is_there g)
    → free_from (g.H.Hierarchy.state c.args.asker.now.tree.now) (take c.args.len c.args.asker.now.subtree.now)
    c.loop-number.number (c.args.count - c.loop-number.number)
    ≡ cond (not c.is_there.result) (Some c.loop-number.number)
    (free_from (g.H.Hierarchy.state c.args.asker.now.tree.now) (take c.args.len c.args.asker.now.subtree.now)
    (c.loop-number.number + 1) (c.args.count - (c.loop-number.number + 1)))
first_free g c =
    let st = g.H.Hierarchy.state c.args.asker.now.tree.now in
    let ancestor = take c.args.len c.args.asker.now.subtree.now in
    let there = ap (has_row st) (short_is ancestor c.loop-number.number c.in-Some.path (short g c)) ∙ sym c.is_there.ensures in
    numbers_next (lacks st ancestor) c.loop-number.number c.args.count c.loop-number-test.true
    ∙ ap (λ b.
    cond (not b) (Some c.loop-number.number) (free_from st ancestor (c.loop-number.number + 1) (c.args.count - (c.loop-number.number + 1))))
    there

pub returns-then-not-is_there : goal.returns-then-not-is_there
returns-then-not-is_there g c =
    let st = g.H.Hierarchy.state c.args.asker.now.tree.now in
    let ancestor = take c.args.len c.args.asker.now.subtree.now in
    let after = (goal.at.returns-then-not-is_there g c).After-is_there in
    let later = free_from st ancestor (c.loop-number.number + 1) (c.args.count - (c.loop-number.number + 1)) in
    let first = first_free g after ∙ ap (λ b. cond (not b) (Some c.loop-number.number) later) c.if-not-is_there.true in
    sym (short g after)
    ∙ ap (option_and_then (short_probe ancestor))
    (sym first ∙ c.loop-number.invariant ∙ ap (λ n. free_from st ancestor 0 n) c.requires.count)

pub loop-number-preserved : goal.loop-number-preserved
loop-number-preserved g c =
    let later =
    free_from (g.H.Hierarchy.state c.args.asker.now.tree.now) (take c.args.len c.args.asker.now.subtree.now)
    (c.loop-number.number + 1) (c.args.count - (c.loop-number.number + 1)) in
    let first = first_free g (goal.at.loop-number-preserved g c).After-is_there in
    sym (first ∙ ap (λ b. cond (not b) (Some c.loop-number.number) later) c.if-not-is_there.false) ∙ c.loop-number.invariant
