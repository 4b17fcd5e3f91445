use Rattle.std.proofs.Common.{ap, sym, ◌∙◌, ◌≡◌, ◌-◌, ◌||◌, true, false, take, length}
use Rattle.std.proofs.Math.Bool.{or-true, or-false}
use Rattle.cg_cgroup.specs.Paths.{parent}
use Rattle.cg_second.specs.Greatest.{greatest}
use Rattle.cg_second.proofs.Staying.{off-above}
use Rattle.cg_second.proofs.control.is_held.Goals as goal

pub returns-then-stays_off : goal.returns-then-stays_off
returns-then-stays_off g c =
    let s = c.args.survey.now in
    let st = g.H.Hierarchy.state s.tree.now in
    let lasting = greatest st s.users.now in
    let subtree = c.args.subtree.now in
    let off : lasting.off (parent subtree) c.args.controller ≡ true =
    off-above st s.users.now c.requires.survey.formed subtree c.args.controller c.requires.stays c.requires.not_root
    ∙ sym c.stays_off.ensures ∙ c.if-stays_off.true in
    c.if-stays_off.true
    ∙ sym (ap (λ b. lasting.on (parent subtree) c.args.controller || b) off ∙ or-true (lasting.on (parent subtree) c.args.controller))

pub returns-else-stays_off : goal.returns-else-stays_off
returns-else-stays_off g c =
    let s = c.args.survey.now in
    let st = g.H.Hierarchy.state s.tree.now in
    let lasting = greatest st s.users.now in
    let subtree = c.args.subtree.now in
    let level : length subtree - 1 ≡ c.depth.result - 1 = ap (λ n. n - 1) (sym c.depth.ensures.depth) in
    let none : lasting.off (parent subtree) c.args.controller ≡ false =
    off-above st s.users.now c.requires.survey.formed subtree c.args.controller c.requires.stays c.requires.not_root
    ∙ sym c.stays_off.ensures ∙ c.if-stays_off.false in
    c.stays_on.ensures ∙ ap (λ n. lasting.on (take n subtree) c.args.controller) (sym level)
    ∙ sym (ap (λ b. lasting.on (parent subtree) c.args.controller || b) none ∙ or-false (lasting.on (parent subtree) c.args.controller))
