use Rattle.std.proofs.Common.{◌≡◌, ℕ, false, cond, nat_eq, List, slice_set, sym, ap, ◌∙◌, eqb-true}
use Rattle.std.proofs.lemmas.Bool.{false_from_ne_true}
use Rattle.cg_cgroup.specs.declared.cgroup.Cgroup.{Cgroup}
use Rattle.cg_cgroup.specs.declared.controllers.ControllerSet.{ControllerSet}
use Rattle.cg_model.specs.States.{enabling_these}
use Rattle.cg_places.specs.Nodes.{Node, node_at, with_cgroup, recounted, enabled_at}
use Rattle.cg_places.proofs.nodes.enable.Goals as goal

-- what is put, and then counted anew at the parent
put_and_counted : (old put new : List Node) (at above : ℕ) (row : Cgroup) (enabled : ControllerSet) → row ≡ (node_at old at).cgroup
    → put ≡ slice_set old at (with_cgroup (enabling_these enabled row) (node_at old at))
    → new ≡ slice_set put above (recounted row.enabled enabled (node_at put above)) → nat_eq above at ≡ false
    → new ≡ enabled_at old at above enabled
put_and_counted old put new at above row enabled read is_put counted other =
    let set = slice_set old at (with_cgroup (enabling_these enabled (node_at old at).cgroup) (node_at old at)) in
    let is_set : put ≡ set = is_put ∙ ap (λ r. slice_set old at (with_cgroup (enabling_these enabled r) (node_at old at))) read in
    counted
    ∙ (λ i. slice_set (is_set i) above (recounted (read i).enabled enabled (node_at (is_set i) above)))
    ∙ ap (λ b. cond b set (slice_set set above (recounted (node_at old at).cgroup.enabled enabled (node_at set above)))) (sym other)

pub returns-then-above-at : goal.returns-then-above-at
returns-then-above-at c =
    put_and_counted c.args.nodes.now c.put.new.self c.recount.new.nodes c.args.at c.args.above c.cgroup-cgroup.result.now c.args.enabled
    c.cgroup-cgroup.ensures c.put.ensures c.recount.ensures
    (false_from_ne_true (nat_eq c.args.above c.args.at) (λ same. c.if-above-at.true (eqb-true c.args.above c.args.at same)))
