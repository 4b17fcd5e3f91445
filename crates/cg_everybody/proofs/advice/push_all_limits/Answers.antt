use Rattle.std.proofs.Common.{Bor, ap, sym, subst, refl, ◌∙◌, take}
use Rattle.std.specs.Ordering.{is_eq}
use Rattle.std.specs.BTreeSet.{contains}
use Rattle.cg_cgroup.specs.Paths.{Names, path_cmp, same_path}
use Rattle.cg_advice.specs.AdviceLines.{over_lines}
use Rattle.cg_advice.proofs.Gathering.{tied_paths, AreWritten, written_first, written_again}
use Rattle.cg_everybody.proofs.Walked.{taken_more}
use Rattle.cg_everybody.proofs.advice.push_all_limits.Goals as goal
use Rattle.cg_everybody.proofs.advice.push_all_limits.Goals.{then-is_new+in_ok-push_limits, else-is_new}

pub loop-subtree-preserved : goal.loop-subtree-preserved
loop-subtree-preserved g c =
    let lines = over_lines (g.H.Hierarchy.state c.args.tree.now) in
    let front = take c.loop-subtree.subtree-index c.args.subtrees.now in
    let subtree = c.subtree-item.result in
    let key : Bor Names = record { ref_ptr = (0, 0); now = subtree } in
    let cmp = λ (a b : Bor Names). path_cmp a.now b.now in
    let meets = λ (key : Bor Names) (path : Names). same_path path key.now in
    subst (λ l. AreWritten lines same_path meets c.if-is_new.text.items c.args.text.now.items l (contains cmp c.insert.new.self))
    (sym (taken_more c.args.subtrees.now c.loop-subtree.subtree-index subtree c.loop-subtree-test.true c.subtree-item.is))
    (elim c.if-is_new.branch [
      | then-is_new+in_ok-push_limits w ↦
          written_first lines same_path meets c.loop-subtree.text.items c.args.text.now.items front (contains cmp c.loop-subtree.seen)
          (contains cmp c.insert.new.self) (λ q. is_eq (cmp key q)) subtree key c.in_ok-is_new.is_new c.loop-subtree.invariant
          (λ q. tied_paths subtree q.now) (λ other. refl) c.in_ok-is_new.ensures.updates.0 c.in_ok-is_new.ensures.added w.if-is_new.true
          c.if-is_new.text.items (ap (λ v. v.items) w.text-is ∙ w.in_ok-push_limits.ensures)
      | else-is_new w ↦
          written_again lines same_path meets c.loop-subtree.text.items c.args.text.now.items front (contains cmp c.loop-subtree.seen)
          (contains cmp c.insert.new.self) (λ q. is_eq (cmp key q)) subtree key c.in_ok-is_new.is_new c.loop-subtree.invariant
          (λ q. tied_paths subtree q.now) (λ other. refl) c.in_ok-is_new.ensures.updates.0 c.in_ok-is_new.ensures.added w.if-is_new.false
          c.if-is_new.text.items (ap (λ v. v.items) w.text-is)
    ])
