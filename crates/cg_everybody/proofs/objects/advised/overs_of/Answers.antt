use Rattle.std.proofs.Common.{Bor, [], ◌++◌, ap, sym, subst, refl, ◌∙◌, map, take, take_all}
use Rattle.std.specs.List.{flat_map}
use Rattle.std.specs.Ordering.{is_eq}
use Rattle.std.specs.BTreeSet.{contains}
use Rattle.cg_cgroup.specs.Paths.{Names, path_cmp, same_path}
use Rattle.cg_model.specs.Once.{once}
use Rattle.cg_advice.specs.Found.{over_raised, raised_of}
use Rattle.cg_advice.proofs.Gathering.{tied_paths, AreWritten, written_first, written_again}
use Rattle.cg_everybody.proofs.Walked.{taken_more}
use Rattle.cg_everybody.proofs.objects.advised.overs_of.Goals as goal
use Rattle.cg_everybody.proofs.objects.advised.overs_of.Goals.{then-is_new+in_ok-push_over, else-is_new}

pub loop-subtree-preserved : goal.loop-subtree-preserved
loop-subtree-preserved g c =
    let raised = raised_of (g.H.Hierarchy.state c.args.tree.now) in
    let front = take c.loop-subtree.subtree-index c.args.subtrees.now in
    let subtree = c.subtree-item.result in
    let key : Bor Names = record { ref_ptr = (0, 0); now = subtree } in
    let cmp = λ (a b : Bor Names). path_cmp a.now b.now in
    let meets = λ (key : Bor Names) (path : Names). same_path path key.now in
    subst (λ l. AreWritten raised same_path meets (map over_raised c.if-is_new.overs.items) [] l (contains cmp c.insert.new.self))
    (sym (taken_more c.args.subtrees.now c.loop-subtree.subtree-index subtree c.loop-subtree-test.true c.subtree-item.is))
    (elim c.if-is_new.branch [
      | then-is_new+in_ok-push_over w ↦
          written_first raised same_path meets (map over_raised c.loop-subtree.overs.items) [] front (contains cmp c.loop-subtree.seen)
          (contains cmp c.insert.new.self) (λ q. is_eq (cmp key q)) subtree key c.in_ok-is_new.is_new c.loop-subtree.invariant
          (λ q. tied_paths subtree q.now) (λ other. refl) c.in_ok-is_new.ensures.updates.0 c.in_ok-is_new.ensures.added w.if-is_new.true
          (map over_raised c.if-is_new.overs.items) (ap (λ v. map over_raised v.items) w.overs-is ∙ w.in_ok-push_over.ensures
          ∙ ap (λ more. map over_raised c.loop-subtree.overs.items ++ more) w.over_of.ensures)
      | else-is_new w ↦
          written_again raised same_path meets (map over_raised c.loop-subtree.overs.items) [] front (contains cmp c.loop-subtree.seen)
          (contains cmp c.insert.new.self) (λ q. is_eq (cmp key q)) subtree key c.in_ok-is_new.is_new c.loop-subtree.invariant
          (λ q. tied_paths subtree q.now) (λ other. refl) c.in_ok-is_new.ensures.updates.0 c.in_ok-is_new.ensures.added w.if-is_new.false
          (map over_raised c.if-is_new.overs.items) (ap (λ v. map over_raised v.items) w.overs-is)
    ])

pub returns : goal.returns
returns g c =
    c.loop-subtree.invariant.lines
    ∙ ap (λ subtrees. flat_map (raised_of (g.H.Hierarchy.state c.args.tree.now)) (once same_path subtrees))
    (take_all c.loop-subtree.subtree-index c.args.subtrees.now c.loop-subtree-test.false)
