use Rattle.std.proofs.Common.{Bor, [], ◌++◌, ap, sym, subst, refl, ◌∙◌, map, take, take_all}
use Rattle.std.specs.List.{flat_map}
use Rattle.std.specs.Ordering.{is_eq}
use Rattle.std.specs.BTreeSet.{contains}
use Rattle.cg_cgroup.specs.Paths.{Names, path_cmp, same_path}
use Rattle.cg_model.specs.Once.{once}
use Rattle.cg_advice.specs.Found.{over_raised, raised_of}
use Rattle.cg_advice.specs.Thinned.{table_path}
use Rattle.cg_advice.proofs.Gathering.{one_more, tied_paths, AreWritten, written_first, written_again}
use Rattle.cg_advice.proofs.found.overs_of.Goals as goal
use Rattle.cg_advice.proofs.found.overs_of.Goals.{then-is_new+in_ok-push_over, else-is_new}

pub loop-table-preserved : goal.loop-table-preserved
loop-table-preserved g c =
    let raised = raised_of (g.H.Hierarchy.state c.args.tree.now) in
    let front = map table_path (take c.loop-table.table-index c.args.tables.now) in
    let key = c.table-item.result.subtree in
    let cmp = λ (a b : Bor Names). path_cmp a.now b.now in
    let meets = λ (key : Bor Names) (path : Names). same_path path key.now in
    subst (λ l. AreWritten raised same_path meets (map over_raised c.if-is_new.overs.items) [] l (contains cmp c.insert.new.self))
    (sym (one_more table_path c.args.tables.now c.loop-table.table-index c.table-item.result c.loop-table-test.true c.table-item.is))
    (elim c.if-is_new.branch [
      | then-is_new+in_ok-push_over w ↦
          written_first raised same_path meets (map over_raised c.loop-table.overs.items) [] front (contains cmp c.loop-table.seen)
          (contains cmp c.insert.new.self) (λ q. is_eq (cmp key q)) key.now key c.in_ok-is_new.is_new c.loop-table.invariant
          (λ q. tied_paths key.now q.now) (λ other. refl) c.in_ok-is_new.ensures.updates.0 c.in_ok-is_new.ensures.added w.if-is_new.true
          (map over_raised c.if-is_new.overs.items) (ap (λ v. map over_raised v.items) w.overs-is ∙ w.in_ok-push_over.ensures
          ∙ ap (λ more. map over_raised c.loop-table.overs.items ++ more) w.over_of.ensures)
      | else-is_new w ↦
          written_again raised same_path meets (map over_raised c.loop-table.overs.items) [] front (contains cmp c.loop-table.seen)
          (contains cmp c.insert.new.self) (λ q. is_eq (cmp key q)) key.now key c.in_ok-is_new.is_new c.loop-table.invariant
          (λ q. tied_paths key.now q.now) (λ other. refl) c.in_ok-is_new.ensures.updates.0 c.in_ok-is_new.ensures.added w.if-is_new.false
          (map over_raised c.if-is_new.overs.items) (ap (λ v. map over_raised v.items) w.overs-is)
    ])

pub returns : goal.returns
returns g c =
    c.loop-table.invariant.lines
    ∙ ap (λ tables. flat_map (raised_of (g.H.Hierarchy.state c.args.tree.now)) (once same_path (map table_path tables)))
    (take_all c.loop-table.table-index c.args.tables.now c.loop-table-test.false)
