use Rattle.std.proofs.Common.{Bor, ap, sym, subst, refl, ◌∙◌, ◌++◌, map, take, take_all}
use Rattle.std.specs.List.{flat_map}
use Rattle.std.specs.Ordering.{is_eq}
use Rattle.std.specs.BTreeSet.{contains}
use Rattle.cg_cgroup.specs.Paths.{Names, path_cmp, same_path}
use Rattle.cg_model.specs.Once.{once}
use Rattle.cg_advice.specs.AdviceLines.{over_lines}
use Rattle.cg_advice.specs.Thinned.{table_path}
use Rattle.cg_advice.proofs.Gathering.{one_more, tied_paths, AreWritten, written_first, written_again}
use Rattle.cg_advice.proofs.text.push_all_limits.Goals as goal
use Rattle.cg_advice.proofs.text.push_all_limits.Goals.{then-is_new+in_ok-push_limits, else-is_new}

pub loop-table-preserved : goal.loop-table-preserved
loop-table-preserved g c =
    let lines = over_lines (g.H.Hierarchy.state c.args.tree.now) in
    let front = map table_path (take c.loop-table.table-index c.args.tables.now) in
    let key = c.table-item.result.subtree in
    let cmp = λ (a b : Bor Names). path_cmp a.now b.now in
    let meets = λ (key : Bor Names) (path : Names). same_path path key.now in
    subst (λ l. AreWritten lines same_path meets c.if-is_new.text.items c.args.text.now.items l (contains cmp c.insert.new.self))
    (sym (one_more table_path c.args.tables.now c.loop-table.table-index c.table-item.result c.loop-table-test.true c.table-item.is))
    (elim c.if-is_new.branch [
      | then-is_new+in_ok-push_limits w ↦
          written_first lines same_path meets c.loop-table.text.items c.args.text.now.items front (contains cmp c.loop-table.seen)
          (contains cmp c.insert.new.self) (λ q. is_eq (cmp key q)) key.now key c.in_ok-is_new.is_new c.loop-table.invariant
          (λ q. tied_paths key.now q.now) (λ other. refl) c.in_ok-is_new.ensures.updates.0 c.in_ok-is_new.ensures.added w.if-is_new.true
          c.if-is_new.text.items (ap (λ v. v.items) w.text-is ∙ w.in_ok-push_limits.ensures)
      | else-is_new w ↦
          written_again lines same_path meets c.loop-table.text.items c.args.text.now.items front (contains cmp c.loop-table.seen)
          (contains cmp c.insert.new.self) (λ q. is_eq (cmp key q)) key.now key c.in_ok-is_new.is_new c.loop-table.invariant
          (λ q. tied_paths key.now q.now) (λ other. refl) c.in_ok-is_new.ensures.updates.0 c.in_ok-is_new.ensures.added w.if-is_new.false
          c.if-is_new.text.items (ap (λ v. v.items) w.text-is)
    ])

pub returns : goal.returns
returns g c =
    let lines = over_lines (g.H.Hierarchy.state c.args.tree.now) in
    c.loop-table.invariant.lines
    ∙ ap (λ tables. c.args.text.now.items ++ flat_map lines (once same_path (map table_path tables)))
    (take_all c.loop-table.table-index c.args.tables.now c.loop-table-test.false)
