use Rattle.std.proofs.Common.{ap, sym, subst, ◌∙◌, ◌++◌, map, take}
use Rattle.std.specs.Ordering.{is_eq}
use Rattle.std.specs.BTreeSet.{contains}
use Rattle.cg_model.specs.Mends.{same_place}
use Rattle.cg_advice.specs.WayLines.{lines_by}
use Rattle.cg_advice.specs.Ways.{entering, key_cmp, is_keyed, gathered_lines}
use Rattle.cg_advice.proofs.Gathering.{one_more, IsKeyOf, tied, keyed_same_place, ways_of_key, AreWritten, written_first, written_again}
use Rattle.cg_advice.proofs.text.push_entries.Goals as goal
use Rattle.cg_advice.proofs.text.push_entries.Goals.{then-is_new+in_ok-push_lines, else-is_new}

pub loop-each-preserved : goal.loop-each-preserved
loop-each-preserved c =
    let all = map entering c.args.entrants.now in
    let front = map entering (take c.loop-each.each-index c.args.entrants.now) in
    let x = entering c.each-item.result in
    let key = c.in_ok-key.key in
    let is : IsKeyOf key x = record { path = c.in_ok-key.ensures.path; name = c.in_ok-key.ensures.name } in
    subst (λ l. AreWritten (gathered_lines all) same_place is_keyed c.if-is_new.text.items c.args.text.now.items l
    (contains key_cmp c.insert.new.self))
    (sym (one_more entering c.args.entrants.now c.loop-each.each-index c.each-item.result c.loop-each-test.true c.each-item.is))
    (elim c.if-is_new.branch [
      | then-is_new+in_ok-push_lines w ↦
          written_first (gathered_lines all) same_place is_keyed c.loop-each.text.items c.args.text.now.items front
          (contains key_cmp c.loop-each.seen) (contains key_cmp c.insert.new.self) (λ q. is_eq (key_cmp key q)) x key c.in_ok-is_new.is_new
          c.loop-each.invariant (λ q. tied key q x is) (λ other. keyed_same_place key x other is) c.in_ok-is_new.ensures.updates.0
          c.in_ok-is_new.ensures.added w.if-is_new.true c.if-is_new.text.items
          (ap (λ v. v.items) w.text-is ∙ w.in_ok-push_lines.ensures
          ∙ ap (λ ways. c.loop-each.text.items ++ lines_by ways x.subtree x.at)
          (c.at-ways.ensures ∙ c.in_ok-gathered.ensures key ∙ ways_of_key key x all is))
      | else-is_new w ↦
          written_again (gathered_lines all) same_place is_keyed c.loop-each.text.items c.args.text.now.items front
          (contains key_cmp c.loop-each.seen) (contains key_cmp c.insert.new.self) (λ q. is_eq (key_cmp key q)) x key c.in_ok-is_new.is_new
          c.loop-each.invariant (λ q. tied key q x is) (λ other. keyed_same_place key x other is) c.in_ok-is_new.ensures.updates.0
          c.in_ok-is_new.ensures.added w.if-is_new.false c.if-is_new.text.items (ap (λ v. v.items) w.text-is)
    ])
