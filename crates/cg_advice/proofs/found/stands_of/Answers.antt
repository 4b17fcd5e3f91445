use Rattle.std.proofs.Common.{List, [], ◌∷◌, ap, sym, subst, ◌∙◌, ◌++◌, map, take, take_all}
use Rattle.std.specs.Ordering.{is_eq}
use Rattle.std.specs.BTreeSet.{contains}
use Rattle.cg_model.specs.Once.{once}
use Rattle.cg_model.specs.Mends.{Entrant as Entering, same_place}
use Rattle.cg_advice.specs.Found.{Let, stand_let, let_gathered}
use Rattle.cg_advice.specs.Ways.{entering, key_cmp, is_keyed}
use Rattle.cg_advice.proofs.Gathering.{one_more, IsKeyOf, tied, keyed_same_place, ways_of_key, AreWritten, written_first, written_again}
use Rattle.cg_advice.proofs.Founding.{one_each}
use Rattle.cg_advice.proofs.found.stands_of.Goals as goal
use Rattle.cg_advice.proofs.found.stands_of.Goals.{then-is_new+in_ok-push_stand, else-is_new}

pub loop-each-preserved : goal.loop-each-preserved
loop-each-preserved c =
    let all = map entering c.args.entrants.now in
    let one : Entering → List Let = λ each. let_gathered all each ∷ [] in
    let front = map entering (take c.loop-each.each-index c.args.entrants.now) in
    let x = entering c.each-item.result in
    let key = c.in_ok-key.key in
    let is : IsKeyOf key x = record { path = c.in_ok-key.ensures.path; name = c.in_ok-key.ensures.name } in
    subst (λ l. AreWritten one same_place is_keyed (map stand_let c.if-is_new.stands.items) [] l (contains key_cmp c.insert.new.self))
    (sym (one_more entering c.args.entrants.now c.loop-each.each-index c.each-item.result c.loop-each-test.true c.each-item.is))
    (elim c.if-is_new.branch [
      | then-is_new+in_ok-push_stand w ↦
          written_first one same_place is_keyed (map stand_let c.loop-each.stands.items) [] front
          (contains key_cmp c.loop-each.seen) (contains key_cmp c.insert.new.self) (λ q. is_eq (key_cmp key q)) x key c.in_ok-is_new.is_new
          c.loop-each.invariant (λ q. tied key q x is) (λ other. keyed_same_place key x other is) c.in_ok-is_new.ensures.updates.0
          c.in_ok-is_new.ensures.added w.if-is_new.true (map stand_let c.if-is_new.stands.items)
          (ap (λ v. map stand_let v.items) w.stands-is ∙ w.in_ok-push_stand.ensures
          ∙ ap (λ ways. map stand_let c.loop-each.stands.items ++ ((x.subtree, x.at, ways) ∷ []))
          (c.at-ways.ensures ∙ c.in_ok-gathered.ensures key ∙ ways_of_key key x all is))
      | else-is_new w ↦
          written_again one same_place is_keyed (map stand_let c.loop-each.stands.items) [] front
          (contains key_cmp c.loop-each.seen) (contains key_cmp c.insert.new.self) (λ q. is_eq (key_cmp key q)) x key c.in_ok-is_new.is_new
          c.loop-each.invariant (λ q. tied key q x is) (λ other. keyed_same_place key x other is) c.in_ok-is_new.ensures.updates.0
          c.in_ok-is_new.ensures.added w.if-is_new.false (map stand_let c.if-is_new.stands.items)
          (ap (λ v. map stand_let v.items) w.stands-is)
    ])

pub returns : goal.returns
returns c =
    let all = map entering c.args.entrants.now in
    c.loop-each.invariant.lines
    ∙ one_each (let_gathered all) (once same_place (map entering (take c.loop-each.each-index c.args.entrants.now)))
    ∙ ap (λ those. map (let_gathered all) (once same_place (map entering those)))
    (take_all c.loop-each.each-index c.args.entrants.now c.loop-each-test.false)
