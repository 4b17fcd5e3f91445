use Rattle.std.proofs.Common.{List, [], ◌∷◌, ap, sym, subst, ◌∙◌, map, take, take_all}
use Rattle.std.specs.Ordering.{is_eq}
use Rattle.std.specs.BTreeSet.{contains}
use Rattle.cg_model.specs.Once.{once}
use Rattle.cg_advice.specs.Found.{Let, stand_let}
use Rattle.cg_advice.specs.WayLines.{Spot}
use Rattle.cg_advice.specs.Ways.{key_cmp}
use Rattle.cg_advice.proofs.Founding.{one_each}
use Rattle.cg_advice.proofs.Gathering.{one_more, IsKeyOf, tied, keyed_same_place, AreWritten, written_first, written_again}
use Rattle.cg_everybody.specs.Advice.{same_spot, let_into}
use Rattle.cg_everybody.specs.Entrances.{entrance_spot}
use Rattle.cg_everybody.specs.Everybody.{everybody_of}
use Rattle.cg_everybody.proofs.AdviceWritten.{anybody_at, is_keyed_spot}
use Rattle.cg_everybody.proofs.advice.stands_of.Goals as goal
use Rattle.cg_everybody.proofs.advice.stands_of.Goals.{then-is_new+in_ok-push_stand, else-is_new}

pub loop-each-preserved : goal.loop-each-preserved
loop-each-preserved c =
    let one : Spot → List Let = λ spot. let_into (everybody_of c.args.asked.now) spot ∷ [] in
    let front = map entrance_spot (take c.loop-each.each-index c.args.found.now) in
    let x = entrance_spot c.each-item.result in
    let key = c.in_ok-key.key in
    let is : IsKeyOf key (anybody_at x) = record { path = c.in_ok-key.ensures.path; name = c.in_ok-key.ensures.name } in
    subst (λ l. AreWritten one same_spot is_keyed_spot (map stand_let c.if-is_new.stands.items) [] l
    (contains key_cmp c.insert.new.self))
    (sym (one_more entrance_spot c.args.found.now c.loop-each.each-index c.each-item.result c.loop-each-test.true c.each-item.is))
    (elim c.if-is_new.branch [
      | then-is_new+in_ok-push_stand w ↦
          written_first one same_spot is_keyed_spot (map stand_let c.loop-each.stands.items) [] front
          (contains key_cmp c.loop-each.seen) (contains key_cmp c.insert.new.self) (λ q. is_eq (key_cmp key q)) x key c.in_ok-is_new.is_new
          c.loop-each.invariant (λ q. tied key q (anybody_at x) is) (λ other. keyed_same_place key (anybody_at x) (anybody_at other) is)
          c.in_ok-is_new.ensures.updates.0 c.in_ok-is_new.ensures.added w.if-is_new.true (map stand_let c.if-is_new.stands.items)
          (ap (λ v. map stand_let v.items) w.stands-is ∙ w.in_ok-push_stand.ensures)
      | else-is_new w ↦
          written_again one same_spot is_keyed_spot (map stand_let c.loop-each.stands.items) [] front
          (contains key_cmp c.loop-each.seen) (contains key_cmp c.insert.new.self) (λ q. is_eq (key_cmp key q)) x key c.in_ok-is_new.is_new
          c.loop-each.invariant (λ q. tied key q (anybody_at x) is) (λ other. keyed_same_place key (anybody_at x) (anybody_at other) is)
          c.in_ok-is_new.ensures.updates.0 c.in_ok-is_new.ensures.added w.if-is_new.false (map stand_let c.if-is_new.stands.items)
          (ap (λ v. map stand_let v.items) w.stands-is)
    ])

pub returns : goal.returns
returns c =
    let into = let_into (everybody_of c.args.asked.now) in
    c.loop-each.invariant.lines
    ∙ one_each into (once same_spot (map entrance_spot (take c.loop-each.each-index c.args.found.now)))
    ∙ ap (λ those. map into (once same_spot (map entrance_spot those)))
    (take_all c.loop-each.each-index c.args.found.now c.loop-each-test.false)
