use Rattle.std.proofs.Common.{◌≡◌, ◌<◌, ◌∷◌, [], length, get_or, drop, rules, refl, sym, subst, arith}
use Rattle.std.proofs.lemmas.List.{length-append}
use Rattle.std.proofs.lemmas.List.Elements.{All-from_recursion}
use Rattle.std.proofs.lemmas.Iterator.Consumers.{YieldsList-turn, YieldsList-end}
use Rattle.std.proofs.lemmas.Iterator.Adapters.{YieldsList-from_vec}
use Rattle.cg_cli.specs.declared.answers.audited.Found.{Found}
use Rattle.cg_cli.specs.ListedRows.{in_rows}
use Rattle.cg_cli.proofs.ListedRows.{enters_one, enters_all, enters_count}
use Rattle.cg_cli.proofs.answers.listing.enter.Goals as goal
use Rattle.cg_cli.proofs.answers.listing.enter.Goals.{In-Some}

-- the one that is next
turn : (c : In-Some) → (length c.loop-each.yielded < length c.args.found.items)
    × (c.in-Some.each ≡ get_or c.args.found.items (length c.loop-each.yielded) c.in-Some.each)
turn c =
    let yields = YieldsList-from_vec {s = c.into_iter-each-iterator.result} c.args.found.items (search rules) (search rules) in
    YieldsList-turn yields c.loop-each.yielded c.loop-each.each-iterator c.loop-each.yielded_by c.next.result c.next.new.self
    c.in-Some.each c.in-Some.is c.next.ensures.steps

pub loop-each-init : goal.loop-each-init
loop-each-init c = record { rest = refl; count = refl }

pub add_to-requires : goal.add_to-requires
add_to-requires c =
    let at = turn (goal.at.add_to-requires c).In-Some in
    let all = c.loop-each.invariant.count in
    let low =
    All-from_recursion (λ (one : Found). one.place < length c.args.rows.now.items) c.args.found.items c.requires
    (length c.loop-each.yielded) c.in-Some.each at.0 in
    let here = subst (λ (one : Found). one.place < length c.args.rows.now.items) (sym at.1) low in
    omega (arith, here, all)

pub loop-each-preserved : goal.loop-each-preserved
loop-each-preserved c =
    let at = turn (goal.at.loop-each-preserved c).In-Some in
    let more = sym (length-append c.loop-each.yielded (c.in-Some.each ∷ [])) in
    record {
      rest =
          subst (λ n. in_rows c.args.subtree (drop n c.args.found.items) c.add_to.new.rows.items
          ≡ in_rows c.args.subtree c.args.found.items c.args.rows.now.items) more
          (enters_one c.args.subtree c.args.found.items (length c.loop-each.yielded) c.in-Some.each c.args.rows.now.items
          c.loop-each.rows.items c.add_to.new.rows.items at.0 at.1 c.loop-each.invariant.rest c.in_ok-add_to.ensures);
      count =
          enters_count c.args.subtree c.in-Some.each.place (record { place = c.args.subtree; answer = c.in-Some.each.answer })
          c.args.rows.now.items c.loop-each.rows.items c.add_to.new.rows.items c.loop-each.invariant.count c.in_ok-add_to.ensures;
    }

pub returns : goal.returns
returns c =
    let yields = YieldsList-from_vec {s = c.into_iter-each-iterator.result} c.args.found.items (search rules) (search rules) in
    let all = YieldsList-end yields c.loop-each.yielded c.loop-each.each-iterator c.loop-each.yielded_by c.next.result c.next.new.self
    c.in-None.is c.next.ensures.steps in
    enters_all c.args.subtree c.args.found.items (length c.loop-each.yielded) c.args.rows.now.items c.loop-each.rows.items
    (omega (arith, all.1)) c.loop-each.invariant.rest
