use Rattle.std.proofs.Common.{◌≡◌, ◌-◌, ◌≤◌, ℕ, List, [], ◌++◌, take, drop, length, refl, ap, sym, ◌∙◌}
use Rattle.std.proofs.Common.{append_assoc, take-append-drop, take_all, length-drop, arith}
use Rattle.std.proofs.lemmas.Bool.Decides.{nat_tests}
use Rattle.cg_cli.specs.Replaying.{standing_of, coming}
use Rattle.cg_cli.proofs.ReplayEnds.{leads_nowhere, leads_on, rest_fault, rest_ends}
use Rattle.cg_cli.proofs.replay.replay_slice.Goals as goal

pub loop-rest-init : goal.loop-rest-init
loop-rest-init g c = record {
  waiting = c.requires;
  given = [];
  split = refl;
  way = leads_nowhere _ _;
}

pub returns-in_err-taken : goal.returns-in_err-taken
returns-in_err-taken g c =
    let told = c.loop-rest.invariant in
    rest_fault told.waiting told.way c.args.ops.now c.loop-rest.rest.now told.split
    g.C.OnCourse.course (coming (standing_of g.C.OnCourse.course c.feed.new.self)) (g.W.Write.contents c.feed.new.out)
    c.in_err-taken.field-0.0 c.in_err-taken.ensures.fed c.from_residual.result c.from_residual.ensures.1

-- what is left behind the bytes that were taken
rest_is : (ops given rest : List ℕ) (n : ℕ) → ops ≡ given ++ rest
    → ops ≡ (given ++ take n rest) ++ take (length rest - n) (drop n rest)
rest_is ops given rest n split =
    let within : length (drop n rest) ≤ length rest - n = omega (arith, length-drop n rest) in
    split ∙ ap (λ l. given ++ l) (sym (take-append-drop n rest)) ∙ sym (append_assoc given (take n rest) (drop n rest))
    ∙ ap (λ l. (given ++ take n rest) ++ l) (sym (take_all (length rest - n) (drop n rest) within))

pub loop-rest-preserved : goal.loop-rest-preserved
loop-rest-preserved g c =
    let told = c.loop-rest.invariant in
    let rest = c.loop-rest.rest.now in
    let n = c.in_ok-taken.taken in
    record {
      waiting = c.in_ok-taken.ensures.waiting;
      given = told.given ++ take n rest;
      split = rest_is c.args.ops.now told.given rest n told.split;
      way = leads_on told.way c.in_ok-taken.ensures.fed.1;
    }

pub returns : goal.returns
returns g c =
    let told = c.loop-rest.invariant in
    let rest = c.loop-rest.rest.now in
    let zero : length rest ≡ 0 = grind (arith, nat_tests) in
    rest_ends told.waiting told.way c.args.ops.now rest told.split zero _ c.end.ensures
