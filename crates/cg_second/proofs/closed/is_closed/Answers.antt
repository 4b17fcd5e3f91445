use Rattle.std.proofs.Common.{ap, sym, ◌∙◌, ◌≡◌, ◌<◌, ◌≤◌, ◌&&◌, ◌||◌, not, true, false, [], get_or, length, arith, refl}
use Rattle.std.specs.List.{list_all}
use Rattle.std.proofs.lemmas.Bool.{or_left, or_right, not_from_false}
use Rattle.cg_second.specs.Judged.{takes_none, grows_none}
use Rattle.cg_second.specs.Greatest.{greatest}
use Rattle.cg_second.specs.Exposed.{is_exposed, is_shut_or_apart}
use Rattle.cg_second.proofs.Staying.{same_default}
use Rattle.cg_second.proofs.Closing.{room-first, shut-more, open-found, all-of}
use Rattle.cg_second.proofs.Edges.{closed-is}
use Rattle.cg_second.proofs.closed.is_closed.Goals as goal
use Rattle.cg_second.proofs.closed.is_closed.Goals.{else-is_exposed-via-then-is_exposed+else-not-is_shut, else-is_exposed-via-else-is_exposed}

pub loop-at-init : goal.loop-at-init
loop-at-init g c =
    let s = c.args.survey.now in
    record {
      shut = refl;
      room =
          room-first (g.H.Hierarchy.state s.tree.now) s.users.now s.paths.items s.ends.items s.kept.items s.fixed.items c.requires.survey
          _ _ c.in_ok-room.ensures.until c.in_ok-room.ensures.levels;
    }

pub returns-then-not-is_shut : goal.returns-then-not-is_shut
returns-then-not-is_shut g c =
    let s = c.args.survey.now in
    let st = g.H.Hierarchy.state s.tree.now in
    let users = s.users.now in
    let items = s.paths.items in
    let at = c.loop-at.at in
    let q = get_or items at [] in
    let subtree = c.args.subtree.now in
    let within : at < length items =
    (let test = c.loop-at-test.true in let len = c.len-at-end.ensures in let ok = s.paths.ok in omega (arith, test, len, ok)) in
    let named : q ≡ c.index.result.now = same_default items at [] c.index.result.now within ∙ sym c.index.ensures in
    let open_here : (takes_none st users (greatest st users) q && grows_none st users (greatest st users) q) ≡ false =
    sym c.is_shut.ensures ∙ c.if-not-is_shut.true in
    let exposed : is_exposed st users subtree q ≡ true =
    ap (is_exposed st users subtree) named ∙ sym c.is_exposed.ensures ∙ c.if-is_exposed.true in
    let test = is_shut_or_apart st users subtree in
    let fails : test q ≡ false = λ i. not (exposed i) || open_here i in
    open-found test items at within fails ∙ ap (list_all test) c.requires.survey.all ∙ closed-is st users subtree

pub loop-at-preserved : goal.loop-at-preserved
loop-at-preserved g c =
    let s = c.args.survey.now in
    let st = g.H.Hierarchy.state s.tree.now in
    let users = s.users.now in
    let items = s.paths.items in
    let at = c.loop-at.at in
    let q = get_or items at [] in
    let subtree = c.args.subtree.now in
    let within : at < length items =
    (let test = c.loop-at-test.true in let len = c.len-at-end.ensures in let ok = s.paths.ok in omega (arith, test, len, ok)) in
    let named : q ≡ c.index.result.now = same_default items at [] c.index.result.now within ∙ sym c.index.ensures in
    let test = is_shut_or_apart st users subtree in
    let passes : test q ≡ true =
    elim c.else-is_exposed.branch [
      | else-is_exposed-via-then-is_exposed+else-not-is_shut w ↦
          or_right (not (is_exposed st users subtree q)) _ (sym w.is_shut.ensures ∙ w.if-not-is_shut.false)
      | else-is_exposed-via-else-is_exposed w ↦
          or_left (not (is_exposed st users subtree q)) _
          (not_from_false (is_exposed st users subtree q)
          (ap (is_exposed st users subtree) named ∙ sym c.is_exposed.ensures ∙ w.if-is_exposed.false))
    ] in
    record {
      shut = shut-more test items at within c.loop-at.invariant.shut passes;
      room = c.in_ok-is_full.ensures.room;
    }

pub returns : goal.returns
returns g c =
    let s = c.args.survey.now in
    let st = g.H.Hierarchy.state s.tree.now in
    let test = is_shut_or_apart st s.users.now c.args.subtree.now in
    let all : length s.paths.items ≤ c.loop-at.at =
    (let end = c.loop-at-test.false in let len = c.len-at-end.ensures in let ok = s.paths.ok in omega (arith, end, len, ok)) in
    sym (sym (closed-is st s.users.now c.args.subtree.now)
    ∙ ap (list_all test) (sym c.requires.survey.all)
    ∙ all-of test s.paths.items c.loop-at.at all c.loop-at.invariant.shut)
