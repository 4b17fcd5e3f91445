use Rattle.std.proofs.Common.{◌∷◌, [], ◌++◌, map, ap, sym, ◌∙◌, lit<, rules}
use Rattle.std.proofs.lemmas.List.{map-append}
use Rattle.std.proofs.lemmas.Iterator.Consumers.{YieldsList-at, YieldsList-end}
use Rattle.std.proofs.lemmas.Iterator.Splits.{YieldsList-from_str_split}
use Rattle.toml.specs.Data.{string}
use Rattle.toml.specs.View.{view}
use Rattle.cg_print.proofs.told.line_values.Goals as goal

pub loop-line-preserved : goal.loop-line-preserved
loop-line-preserved c =
    ap (map view) c.in_ok-push.ensures.items ∙ map-append view c.loop-line.values.items _
    ∙ (λ k. c.loop-line.invariant k ++ c.in_ok-string.ensures k ∷ [])
    ∙ sym (ap (map string) (map-append (λ line. line.now) c.loop-line.yielded _)
    ∙ map-append string (map (λ line. line.now) c.loop-line.yielded) _)

pub returns : goal.returns
returns c =
    let cut = c.split-line-items in
    let yields = YieldsList-from_str_split {s = cut.result} 10 c.args.text.now (lit< tt) cut.ensures.text cut.ensures.has_more
    cut.ensures.pattern in
    let from = YieldsList-at {s = c.into_iter-line-iterator.result} (search rules) yields in
    let all = YieldsList-end from c.loop-line.yielded c.loop-line.line-iterator c.loop-line.yielded_by c.next.result c.next.new.self
    c.in-None.is c.next.ensures.steps in
    c.loop-line.invariant ∙ ap (map string) all.0
