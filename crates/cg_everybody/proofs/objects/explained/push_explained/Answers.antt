use Rattle.std.proofs.Common.{◌∙◌, ◌++◌, ◌∷◌, [], List, true, false, map, ap, sym, refl}
use Rattle.std.proofs.lemmas.List.{map-append}
use Rattle.serde_json.specs.Data.{Data}
use Rattle.serde_json.specs.View.{view}
use Rattle.cg_explain.specs.FirstRow.{is_told_of}
use Rattle.machine_everybody.specs.Everybody.{lets_anybody_in}
use Rattle.cg_everybody.proofs.objects.explained.push_explained.Goals as goal

pub returns-in_ok-push : goal.returns-in_ok-push
returns-in_ok-push g c =
    let before : List Data = map view c.args.list.now.items in
    ap (map view) c.in_ok-push.ensures.items ∙ map-append view c.args.list.now.items (c.in_ok-value.value ∷ [])
    ∙ ap (λ (value : Data). before ++ value ∷ []) c.in_ok-value.ensures
    ∙ sym (rw (sym c.lets_anybody_in.ensures ∙ c.if-lets_anybody_in.false, sym c.is_told_of.ensures ∙ c.if-is_told_of.true) refl)
