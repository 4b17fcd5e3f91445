use Rattle.std.proofs.Common.{◌≡◌, ap, sym, refl, subst, ◌∙◌, Ok, Err}
use Rattle.std.specs.Prelude.{IfOk}
use Rattle.std.proofs.lemmas.List.Elements.{recursion_from_All}
use Rattle.std.specs.FinMap as map
use Rattle.std.specs.Map.Iter.{deref_pair}
use Rattle.std.proofs.lemmas.Map.Iter.{rest_more}
use Rattle.cg_places.specs.TextKeys.{HasText, AreTexts, numbers_of}
use Rattle.cg_places.proofs.Listed.{listed_none, listed_text, listed_more, listed_all, keys_listed}
use Rattle.cg_places.proofs.path_index.PathIndex.paths.Goals as goal

pub loop-text-init : goal.loop-text-init
loop-text-init c =
    listed_none c.into_iter-text-iterator.result c.into_iter-text-iterator.result c.new-paths.result.keys refl c.new-paths.ensures.empty
    (recursion_from_All HasText _ (subst (λ es. AreTexts es) (sym c.into_iter-text-iterator.ensures.into_iter_gives.0) c.self.invariant))
    c.new-paths.ensures.ordered

pub path_of-requires : goal.path_of-requires
path_of-requires c =
    listed_text _ c.loop-text.text-iterator c.next.new.self c.in-Some.text.now c.in-Some._number.now c.loop-text.paths.keys
    c.loop-text.invariant (rest_more deref_pair _ _ _ (c.in-Some.text, c.in-Some._number) c.in-Some.is c.next.ensures.steps)

pub loop-text-preserved : goal.loop-text-preserved
loop-text-preserved c =
    listed_more _ c.loop-text.text-iterator c.next.new.self c.in-Some.text.now c.in-Some._number.now c.in_ok-path_of.field-0
    c.loop-text.paths.keys c.insert.new.self.keys c.loop-text.invariant
    (rest_more deref_pair _ _ _ (c.in-Some.text, c.in-Some._number) c.in-Some.is c.next.ensures.steps) c.in_ok-path_of.ensures
    c.in_ok-insert.ensures.updates.0 c.insert.ensures.ordered

-- what is listed in the end
listed : (c : goal.After-list_of) → c.loop-text.paths.keys ≡ map.keys c.args.self.now
listed c =
    keys_listed c.loop-text.paths.keys (numbers_of c.into_iter-text-iterator.result) c.loop-text.invariant.ordered
    (listed_all c.into_iter-text-iterator.result c.loop-text.text-iterator c.loop-text.paths.keys c.loop-text.invariant
    c.in-None.ensures.steps.0)
    ∙ ap (λ es. map.keys (numbers_of es)) c.into_iter-text-iterator.ensures.into_iter_gives.0 ∙ ap map.keys c.self.view_is

pub returns : goal.returns
returns c =
    elim c.list_of.result as
    (λ r. IfOk r (λ list. list.items ≡ c.loop-text.paths.keys) → IfOk r (λ list. list.items ≡ map.keys c.args.self.now)) [
      | Ok list ↦ λ same. same ∙ listed c
      | Err error ↦ λ none. tt
    ] c.list_of.ensures
