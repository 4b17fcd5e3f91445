use Rattle.std.proofs.Common.{ap, sym, subst, ◌∙◌, None, arith}
use Rattle.std.proofs.lemmas.List.{take_all}
use Rattle.std.proofs.lemmas.Map.Text.{btree_map_updates_text}
use Rattle.cg_cgroup.specs.Paths.{path_text}
use Rattle.cg_places.specs.TextKeys.{AreTexts}
use Rattle.cg_places.proofs.TextKeys.{texts_removed, numbers_without}
use Rattle.cg_places.proofs.path_index.PathIndex.remove.Goals as goal

pub invariant_of-self : goal.invariant_of-self
invariant_of-self c = subst AreTexts (sym c.remove.ensures.entries) (texts_removed c.self.inside.numbers.entries _ c.self.invariant)

pub returns : goal.returns
returns c =
    let key = c.prefix.ensures.text ∙ ap path_text (take_all c.depth.result c.args.path.now (omega arith)) in
    numbers_without c.self.inside.numbers.entries c.remove.new.self.entries c.args.self.now c.self.view_is c.args.path.now
    c.prefix.result.now key c.prefix.ensures.path c.self.invariant
    (invariant_of-self c)
    (btree_map_updates_text c.prefix.result.now c.self.inside.numbers c.remove.new.self None c.remove.ensures.updates)
