use Rattle.std.proofs.Common.{◌≡◌, ap, sym, ◌∙◌, subst, Some, string_bytes, arith}
use Rattle.std.proofs.lemmas.List.{take_all}
use Rattle.std.proofs.lemmas.Map.Text.{btree_map_updates_text}
use Rattle.cg_cgroup.specs.Paths.{path_text}
use Rattle.cg_places.specs.TextKeys.{AreTexts}
use Rattle.cg_places.proofs.TextKeys.{texts_added, numbers_put}
use Rattle.cg_places.proofs.path_index.PathIndex.insert.Goals as goal

-- the key is the path's text
key_is : (c : goal.In_ok-insert) → string_bytes c.in_ok-text.text ≡ path_text c.args.path.now
key_is c = c.in_ok-text.ensures.ok ∙ c.prefix.ensures.text ∙ ap path_text (take_all c.depth.result c.args.path.now (omega arith))

were : (c : goal.In_ok-insert) → AreTexts c.insert.new.self.entries
were c =
    subst AreTexts (sym c.in_ok-insert.ensures.entries) (texts_added c.self.inside.numbers.entries c.in_ok-text.text c.args.number
    c.args.path.now c.self.invariant c.prefix.ensures.path (key_is c))

pub invariant_of-self-2 : goal.invariant_of-self-2
invariant_of-self-2 c = were c

pub returns-clause-ok : goal.returns-clause-ok
returns-clause-ok c =
    numbers_put c.self.inside.numbers.entries c.insert.new.self.entries c.args.self.now c.self.view_is c.args.path.now
    (string_bytes c.in_ok-text.text) (key_is c) c.prefix.ensures.path c.self.invariant (were c) c.args.number
    (btree_map_updates_text (string_bytes c.in_ok-text.text) c.self.inside.numbers c.insert.new.self (Some c.args.number)
    c.in_ok-insert.ensures.updates)
