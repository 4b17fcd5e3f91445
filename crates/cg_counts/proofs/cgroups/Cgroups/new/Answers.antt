use Rattle.std.proofs.Common.{◌≡◌, ap, sym, ◌∙◌, subst, is_some, None, [], ◌∷◌, ◌++◌}
use Rattle.std.specs.FinMap as map
use Rattle.cg_cgroup.specs.Paths.{path_cmp}
use Rattle.cg_places.specs.Links.{new_link}
use Rattle.cg_places.specs.Nodes.{new_node}
use Rattle.cg_places.specs.Values.{values_of}
use Rattle.cg_counts.specs.Kept.{held_of, AreKept}
use Rattle.cg_counts.proofs.Begun.{kept_begun, held_begun}
use Rattle.cg_counts.proofs.cgroups.Cgroups.new.Goals as goal

pub insert-requires : goal.insert-requires
insert-requires c = ap is_some (ap (λ m. map.get m c.root.result) c.new-places.ensures ∙ map.get-empty path_cmp c.root.result)

table_is : (c : goal.In_ok-nodes) → c.insert-2.new.self ≡ map.insert map.empty [] 0
table_is c = c.in_ok-insert.ensures.ok ∙ (λ t. map.insert (c.new-places.ensures t) (c.root.ensures t) 0)

links_are : (c : goal.In_ok-nodes) → c.push.new.self.items ≡ new_link 0 c.args.root ∷ []
links_are c = c.in_ok-push.ensures.items ∙ (λ t. c.new-links.ensures.items t ++ c.new.ensures t ∷ [])

nodes_are : (c : goal.In_ok-nodes) → c.in_ok-nodes.nodes ≡ new_node c.args.root None ∷ []
nodes_are c = c.in_ok-nodes.ensures

pub invariant_of-result : goal.invariant_of-result
invariant_of-result c =
    subst (λ m. AreKept m c.push.new.self.items c.in_ok-nodes.nodes) (sym (table_is c))
    (subst (λ ls. AreKept (map.insert map.empty [] 0) ls c.in_ok-nodes.nodes) (sym (links_are c))
    (subst (AreKept (map.insert map.empty [] 0) (new_link 0 c.args.root ∷ [])) (sym (nodes_are c)) (kept_begun c.args.root)))

pub returns : goal.returns
returns c = (λ t. values_of held_of (table_is c t) (nodes_are c t)) ∙ held_begun c.args.root
