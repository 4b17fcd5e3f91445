-- How a tree is kept: nobody has to believe it.
-- Maps of what is read at the places of paths.
use Rattle.std.specs.Prelude.{ℕ, List, map as map_list}
use Rattle.std.specs.FinMap as map
use Rattle.cg_cgroup.specs.Paths.{path_cmp}
use Rattle.cg_places.specs.Nodes.{Node, node_at}

-- the map with each value mapped
abbrev pub map_values : {X Y : Type 0} → (X → Y) → map.FinMap path_cmp X → map.FinMap path_cmp Y
map_values f m = map.from_sorted (map_list (λ e. (e.0, f e.1)) (map.entries m))

-- what is read of the node at each path's place
abbrev pub values_of : {A : Type 0} → (Node → A) → map.FinMap path_cmp ℕ → List Node → map.FinMap path_cmp A
values_of g places nodes = map_values (λ i. g (node_at nodes i)) places
