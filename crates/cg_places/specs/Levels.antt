-- How a tree is kept: nobody has to believe it.
-- How deep paths lie below a path.
use Rattle.std.specs.Prelude.{ℕ, ◌-◌, ◌&&◌, ◌==◌, nat_lt, nat_eq, cond, max, List, length, map, filter, fold, count_by, drop, slice_index_or}
use Rattle.std.specs.List.{starts_with}
use Rattle.cg_cgroup.specs.Paths.{Names, below}

-- how many levels the deepest of these paths below a path lies below it
abbrev pub deepest : Names → List Names → ℕ
deepest top paths = fold max 0 (map (λ q. length q - length top) (filter (below top) paths))

-- how many slashes a text has behind another, where a slash and more stand there
abbrev pub levels_behind : List ℕ → ℕ
levels_behind rest = cond (nat_lt 1 (length rest) && nat_eq (slice_index_or rest 0 0) 47) (count_by (λ b. b == 47) rest) 0

abbrev pub levels_below : List ℕ → List ℕ → ℕ
levels_below top text = cond (starts_with nat_eq text top) (levels_behind (drop (length top) text)) 0
