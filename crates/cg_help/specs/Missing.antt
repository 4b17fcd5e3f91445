-- What is said of a path that no row of a tree has. Own.
use Rattle.std.specs.Prelude.{◌≡◌, Bool, List, ℕ, [], ◌++◌, cond, codes, string_bytes, Option, Some, None, is_some}
use Rattle.std.specs.Option.{option_map}
use Rattle.cg_format.specs.TreeTexts.{behind}
use Rattle.text_places.specs.Shown.{IsQuoteOf}
use Rattle.text_places.specs.declared.near.Missing.{Missing}

-- whether a path begins with where a host has its cgroups
abbrev pub names_mount : List ℕ → Bool
names_mount path = is_some (behind (codes "/sys/fs/cgroup") path)

-- what may be wrong with a path, behind its quote
abbrev pub why_missing : List ℕ → List ℕ
why_missing path =
    cond (names_mount path)
    (codes "' begins with the mount: paths are below /sys/fs/cgroup, and don't name it")
    (codes "' has to be the path of a row of the tree")

-- which path is the nearest
abbrev pub IsNearSaid : Option (List ℕ) → List ℕ → Type 0
IsNearSaid None said = said ≡ []
IsNearSaid (Some near) said = (quote : List ℕ) × IsQuoteOf near quote × (said ≡ codes "; the nearest is '" ++ quote ++ codes "'")

abbrev pub IsMissingSaid : Missing → List ℕ → Type 0
IsMissingSaid missing said =
    (quote : List ℕ) × (near : List ℕ) × IsQuoteOf (string_bytes missing.name) quote × IsNearSaid (option_map string_bytes missing.nearest) near
    × (said ≡ codes "'" ++ quote ++ why_missing (string_bytes missing.name) ++ near)
