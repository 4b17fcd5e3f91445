-- How a tree is kept: nobody has to believe it.
-- Numbers kept under the texts of paths, seen as a map from paths.
use Rattle.std.specs.Prelude.{◌≡◌, ℕ, List, map as map_list, string_bytes, String}
use Rattle.std.specs.List.{All}
use Rattle.std.specs.FinMap as map
use Rattle.std.specs.declared.alloc.Global.{Global}
use Rattle.cg_cgroup.specs.Paths.{Names, path_cmp, path_text, names_at, IsPath}

abbrev pub number_of : String Global × ℕ → Names × ℕ
number_of e = (names_at (string_bytes e.0), e.1)

abbrev pub numbers_of : List (String Global × ℕ) → map.FinMap path_cmp ℕ
numbers_of es = map.from_entries (map_list number_of es)

-- the text is that of a path
pub record IsText (text : List ℕ) : Type 0 where
  pub path : IsPath (names_at text)
  pub same : path_text (names_at text) ≡ text

abbrev pub HasText : String Global × ℕ → Type 0
HasText e = IsText (string_bytes e.0)

abbrev pub AreTexts : List (String Global × ℕ) → Type 0
AreTexts es = All HasText es
