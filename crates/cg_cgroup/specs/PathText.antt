-- How paths are kept: nobody has to believe it.
-- How a path is kept: the text of its names, and where each name ends in it.
use Rattle.std.specs.Prelude.{◌≡◌, ℕ, ◌+◌, List, [], ◌∷◌, length}
use Rattle.std.specs.List.{flat_map}
use Rattle.cg_cgroup.specs.Paths.{Names, names_of, IsPath}

-- A slash and the name for each name, so nothing for the root.
abbrev pub names_text : Names → List ℕ
names_text = flat_map (λ name. 47 ∷ name)

-- Where each name ends in such a text that stands at `start`.
abbrev pub ends_from : ℕ → Names → List ℕ
ends_from start [] = []
ends_from start (name ∷ names) = (start + (length name + 1)) ∷ ends_from (start + (length name + 1)) names

pub record IsKept (text : List ℕ) (ends : List ℕ) : Type 0 where
  pub is_path : IsPath (names_of text)
  pub spelled : names_text (names_of text) ≡ text
  pub ended : ends ≡ ends_from 0 (names_of text)
