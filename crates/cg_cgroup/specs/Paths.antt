-- Paths as lists of names, each name the list of its bytes. The root is the empty list.
use Rattle.std.specs.Prelude.{ℕ, ◌+◌, ◌-◌, Bool, true, false, ◌&&◌, not, nat_eq, nat_lt, nat_le, cond, Option, Some, None, List, [], ◌∷◌, length, take, drop, flat_map, IsTrue, ◌==◌}
use Rattle.std.specs.List.{list_any, list_all, slice_split}
use Rattle.std.specs.Ordering.{nat_cmp}
use Rattle.std.specs.Cmp.Lexicographic.{slice_cmp, pointwise}
use Rattle.std.specs.declared.cmp.Ordering.{Ordering}
use Rattle.cg_cgroup.specs.Texts.{reserved_names}

abbrev pub Name : Type 0
Name = List ℕ

abbrev pub Names : Type 0
Names = List Name

-- The order of paths: name by name, each name by its bytes. Own.
abbrev pub path_cmp : Names → Names → Ordering
path_cmp = slice_cmp (slice_cmp nat_cmp)

abbrev pub same_name : Name → Name → Bool
same_name = pointwise nat_eq

abbrev pub same_path : Names → Names → Bool
same_path = pointwise same_name

abbrev pub is_root : Names → Bool
is_root [] = true
is_root (name ∷ names) = false

-- Inside: the first is a prefix of the second, name by name.
abbrev pub inside : Names → Names → Bool
inside [] path = true
inside (name ∷ names) [] = false
inside (name ∷ names) (other ∷ path) = same_name name other && inside names path

-- Below: inside and longer.
abbrev pub below : Names → Names → Bool
below top path = inside top path && nat_lt (length top) (length path)

-- The longest list that is a prefix of both.
-- Model of Delegation, Delegation Containment: "the common ancestor of the source and destination cgroups".
abbrev pub common : Names → Names → Names
common [] other = []
common (name ∷ names) [] = []
common (name ∷ names) (other ∷ others) = cond (same_name name other) (name ∷ common names others) []

-- All but the last name. The root's parent is the root, and is asked for nowhere.
abbrev pub parent : Names → Names
parent path = take (length path - 1) path

abbrev pub is_child : Names → Names → Bool
is_child top path = inside top path && nat_eq (length path) (length top + 1)

-- The text of a path: a slash and the name for each name, and a lone slash for the root.
abbrev pub path_text : Names → List ℕ
path_text [] = 47 ∷ []
path_text (name ∷ names) = flat_map (λ n. 47 ∷ n) (name ∷ names)

-- The names between the slashes of a text that begins with one.
abbrev pub names_of : List ℕ → Names
names_of text = drop 1 (slice_split (λ b. b == 47) text)

-- A byte of a name: printable ASCII without space and slash. Own.
abbrev pub is_name_byte : ℕ → Bool
is_name_byte b = (nat_le 33 b && nat_le b 126) && not (nat_eq b 47)

-- A word: 1 to 255 such bytes. Own.
abbrev pub is_word : Name → Bool
is_word name = (nat_lt 0 (length name) && nat_le (length name) 255) && list_all is_name_byte name

-- Reserved: a dot, two dots, and the names of the interface files of the profile. Own.
abbrev pub is_reserved : Name → Bool
is_reserved name = list_any (same_name name) reserved_names

-- A name: a word that isn't reserved. Own.
abbrev pub is_name : Name → Bool
is_name name = is_word name && not (is_reserved name)

-- A path: names whose text has at most 4095 bytes. Own.
abbrev pub is_path : Names → Bool
is_path path = list_all is_name path && nat_le (length (path_text path)) 4095

abbrev pub IsPath : Names → Type 0
IsPath path = IsTrue (is_path path)

-- The names of a path's text.
abbrev pub names_at : List ℕ → Names
names_at text = cond (same_name text (path_text [])) [] (names_of text)

-- The path that a text is the text of, where there is one.
abbrev pub path_at : List ℕ → Option Names
path_at text = cond (is_path (names_at text) && same_name (path_text (names_at text)) text) (Some (names_at text)) None
