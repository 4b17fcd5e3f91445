-- The text of a path, the places where its names end in it, and what lies between them.
use Rattle.std.proofs.Common.{◌≡◌, ℕ, zero, suc, ◌+◌, ◌-◌, ◌<◌, ◌≤◌, true, List, [], ◌∷◌, ◌++◌, length, get_or, take, drop, refl, ap, sym, ◌∙◌, subst, arith, length-append, append_assoc}
use Rattle.std.specs.Prelude.{not, ◌&&◌, nat_lt, nat_le, nat_eq}
use Rattle.std.specs.List.{list_all}
use Rattle.std.specs.Str.{IsAscii, IsCharBoundary}
use Rattle.std.proofs.lemmas.Bool.{and_parts, leb-true}
use Rattle.std.proofs.lemmas.List.{take_at, drop_at, take-append-drop, drop-drop, take_more, append-nil, length-take-le}
use Rattle.std.proofs.lemmas.List.Concat.{flat_map-append}
use Rattle.std.proofs.lemmas.Str.{IsAscii-append, IsCharBoundary-from_ascii}
use Rattle.std.proofs.lemmas.Str.Ascii.{IsAscii-nil, IsAscii-cons}
use Rattle.cg_cgroup.specs.Paths.{Name, Names, path_text, is_name, is_name_byte, is_reserved, is_word, IsPath, names_of}
use Rattle.cg_cgroup.specs.PathText.{names_text, ends_from, IsKept}

pub length-ends_from : (start : ℕ) (path : Names) → length (ends_from start path) ≡ length path
length-ends_from start [] = refl
length-ends_from start (name ∷ path) = ap suc (length-ends_from (start + (length name + 1)) path)

-- the end of the name at i is the length of the text of the names up to it
pub get_or-ends_from : (path : Names) (start i d : ℕ) → i < length path
    → get_or (ends_from start path) i d ≡ start + length (names_text (take (suc i) path))
get_or-ends_from [] start i d h = absurd (omega arith)
get_or-ends_from (name ∷ path) start zero d h = omega (arith, length-append name [])
get_or-ends_from (name ∷ path) start (suc i) d h =
    omega (arith, get_or-ends_from path (start + (length name + 1)) i d (omega arith), length-append name (names_text (take (suc i) path)))

pub end_at : (path : Names) (len d : ℕ) → 0 < len → len ≤ length path
    → get_or (ends_from 0 path) (len - 1) d ≡ length (names_text (take len path))
end_at path zero d h k = absurd (omega arith)
end_at path (suc n) d h k =
    let e : suc n - 1 ≡ n = omega arith in
    rw e (omega (arith, get_or-ends_from path 0 n d (omega arith)))

pub names_text-cut : (path : Names) (len : ℕ) → names_text path ≡ names_text (take len path) ++ names_text (drop len path)
names_text-cut path len =
    ap names_text (sym (take-append-drop len path)) ∙ flat_map-append (λ (name : Name). 47 ∷ name) (take len path) (drop len path)

-- the text up to the end of the first names is theirs
pub front_text : (path : Names) (len : ℕ) → take (length (names_text (take len path))) (names_text path) ≡ names_text (take len path)
front_text path len =
    ap (take (length (names_text (take len path)))) (names_text-cut path len)
    ∙ take_at (names_text (take len path)) (names_text (drop len path)) _ refl

pub end_le : (path : Names) (len : ℕ) → length (names_text (take len path)) ≤ length (names_text path)
end_le path len =
    omega (arith, ap length (names_text-cut path len), length-append (names_text (take len path)) (names_text (drop len path)))

-- one more name
pub names_text-more : (path : Names) (i : ℕ) → i < length path
    → names_text (take (i + 1) path) ≡ names_text (take i path) ++ 47 ∷ get_or path i []
names_text-more path i h =
    ap names_text (take_more path i [] h)
    ∙ flat_map-append (λ (name : Name). 47 ∷ name) (take i path) (get_or path i [] ∷ [])
    ∙ ap (λ (x : List ℕ). names_text (take i path) ++ x) (append-nil (47 ∷ get_or path i []))

pub length_more : (path : Names) (i : ℕ) → i < length path
    → length (names_text (take (i + 1) path)) ≡ length (names_text (take i path)) + 1 + length (get_or path i [])
length_more path i h =
    omega (arith, ap length (names_text-more path i h), length-append (names_text (take i path)) (47 ∷ get_or path i []))

-- what lies behind a text and a slash
pub behind_slash : (front name rest : List ℕ) → take (length name) (drop (length front + 1) ((front ++ 47 ∷ name) ++ rest)) ≡ name
behind_slash front name rest =
    ap (λ (x : List ℕ). take (length name) (drop (length front + 1) x)) (append_assoc front (47 ∷ name) rest)
    ∙ ap (take (length name)) (sym (drop-drop 1 (length front) (front ++ 47 ∷ (name ++ rest))))
    ∙ ap (λ (x : List ℕ). take (length name) (drop 1 x)) (drop_at front (47 ∷ (name ++ rest)) _ refl)
    ∙ take_at name rest _ refl

pub name_text : (path : Names) (text : List ℕ) (i start end : ℕ) → names_text path ≡ text → i < length path
    → start ≡ length (names_text (take i path)) → end ≡ length (names_text (take (i + 1) path))
    → take (end - (start + 1)) (drop (start + 1) text) ≡ get_or path i []
name_text path text i start end spelled h s e =
    let more = names_text-more path i h in
    let name = get_or path i [] in
    let front = names_text (take i path) in
    let n : end - (start + 1) ≡ length name = omega (arith, ap length more, length-append front (47 ∷ name)) in
    let whole : text ≡ (front ++ 47 ∷ name) ++ names_text (drop (i + 1) path) =
    sym spelled ∙ names_text-cut path (i + 1) ∙ ap (λ (x : List ℕ). x ++ names_text (drop (i + 1) path)) more in
    rw (n, s, whole) (behind_slash front name (names_text (drop (i + 1) path)))

pub path_text-names : (path : Names) → 0 < length path → path_text path ≡ names_text path
path_text-names [] h = absurd (omega arith)
path_text-names (name ∷ path) h = refl

pub prefix_names : (path : Names) (text : List ℕ) (len end : ℕ) → names_text path ≡ text → end ≡ length (names_text (take len path))
    → take (end - 0) text ≡ names_text (take len path)
prefix_names path text len end spelled e =
    let n : end - 0 ≡ length (names_text (take len path)) = omega (arith, e) in
    rw (n, ← spelled) (front_text path len)

pub prefix_text : (path : Names) (len : ℕ) → 0 < len → len ≤ length path → names_text (take len path) ≡ path_text (take len path)
prefix_text path len p h =
    sym (path_text-names (take len path) (omega (arith, length-take-le len path h)))

-- each name takes a byte at least
pub depth_le : (path : Names) → length path ≤ length (names_text path)
depth_le [] = omega arith
depth_le (name ∷ path) = omega (arith, depth_le path, length-append name (names_text path))

pub IsAscii-name : (name : Name) → list_all is_name_byte name ≡ true → IsAscii name
IsAscii-name [] h = IsAscii-nil
IsAscii-name (b ∷ name) h =
    let p = and_parts (is_name_byte b) (list_all is_name_byte name) h in
    let q = and_parts (nat_le 33 b && nat_le b 126) (not (nat_eq b 47)) p.0 in
    let r = and_parts (nat_le 33 b) (nat_le b 126) q.0 in
    let e : b ≤ 126 = leb-true b 126 r.1 in
    IsAscii-cons b name (omega arith) (IsAscii-name name p.1)

pub is_name-bytes : (name : Name) → is_name name ≡ true → list_all is_name_byte name ≡ true
is_name-bytes name h =
    (and_parts (nat_lt 0 (length name) && nat_le (length name) 255) (list_all is_name_byte name)
    (and_parts (is_word name) (not (is_reserved name)) h).0).1

pub IsAscii-names_text : (path : Names) → list_all is_name path ≡ true → IsAscii (names_text path)
IsAscii-names_text [] h = IsAscii-nil
IsAscii-names_text (name ∷ path) h =
    let p = and_parts (is_name name) (list_all is_name path) h in
    IsAscii-cons 47 (name ++ names_text path) (omega arith)
    (IsAscii-append name (names_text path) (IsAscii-name name (is_name-bytes name p.0)) (IsAscii-names_text path p.1))

pub path_bytes : (path : Names) → IsPath path → length (names_text path) ≤ 4095
path_bytes [] h = omega arith
path_bytes (name ∷ path) h =
    leb-true (length (names_text (name ∷ path))) 4095
    (and_parts (list_all is_name (name ∷ path)) (nat_le (length (path_text (name ∷ path))) 4095) h).1

pub path_names : (path : Names) → IsPath path → list_all is_name path ≡ true
path_names path h = (and_parts (list_all is_name path) (nat_le (length (path_text path)) 4095) h).0

-- a path's text may be cut anywhere
pub cut_anywhere : (path : Names) (text : List ℕ) (at : ℕ) → IsPath path → names_text path ≡ text → at ≤ length (names_text path)
    → IsCharBoundary text at
cut_anywhere path text at h spelled l =
    rw (← spelled) (IsCharBoundary-from_ascii (names_text path) at (IsAscii-names_text path (path_names path h)) l)

-- ---- a kept path

pub kept_path : (text ends : List ℕ) (path : Names) → IsKept text ends → names_of text ≡ path → IsPath path
kept_path text ends path k e = subst IsPath e k.is_path

pub kept_text : (text ends : List ℕ) (path : Names) → IsKept text ends → names_of text ≡ path → names_text path ≡ text
kept_text text ends path k e = rw (← e) k.spelled

pub kept_ends : (text ends : List ℕ) (path : Names) → IsKept text ends → names_of text ≡ path → ends ≡ ends_from 0 path
kept_ends text ends path k e = rw (← e) k.ended

pub kept_length : (text ends : List ℕ) (path : Names) → IsKept text ends → names_of text ≡ path → length ends ≡ length path
kept_length text ends path k e = ap length (kept_ends text ends path k e) ∙ length-ends_from 0 path

-- of the ends, the first ones are those of the first names
pub kept_front : (text ends : List ℕ) (path : Names) (len : ℕ) → IsKept text ends → names_of text ≡ path → len ≤ length path
    → len ≡ length (take len ends)
kept_front text ends path len k e h =
    let inside : len ≤ length ends = omega (arith, kept_length text ends path k e) in
    sym (length-take-le len ends inside)
