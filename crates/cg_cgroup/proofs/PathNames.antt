-- The names of a path's text are the path's.
use Rattle.std.proofs.Common.{◌≡◌, ℕ, zero, suc, length-append, ◌+◌, ◌<◌, ◌≤◌, true, false, List, [], ◌∷◌, ◌++◌, length, take, drop, refl, ap, sym, ◌∙◌, subst, arith, zero-add, ◌⊎◌, ⊎_elim}
use Rattle.std.specs.Prelude.{not, ◌&&◌, nat_le, nat_eq, ◌==◌}
use Rattle.std.specs.List.{list_all, slice_split, All}
use Rattle.std.proofs.lemmas.Bool.{and_parts, and_from, not-true, le-leb, false_from_ne_true, both_ways}
use Rattle.std.proofs.lemmas.List.{append-nil, take-append-drop}
use Rattle.std.proofs.lemmas.List.Folds.{list_all-append}
use Rattle.std.proofs.lemmas.List.Concat.{flat_map-append}
use Rattle.std.proofs.lemmas.List.Elements.{All-nil, All-cons}
use Rattle.std.proofs.lemmas.List.Splits.{slice_split_none, slice_split_at}
use Rattle.cg_cgroup.specs.Paths.{Name, Names, names_of, path_text, is_name, is_name_byte, is_path, IsPath}
use Rattle.cg_cgroup.specs.PathText.{names_text, ends_from, IsKept}
use Rattle.cg_cgroup.proofs.PathEnds.{is_name-bytes, path_names, path_bytes, end_le, kept_ends}

no_slash : (name : Name) → list_all is_name_byte name ≡ true → All (λ (b : ℕ). (b == 47) ≡ false) name
no_slash [] h = All-nil (λ (b : ℕ). (b == 47) ≡ false)
no_slash (b ∷ name) h =
    let p = and_parts (is_name_byte b) (list_all is_name_byte name) h in
    let q = and_parts (nat_le 33 b && nat_le b 126) (not (nat_eq b 47)) p.0 in
    All-cons (λ (b : ℕ). (b == 47) ≡ false) b name (not-true (nat_eq b 47) q.1) (no_slash name p.1)

split_names : (name : Name) (path : Names) → is_name name ≡ true → list_all is_name path ≡ true
    → slice_split (λ b. b == 47) (name ++ names_text path) ≡ name ∷ path
split_names name [] h k =
    ap (slice_split (λ b. b == 47)) (append-nil name) ∙ slice_split_none (λ b. b == 47) name (no_slash name (is_name-bytes name h))
split_names name (next ∷ path) h k =
    let p = and_parts (is_name next) (list_all is_name path) k in
    slice_split_at (λ b. b == 47) name 47 (next ++ names_text path) (no_slash name (is_name-bytes name h)) refl
    ∙ ap (λ (x : Names). name ∷ x) (split_names next path p.0 p.1)

-- the text of names, cut at its slashes, gives the names
pub names_of-text : (path : Names) → list_all is_name path ≡ true → names_of (names_text path) ≡ path
names_of-text [] h = refl
names_of-text (name ∷ path) h =
    let p = and_parts (is_name name) (list_all is_name path) h in
    ap (drop 1) (ap (λ (x : Names). [] ∷ x) (split_names name path p.0 p.1))

pub IsPath-from : (path : Names) → list_all is_name path ≡ true → length (names_text path) ≤ 4095 → IsPath path
IsPath-from [] h l = refl
IsPath-from (name ∷ path) h l =
    and_from (list_all is_name (name ∷ path)) (nat_le (length (path_text (name ∷ path))) 4095) h
    (le-leb (length (names_text (name ∷ path))) 4095 l)

-- the first names of a path are a path
pub IsPath-take : (path : Names) (len : ℕ) → IsPath path → IsPath (take len path)
IsPath-take path len h =
    let both : (list_all is_name (take len path) && list_all is_name (drop len path)) ≡ true =
    sym (list_all-append is_name (take len path) (drop len path)) ∙ ap (list_all is_name) (take-append-drop len path)
    ∙ path_names path h in
    let b = path_bytes path h in
    let l = end_le path len in
    IsPath-from (take len path) (and_parts (list_all is_name (take len path)) (list_all is_name (drop len path)) both).0 (omega arith)

pub IsKept-from : (path : Names) → IsPath path → IsKept (names_text path) (ends_from 0 path)
IsKept-from path h =
    let e = names_of-text path (path_names path h) in
    record { is_path = subst IsPath (sym e) h; spelled = ap names_text e; ended = ap (ends_from 0) (sym e) }

-- what is kept for a path, and the path that it stands for
pub IsKept-at : (text ends : List ℕ) (path : Names) → IsPath path → text ≡ names_text path → ends ≡ ends_from 0 path → IsKept text ends
IsKept-at text ends path h t e = rw (t, e) (IsKept-from path h)

pub names_of-at : (text : List ℕ) (path : Names) → IsPath path → text ≡ names_text path → names_of text ≡ path
names_of-at text path h t = ap names_of t ∙ names_of-text path (path_names path h)

take-ends_from : (path : Names) (start len : ℕ) → take len (ends_from start path) ≡ ends_from start (take len path)
take-ends_from path start zero = refl
take-ends_from [] start (suc len) = refl
take-ends_from (name ∷ path) start (suc len) =
    ap (λ (x : List ℕ). (start + (length name + 1)) ∷ x) (take-ends_from path (start + (length name + 1)) len)

-- of the ends that are kept, the first ones are those of the first names
pub first_ends : (text ends slice : List ℕ) (path : Names) (len : ℕ) → IsKept text ends → names_of text ≡ path → slice ≡ ends
    → take len slice ≡ ends_from 0 (take len path)
first_ends text ends slice path len k e s = ap (take len) (s ∙ kept_ends text ends path k e) ∙ take-ends_from path 0 len

pub ends_from-push : (start : ℕ) (path : Names) (name : Name)
    → ends_from start (path ++ name ∷ []) ≡ ends_from start path ++ (start + length (names_text (path ++ name ∷ []))) ∷ []
ends_from-push start [] name = ap (λ (x : ℕ). x ∷ []) (omega (arith, length-append name []))
ends_from-push start (first ∷ path) name =
    let e : start + (length first + 1) + length (names_text (path ++ name ∷ []))
    ≡ start + length (names_text (first ∷ (path ++ name ∷ []))) =
    omega (arith, length-append first (names_text (path ++ name ∷ []))) in
    ap (λ (x : List ℕ). (start + (length first + 1)) ∷ x)
    (ends_from-push (start + (length first + 1)) path name ∙ ap (λ (x : ℕ). ends_from (start + (length first + 1)) path ++ x ∷ []) e)

-- ---- a path with one name behind it

pub names_text-push : (path : Names) (name : Name) → names_text (path ++ name ∷ []) ≡ names_text path ++ 47 ∷ name
names_text-push path name =
    flat_map-append (λ (n : Name). 47 ∷ n) path (name ∷ []) ∙ ap (λ (x : List ℕ). names_text path ++ 47 ∷ x) (append-nil name)

length_push_text : (path : Names) (name : Name) → length (names_text (path ++ name ∷ [])) ≡ length (names_text path) + 1 + length name
length_push_text path name = omega (arith, ap length (names_text-push path name), length-append (names_text path) (47 ∷ name))

pub IsPath-push : (path : Names) (name : Name) → IsPath path → is_name name ≡ true → length (names_text path) + 1 + length name ≤ 4095
    → IsPath (path ++ name ∷ [])
IsPath-push path name h k l =
    let names : list_all is_name (path ++ name ∷ []) ≡ true =
    list_all-append is_name path (name ∷ [])
    ∙ and_from (list_all is_name path) (is_name name && true) (path_names path h) (and_from (is_name name) true k refl) in
    IsPath-from (path ++ name ∷ []) names (omega (arith, length_push_text path name))

-- too long a text, or no name
pub not_path-push : (path : Names) (name : Name) → (4095 < length (names_text path) + 1 + length name) ⊎ (is_name name ≡ false)
    → is_path (path ++ name ∷ []) ≡ false
not_path-push path name bad =
    false_from_ne_true
    (is_path (path ++ name ∷ []))
    (λ is.
    ⊎_elim
    (λ long. omega (arith, path_bytes (path ++ name ∷ []) is, length_push_text path name))
    (λ no.
    let names : (list_all is_name path && (is_name name && true)) ≡ true =
    sym (list_all-append is_name path (name ∷ [])) ∙ path_names (path ++ name ∷ []) is in
    both_ways (is_name name) no (and_parts (is_name name) true (and_parts (list_all is_name path) (is_name name && true) names).1).0)
    bad)

pub ends_push : (path : Names) (name : Name) (ends : List ℕ) (end : ℕ) → ends ≡ ends_from 0 path
    → end ≡ length (names_text path) + 1 + length name → ends ++ end ∷ [] ≡ ends_from 0 (path ++ name ∷ [])
ends_push path name ends end h e =
    ap (λ (x : List ℕ). x ++ end ∷ []) h
    ∙ ap (λ (x : ℕ). ends_from 0 path ++ x ∷ [])
    (e ∙ sym (length_push_text path name) ∙ sym (zero-add (length (names_text (path ++ name ∷ [])))))
    ∙ sym (ends_from-push 0 path name)
