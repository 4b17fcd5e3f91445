-- Which text is a path's, and which path it is.
use Rattle.std.proofs.Common.{◌≡◌, ℕ, ◌<◌, ◌≤◌, Bool, true, false, cond, List, [], ◌∷◌, ◌++◌, length, drop, refl, ap, sym, ◌∙◌, subst, arith, Some, None, Option, ◌⊎◌, ⊎_elim}
use Rattle.std.specs.Prelude.{◌≢◌, ◌==◌, ◌&&◌}
use Rattle.std.specs.List.{list_all, slice_split, onto_first}
use Rattle.std.specs.Cmp.Lexicographic.{bytes_decides}
use Rattle.std.proofs.lemmas.Bool.{and_parts, and_from, eqb-true, cases_Bool, both_ways}
use Rattle.std.proofs.lemmas.List.Splits.{slice_split-cons_no, slice_split-cons_yes, length-slice_split}
use Rattle.cg_cgroup.specs.Paths.{Names, names_of, names_at, path_at, path_text, same_name, is_name, is_path, IsPath}
use Rattle.cg_cgroup.specs.PathText.{names_text}
use Rattle.cg_cgroup.proofs.PathEnds.{path_names, path_bytes, path_text-names}
use Rattle.cg_cgroup.proofs.PathNames.{names_of-text, IsPath-from}

-- the parts between slashes, each with a slash before it
onto_first-text : (b : ℕ) (parts : Names) (text : List ℕ) → names_text parts ≡ 47 ∷ text → names_text (onto_first b parts) ≡ 47 ∷ b ∷ text
onto_first-text b [] text h = cc
onto_first-text b (part ∷ parts) text h = ap (λ (x : List ℕ). 47 ∷ b ∷ drop 1 x) h

split-text : (text : List ℕ) → names_text (slice_split (λ b. b == 47) text) ≡ 47 ∷ text
split-text [] = refl
split-text (b ∷ text) =
    ⊎_elim
    (λ is. ap names_text (slice_split-cons_yes (λ b. b == 47) b text is) ∙ ap (λ (x : List ℕ). 47 ∷ x) (split-text text)
    ∙ ap (λ (x : ℕ). 47 ∷ x ∷ text) (sym (eqb-true b 47 is)))
    (λ not_is. ap names_text (slice_split-cons_no (λ b. b == 47) b text not_is)
    ∙ onto_first-text b (slice_split (λ b. b == 47) text) text (split-text text))
    (cases_Bool (b == 47))

pub path_at-is : (text : List ℕ) (path : Names) → path_at text ≡ Some path → IsPath path × (path_text path ≡ text)
path_at-is text path h =
    elim (is_path (names_at text) && same_name (path_text (names_at text)) text) as
    (λ t. (is_path (names_at text) && same_name (path_text (names_at text)) text) ≡ t → cond t (Some (names_at text)) None ≡ Some path
    → IsPath path × (path_text path ≡ text)) [
      | true ↦ λ e k. let n : names_at text ≡ path = cc in
          let both = and_parts (is_path (names_at text)) (same_name (path_text (names_at text)) text) e in
          (subst IsPath n both.0, ap path_text (sym n) ∙ (bytes_decides (path_text (names_at text)) text).0 both.1)
      | false ↦ λ e k. absurd (cc)
    ] refl h

names_at-text : (path : Names) → IsPath path → names_at (path_text path) ≡ path
names_at-text [] h = refl
names_at-text ([] ∷ path) h = absurd (cc)
names_at-text ((b ∷ name) ∷ path) h = names_of-text ((b ∷ name) ∷ path) (path_names ((b ∷ name) ∷ path) h)

pub path_at-text : (path : Names) → IsPath path → path_at (path_text path) ≡ Some path
path_at-text path h =
    let e = names_at-text path h in
    let t : (is_path (names_at (path_text path)) && same_name (path_text (names_at (path_text path))) (path_text path)) ≡ true =
    rw e
    (and_from (is_path path) (same_name (path_text path) (path_text path)) h ((bytes_decides (path_text path) (path_text path)).1 refl))
    in
    ap (λ (x : Bool). cond x (Some (names_at (path_text path))) None) t ∙ ap Some e

pub path_at-none : (text : List ℕ) (path : Names) → path_at text ≡ None → IsPath path → path_text path ≢ text
path_at-none text path none h e =
    let some : path_at text ≡ Some path = ap path_at (sym e) ∙ path_at-text path h in
    cc

pub path_at-some : (text : List ℕ) (path : Names) → path_at text ≡ Some path → path_at text ≢ None
path_at-some text path some none = cc

none-from : {X : Type 0} (o : Option X) → ((x : X) → o ≡ Some x → ⊥) → o ≡ None
none-from None h = refl
none-from (Some x) h = absurd (h x refl)

path_text-slash : (path : Names) (text : List ℕ) → path_text path ≡ text → (rest : List ℕ) × (text ≡ 47 ∷ rest)
path_text-slash [] text h = ([], sym h)
path_text-slash (name ∷ path) text h = (name ++ names_text path, sym h)

-- a text without a slash at its head is no path's
pub path_at-no_slash : (text : List ℕ) → ((rest : List ℕ) → text ≢ 47 ∷ rest) → path_at text ≡ None
path_at-no_slash text h =
    none-from (path_at text) (λ path e. let slash = path_text-slash path text (path_at-is text path e).1 in h slash.0 slash.1)

names_at-split : (rest : List ℕ) → 0 < length rest → names_at (47 ∷ rest) ≡ slice_split (λ b. b == 47) rest
names_at-split [] h = absurd (omega arith)
names_at-split (b ∷ rest) h = refl

split_long : (rest : List ℕ) → 0 < length (slice_split (λ b. b == 47) rest)
split_long rest = omega (arith, length-slice_split (λ b. b == 47) rest)

split-path_text : (rest : List ℕ) → path_text (slice_split (λ b. b == 47) rest) ≡ 47 ∷ rest
split-path_text rest = path_text-names (slice_split (λ b. b == 47) rest) (split_long rest) ∙ split-text rest

-- a text that is short enough and of names
pub path_at-found : (text rest : List ℕ) → text ≡ 47 ∷ rest → length text ≤ 4095 → list_all is_name (slice_split (λ b. b == 47) rest) ≡ true
    → IsPath (names_of text) × (names_text (names_of text) ≡ text) × (path_at text ≡ Some (names_of text))
path_at-found text rest e l h =
    let path = slice_split (λ (b : ℕ). b == 47) rest in
    let is : IsPath path = IsPath-from path h (omega (arith, ap length (split-text rest), ap length e)) in
    let found : path_at (47 ∷ rest) ≡ Some path = ap path_at (sym (split-path_text rest)) ∙ path_at-text path is in
    rw e (is, split-text rest, found)

-- a text that is too long, or with a part that is no name
pub path_at-bad : (text rest : List ℕ) → text ≡ 47 ∷ rest → 0 < length rest
    → (4095 < length text) ⊎ (list_all is_name (slice_split (λ b. b == 47) rest) ≡ false) → path_at text ≡ None
path_at-bad text rest e l bad =
    none-from
    (path_at text)
    (λ path is.
    let p = path_at-is text path is in
    let same : path ≡ slice_split (λ b. b == 47) rest = sym (names_at-text path p.0) ∙ ap names_at (p.1 ∙ e) ∙ names_at-split rest l in
    ⊎_elim (λ long. omega (arith, path_bytes path p.0, ap length (sym (path_text-names path (rw same (split_long rest))) ∙ p.1)))
    (λ no. both_ways _ no (rw (← same) (path_names path p.0))) bad)
