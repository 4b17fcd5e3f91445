-- A table under the texts of paths is a map from paths.
use Rattle.std.proofs.Common.{◌≡◌, ℕ, ◌+◌, ◌≤◌, length, arith, Bool, true, false, cond, List, [], ◌∷◌, map as map_list, Some, None, Option, Less, Equal, Greater, is_some, string_bytes, String, refl, sym, ap, ◌∙◌, subst, true≢false}
use Rattle.std.specs.List.{AllByRecursion, AllZip}
use Rattle.std.specs.Map.{lookup, remove_entry}
use Rattle.std.specs.Str.{bytes_eq}
use Rattle.std.specs.BTreeMap.{is_at, insert_entry}
use Rattle.std.specs.Ordering.{nat_cmp, is_eq, match_ordering, eq_by_cmp}
use Rattle.std.specs.String.{string_cmp}
use Rattle.std.specs.Cmp.Lexicographic.{slice_cmp}
use Rattle.std.proofs.lemmas.Map.Text.{is_eq-slice_cmp}
use Rattle.std.proofs.lemmas.Slice.Eq.{bytes_eq-Decides}
use Rattle.std.proofs.lemmas.Bool.Decides.{same_from_decides}
use Rattle.std.proofs.lemmas.List.Elements.{recursion_from_All, All-from_recursion}
use Rattle.std.specs.FinMap as map
use Rattle.std.specs.FinMap.{FinMap, find}
use Rattle.std.specs.declared.alloc.Global.{Global}
use Rattle.cg_cgroup.specs.Paths.{Names, path_cmp, same_path, path_text, names_at, is_path, IsPath}
use Rattle.cg_cgroup.proofs.PathOrder.{path_cmp_total, path_cmp-IsAntisymmetric, same_path-ties, same_path_decides}
use Rattle.cg_cgroup.proofs.PathAt.{path_at-text}
use Rattle.cg_cgroup.proofs.Options.{same_some}
use Rattle.cg_cgroup.proofs.PathLaws.{path_text-injective}
use Rattle.cg_places.specs.TextKeys.{number_of, numbers_of, IsText, HasText, AreTexts}

-- the number under a text
abbrev pub number_at : List (String Global × ℕ) → List ℕ → Option ℕ
number_at es text = lookup (is_at (λ k. slice_cmp nat_cmp text (string_bytes k))) es

same_key : (q : Names) (t : List ℕ) → IsPath q → IsText t → eq_by_cmp path_cmp q (names_at t) ≡ bytes_eq (path_text q) t
same_key q t h is =
    sym (same_path-ties q (names_at t))
    ∙ same_from_decides (same_path q (names_at t)) (bytes_eq (path_text q) t) (same_path_decides q (names_at t)) (
      (λ e. path_text-injective q (names_at t) h is.path ((bytes_eq-Decides (path_text q) t).0 e ∙ sym is.same)),
      (λ e. (bytes_eq-Decides (path_text q) t).1 (ap path_text e ∙ is.same)),
    )

-- a list that is no path is none of those that texts are of
other_key : (q : Names) (t : List ℕ) → is_path q ≡ false → IsText t → eq_by_cmp path_cmp q (names_at t) ≡ false
other_key q t h is =
    elim (eq_by_cmp path_cmp q (names_at t)) as (λ b. eq_by_cmp path_cmp q (names_at t) ≡ b → b ≡ false) [
      | true ↦
          λ e. absurd
          (true≢false (sym (subst IsPath (sym ((same_path_decides q (names_at t)).0 (same_path-ties q (names_at t) ∙ e))) is.path) ∙ h))
      | false ↦ λ e. refl
    ] refl

pub find-texts : (q : Names) (es : List (String Global × ℕ)) → IsPath q → AllByRecursion HasText es
    → find path_cmp q (map_list number_of es) ≡ number_at es (path_text q)
find-texts q [] h are = refl
find-texts q (e ∷ es) h are =
    ap (λ b. cond b (Some e.1) (find path_cmp q (map_list number_of es)))
    (same_key q (string_bytes e.0) h are.0 ∙ sym (is_eq-slice_cmp (path_text q) (string_bytes e.0)))
    ∙ ap (cond (is_eq (slice_cmp nat_cmp (path_text q) (string_bytes e.0))) (Some e.1)) (find-texts q es h are.1)

find-none : (q : Names) (es : List (String Global × ℕ)) → is_path q ≡ false → AllByRecursion HasText es
    → find path_cmp q (map_list number_of es) ≡ None
find-none q [] h are = refl
find-none q (e ∷ es) h are =
    ap (λ b. cond b (Some e.1) (find path_cmp q (map_list number_of es))) (other_key q (string_bytes e.0) h are.0) ∙ find-none q es h are.1

pub get-numbers : (q : Names) (es : List (String Global × ℕ)) → IsPath q → AreTexts es
    → map.get (numbers_of es) q ≡ number_at es (path_text q)
get-numbers q es h are =
    map.get-from_entries path_cmp_total (map_list number_of es) q ∙ find-texts q es h (recursion_from_All HasText es are)

get-numbers-none : (q : Names) (es : List (String Global × ℕ)) → is_path q ≡ false → AreTexts es → map.get (numbers_of es) q ≡ None
get-numbers-none q es h are =
    map.get-from_entries path_cmp_total (map_list number_of es) q ∙ find-none q es h (recursion_from_All HasText es are)

chosen : {A : Type 0} (b : Bool) (x y : A) → cond b (Some x) None ≡ Some y → x ≡ y
chosen true x y e = same_some x y e
chosen false x y e = absurd (true≢false (sym (ap is_some e)))

-- the text of a path is a path's text
pub text_is : (p : Names) → IsPath p → IsText (path_text p)
text_is p h =
    let names : names_at (path_text p) ≡ p = chosen _ _ _ (path_at-text p h) in
    record { path = subst IsPath (sym names) h; same = ap path_text names }

-- what is found under each text changes at one path alone
pub numbers_changed : (es fs : List (String Global × ℕ)) (p : Names) (w : Option ℕ) (m : FinMap path_cmp ℕ) → AreTexts es → AreTexts fs
    → IsPath p
    → ((text : List ℕ) → number_at fs text ≡ cond (bytes_eq (path_text p) text) w (number_at es text))
    → ((q : Names) → map.get m q ≡ cond (eq_by_cmp path_cmp q p) w (map.get (numbers_of es) q))
    → numbers_of fs ≡ m
numbers_changed es fs p w m are were h found has =
    map.same_map path_cmp_total path_cmp-IsAntisymmetric (numbers_of fs) m (λ q.
    elim (is_path q) as (λ b. is_path q ≡ b → map.get (numbers_of fs) q ≡ map.get m q) [
      | true ↦ λ k.
          get-numbers q fs k were ∙ found (path_text q)
          ∙ (λ i. cond (same_texts q k i) w (sym (get-numbers q es k are) i))
          ∙ sym (has q)
      | false ↦ λ k.
          get-numbers-none q fs k were ∙ sym (get-numbers-none q es k are)
          ∙ ap (λ b. cond b w (map.get (numbers_of es) q)) (sym (other q k)) ∙ sym (has q)
    ] refl)
  where
    same_texts : (q : Names) → IsPath q → bytes_eq (path_text p) (path_text q) ≡ eq_by_cmp path_cmp q p
    same_texts q k =
        same_from_decides (bytes_eq (path_text p) (path_text q)) (same_path q p) (
          (λ e. path_text-injective q p k h (sym ((bytes_eq-Decides (path_text p) (path_text q)).0 e))),
          (λ e. (bytes_eq-Decides (path_text p) (path_text q)).1 (sym (ap path_text e))),
        ) (same_path_decides q p)
        ∙ same_path-ties q p

    other : (q : Names) → is_path q ≡ false → eq_by_cmp path_cmp q p ≡ false
    other q k =
        elim (eq_by_cmp path_cmp q p) as (λ b. eq_by_cmp path_cmp q p ≡ b → b ≡ false) [
          | true ↦ λ e. absurd (true≢false (sym (subst IsPath (sym ((same_path_decides q p).0 (same_path-ties q p ∙ e))) h) ∙ k))
          | false ↦ λ e. refl
        ] refl

pub texts_added : (es : List (String Global × ℕ)) (k : String Global) (v : ℕ) (p : Names) → AreTexts es → IsPath p
    → string_bytes k ≡ path_text p → AreTexts (insert_entry string_cmp es k v)
texts_added es k v p are h is = All-from_recursion HasText _ (added es (recursion_from_All HasText es are))
  where
    added : (es : List (String Global × ℕ)) → AllByRecursion HasText es → AllByRecursion HasText (insert_entry string_cmp es k v)
    added [] are = (subst IsText (sym is) (text_is p h), tt)
    added (e ∷ es) are =
        elim (string_cmp k e.0) as
        (λ r. AllByRecursion HasText (match_ordering r ((k, v) ∷ e ∷ es) ((e.0, v) ∷ es) (e ∷ insert_entry string_cmp es k v))) [
          | Less ↦ (subst IsText (sym is) (text_is p h), are)
          | Equal ↦ are
          | Greater ↦ (are.0, added es are.1)
        ]

pub texts_removed : (es : List (String Global × ℕ)) (test : String Global → Bool) → AreTexts es → AreTexts (remove_entry test es)
texts_removed es test are = All-from_recursion HasText _ (removed es (recursion_from_All HasText es are))
  where
    removed : (es : List (String Global × ℕ)) → AllByRecursion HasText es → AllByRecursion HasText (remove_entry test es)
    removed [] are = are
    removed (e ∷ es) are =
        elim (test e.0) as (λ b. AllByRecursion HasText (cond b es (e ∷ remove_entry test es)))
        [ true ↦ are.1 | false ↦ (are.0, removed es are.1) ]

module _ (es fs : List (String Global × ℕ)) (m : FinMap path_cmp ℕ) (shows : numbers_of es ≡ m) (p : Names) (key : List ℕ)
    (is : key ≡ path_text p) (h : IsPath p) (are : AreTexts es) (were : AreTexts fs) where
  abbrev Changes : Option ℕ → Type 0
  Changes w = (text : List ℕ) → number_at fs text ≡ cond (bytes_eq key text) w (number_at es text)

  at_path : (w : Option ℕ) → Changes w → (text : List ℕ) → number_at fs text ≡ cond (bytes_eq (path_text p) text) w (number_at es text)
  at_path w changes text = changes text ∙ ap (λ t. cond (bytes_eq t text) w (number_at es text)) is

  pub numbers_put : (v : ℕ) → Changes (Some v) → numbers_of fs ≡ map.insert m p v
  numbers_put v changes =
      numbers_changed es fs p (Some v) (map.insert (numbers_of es) p v) are were h (at_path (Some v) changes)
      (λ q. map.get-insert path_cmp_total (numbers_of es) p v q) ∙ ap (λ m. map.insert m p v) shows

  pub numbers_without : Changes None → numbers_of fs ≡ map.remove m p
  numbers_without changes =
      numbers_changed es fs p None (map.remove (numbers_of es) p) are were h (at_path None changes)
      (λ q. map.get-remove path_cmp_total (numbers_of es) p q) ∙ ap (λ m. map.remove m p) shows

-- no more paths than entries
pub few_numbers : (es : List (String Global × ℕ)) → map.len (numbers_of es) ≤ length es
few_numbers [] = omega (arith, map.len-empty path_cmp ℕ)
few_numbers (e ∷ es) =
    let one = map.len-insert path_cmp_total (numbers_of es) (names_at (string_bytes e.0)) e.1 in
    let rest = few_numbers es in
    omega (arith, one, rest, most (map.contains_key (numbers_of es) (names_at (string_bytes e.0))) (map.len (numbers_of es)))
  where
    most : (b : Bool) (n : ℕ) → cond b n (n + 1) ≤ n + 1
    most true n = omega arith
    most false n = omega arith

-- ---- copies of the entries

abbrev Copied : List (String Global × ℕ) → List (String Global × ℕ) → Type 0
Copied es fs = AllZip (λ (e f : String Global × ℕ). (string_bytes f.0 ≡ string_bytes e.0) × (f.1 ≡ e.1)) es fs

pub numbers_copied : (es fs : List (String Global × ℕ)) → Copied es fs → map_list number_of fs ≡ map_list number_of es
numbers_copied [] [] same = refl
numbers_copied [] (f ∷ fs) same = absurd same
numbers_copied (e ∷ es) [] same = absurd same
numbers_copied (e ∷ es) (f ∷ fs) same = λ i. (names_at (same.0.0 i), same.0.1 i) ∷ numbers_copied es fs same.1 i

pub texts_copied : (es fs : List (String Global × ℕ)) → Copied es fs → AreTexts es → AreTexts fs
texts_copied es fs same are = All-from_recursion HasText fs (copied es fs same (recursion_from_All HasText es are))
  where
    copied : (es fs : List (String Global × ℕ)) → Copied es fs → AllByRecursion HasText es → AllByRecursion HasText fs
    copied [] [] same are = are
    copied [] (f ∷ fs) same are = absurd same
    copied (e ∷ es) [] same are = absurd same
    copied (e ∷ es) (f ∷ fs) same are = (subst IsText (sym same.0.0) are.0, copied es fs same.1 are.1)
