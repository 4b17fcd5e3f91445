-- The fronts of a path that were met, what a row behind all others does to them, and what the walk takes off before it.
use Rattle.std.proofs.Common.{◌≡◌, ℕ, zero, suc, ◌+◌, ◌-◌, ◌<◌, ◌≤◌, Bool, true, false, ◌&&◌, cond, List, [], ◌∷◌, ◌++◌, length, take, get_or, map as map_list, reverse, Option, Some, None, is_some, refl, sym, ap, subst, ◌∙◌, true≢false, arith, ltb, eqb, ◌⊎◌, inl, inr, ⊎_elim, min}
use Rattle.std.specs.Prelude.{find, option_and_then, unwrap_or}
use Rattle.std.specs.Option.{option_map, option_to_list}
use Rattle.std.specs.List.{cons_option}
use Rattle.std.specs.Ordering.{is_le, is_lt, is_gt}
use Rattle.std.specs.declared.cmp.Ordering.TheVariants.{Equal}
use Rattle.std.proofs.lemmas.Bool.{cases_lt, false_from_ne_true, ltb-true, ltb-false, eq-eqb, ne_eqb}
use Rattle.std.proofs.lemmas.Bool.Decides.{nat_tests}
use Rattle.std.proofs.lemmas.List.{append-nil, append_assoc, reverse-append, length_push, get_or_push, get_or_append_left, take_all, take-take, length-take-le, map_push, same_from_push}
use Rattle.std.proofs.lemmas.List.Folds.{Any-from_list_any, list_any_at}
use Rattle.std.proofs.lemmas.List.Elements.{filter_map-append}
use Rattle.std.proofs.lemmas.List.Sorted.{sorted_far, ranks_by, IsPermutation-reverse, list_any-IsPermutation}
use Rattle.std.proofs.lemmas.Option.{slice_get-get_or}
use Rattle.cg_cgroup.specs.Paths.{Names, path_cmp, same_path, inside, common}
use Rattle.cg_cgroup.specs.Files.{no_controllers}
use Rattle.cg_cgroup.specs.declared.controllers.ControllerSet.{ControllerSet}
use Rattle.cg_cgroup.specs.declared.cgroup.Cgroup.{Cgroup}
use Rattle.cg_cgroup.specs.declared.told.ToldFiles.{ToldFiles}
use Rattle.cg_cgroup.proofs.Options.{none_value}
use Rattle.cg_cgroup.proofs.PathOrder.{path_cmp_total, path_cmp-IsAntisymmetric, same_path-is, same_path_refl, same_path_comm, same_path-not}
use Rattle.cg_cgroup.proofs.PathParents.{inside-take}
use Rattle.cg_cgroup.proofs.PathLaws.{inside_between, inside-length, common-longest, common-take, common-take_first, common-inside_second}
use Rattle.cg_text.specs.declared.tree.walk.Walk.{Walk}
use Rattle.cg_text.specs.Walk.{HasMet, HasTested, has_met, enabled_by, over_in, over_at, fitted_to, entries_from, told_here, told_from, last_of, front_at, fronts_below, met_at, fronts_above, fronts, is_front, AreInOrder, IsNext}
use Rattle.cg_text.specs.declared.tree.row.Row.{Row}
use Rattle.cg_text.specs.declared.tree.walk.Above.{Above}
use Rattle.cg_format.proofs.Cuts.{not_empty, is_some-find}

-- ---- rows in order

-- the first isn't behind the second
abbrev pub IsUpTo : Names → Names → Type 0
IsUpTo p q = is_gt (path_cmp p q) ≡ false

-- what isn't less, the other way, isn't greater
not_greater : (p q : Names) → is_lt (path_cmp q p) ≡ false → IsUpTo p q
not_greater p q h = grind (arith, path_cmp_total.antisymm p q)

-- what isn't greater isn't less, the other way
pub not_less : (p q : Names) → is_le (path_cmp p q) ≡ true → is_lt (path_cmp q p) ≡ false
not_less p q h = grind (arith, path_cmp_total.antisymm q p)

-- what is neither greater than the other is the same
not_apart : (p q : Names) → IsUpTo p q → IsUpTo q p → p ≡ q
not_apart p q h k =
    let e : path_cmp p q ≡ Equal = grind (arith, path_cmp_total.antisymm p q) in
    path_cmp-IsAntisymmetric p q e

pub rows_rise : (rows : List Row) → AreInOrder rows → (i j : ℕ) (d : Row) → i ≤ j → j < length rows
    → IsUpTo (get_or rows i d).path (get_or rows j d).path
rows_rise rows order i j d l m =
    let before = λ (x : Row) (y : Row). is_lt (path_cmp x.path y.path) in
    let ranks = ranks_by path_cmp_total (λ (row : Row). row.path) in
    not_greater (get_or rows i d).path (get_or rows j d).path (sorted_far before ranks rows order i j d l m)

-- rows in order are so without the last
pub order_front : (rows : List Row) (row : Row) → AreInOrder (rows ++ row ∷ []) → AreInOrder rows
order_front rows row order k d l m =
    let n = length_push rows row in
    let one = get_or_append_left rows (row ∷ []) d k (omega arith) in
    let two = get_or_append_left rows (row ∷ []) d (k + 1) m in
    sym (λ i. is_lt (path_cmp (two i).path (one i).path)) ∙ order k d l (omega arith)

abbrev path_of : Row → Names
path_of row = row.path

-- each path that was met is that of the last row or comes before it
pub met_before : (rows : List Row) (last : Row) (path : Names) → AreInOrder (rows ++ last ∷ []) → has_met (rows ++ last ∷ []) path ≡ true
    → IsUpTo path last.path
met_before rows last path order met =
    let all = rows ++ last ∷ [] in
    let found = Any-from_list_any (λ (row : Row). same_path path row.path) all met in
    let n = length_push rows last in
    let rises = rows_rise all order found.0 (length rows) found.1 (omega arith) (omega arith) in
    let there : (get_or all found.0 found.1).path ≡ path = ap path_of found.3 ∙ sym (same_path-is path found.1.path found.4) in
    let here : (get_or all (length rows) found.1).path ≡ last.path = ap path_of (get_or_push rows last found.1 (length rows) refl) in
    sym (λ i. is_gt (path_cmp (there i) (here i))) ∙ rises

-- the last row but one comes before the last, or has its path
pub last_before : (rows : List Row) (last row : Row) → AreInOrder ((rows ++ last ∷ []) ++ row ∷ []) → IsUpTo last.path row.path
last_before rows last row order =
    let front = rows ++ last ∷ [] in
    let m = length_push rows last in
    let n = length_push front row in
    let rises = rows_rise (front ++ row ∷ []) order (length rows) (length rows + 1) row (omega arith) (omega arith) in
    let within = get_or_append_left front (row ∷ []) row (length rows) (omega arith) in
    let there : get_or (front ++ row ∷ []) (length rows) row ≡ last = within ∙ get_or_push rows last row (length rows) refl in
    let here : get_or (front ++ row ∷ []) (length rows + 1) row ≡ row = get_or_push front row row (length rows + 1) m in
    sym (λ i. is_gt (path_cmp (there i).path (here i).path)) ∙ rises

-- a row's path was met exactly where it is that of the row before
pub met_last : (rows : List Row) (last row : Row) → AreInOrder ((rows ++ last ∷ []) ++ row ∷ [])
    → same_path last.path row.path ≡ has_met (rows ++ last ∷ []) row.path
met_last rows last row order =
    elim (same_path last.path row.path) as (λ b. same_path last.path row.path ≡ b → b ≡ has_met (rows ++ last ∷ []) row.path) [
      | true ↦ λ e.
          let n = length_push rows last in
          let is_same = λ (other : Row). same_path row.path other.path in
          let here = ap is_same (get_or_push rows last last (length rows) refl) ∙ same_path_comm row.path last.path ∙ e in
          sym (list_any_at is_same (rows ++ last ∷ []) (length rows) last (omega arith) here)
      | false ↦ λ e.
          sym (false_from_ne_true (has_met (rows ++ last ∷ []) row.path) (λ met.
          let before = met_before rows last row.path (order_front (rows ++ last ∷ []) row order) met in
          let is = not_apart last.path row.path (last_before rows last row order) before in
          true≢false (sym (same_path_refl last.path) ∙ ap (same_path last.path) is ∙ e)))
    ] refl

-- ---- what a path enables

abbrev enabled_in : Option Row → Option ControllerSet
enabled_in found = option_map (λ (row : Row). row.cgroup.enabled) found

-- a path that wasn't met enables nothing
pub enabled_unmet : (met : List Row) (path : Names) → has_met met path ≡ false → enabled_by met path ≡ None
enabled_unmet met path unmet =
    let test = λ (row : Row). same_path path row.path in
    let turned = list_any-IsPermutation test met (reverse met) (IsPermutation-reverse met) in
    ap enabled_in (none_value (find test (reverse met)) (is_some-find test (reverse met) ∙ sym turned ∙ unmet))

-- one more row is asked first
pub enabled_push : (met : List Row) (row : Row) (path : Names)
    → enabled_by (met ++ row ∷ []) path ≡ cond (same_path path row.path) (Some row.cgroup.enabled) (enabled_by met path)
enabled_push met row path =
    let found = find (λ (row : Row). same_path path row.path) in
    ap (λ (rows : List Row). enabled_in (found rows)) (reverse-append met (row ∷ []))
    ∙ split (same_path path row.path) (found (reverse met))
  where
    split : (b : Bool) (rest : Option Row) → enabled_in (cond b (Some row) rest) ≡ cond b (Some row.cgroup.enabled) (enabled_in rest)
    split true rest = refl
    split false rest = refl

-- ---- fronts by the number of their names

fronts_same : (at other : ℕ → Option ControllerSet) (len : ℕ) → ((k : ℕ) → k < len → at k ≡ other k)
    → fronts_below at len ≡ fronts_below other len
fronts_same at other zero same = refl
fronts_same at other (suc len) same =
    let front = fronts_same at other len (λ k l. same k (omega arith)) in
    let here = same len (omega arith) in
    λ i. front i ++ front_at len (here i)

-- where nothing was met there are no more
fronts_until : (at : ℕ → Option ControllerSet) (low high : ℕ) → low ≤ high → ((k : ℕ) → low ≤ k → k < high → at k ≡ None)
    → fronts_below at high ≡ fronts_below at low
fronts_until at low zero l none = let is : 0 ≡ low = omega arith in ap (fronts_below at) is
fronts_until at low (suc high) l none =
    ⊎_elim
    (λ less.
    ap (λ (here : Option ControllerSet). fronts_below at high ++ front_at high here) (none high (omega arith) (omega arith))
    ∙ append-nil (fronts_below at high)
    ∙ fronts_until at low high (omega arith) (λ k m n. none k m (omega arith)))
    (λ more. let is : suc high ≡ low = omega arith in ap (fronts_below at) is)
    (cases_lt low (suc high))

-- the fronts of a row behind all others: those of fewer names, and its own
pub fronts_step : (met : List Row) (row : Row)
    → fronts (met ++ row ∷ []) row.path ≡ fronts_above met row.path ++ record { len = length row.path; enabled = row.cgroup.enabled } ∷ []
fronts_step met row =
    let len = length row.path in
    let own : met_at (met ++ row ∷ []) row.path len ≡ Some row.cgroup.enabled =
    ap (enabled_by (met ++ row ∷ [])) (take_all len row.path (omega arith)) ∙ enabled_push met row row.path
    ∙ ap (λ (b : Bool). cond b (Some row.cgroup.enabled) (enabled_by met row.path)) (same_path_refl row.path) in
    let front = fronts_same (met_at (met ++ row ∷ []) row.path) (met_at met row.path) len (λ k l.
    let other = same_path-not (take k row.path) row.path
    (λ e. absurd (omega (arith, ap length e, length-take-le k row.path (omega arith)))) in
    enabled_push met row (take k row.path)
    ∙ ap (λ (b : Bool). cond b (Some row.cgroup.enabled) (enabled_by met (take k row.path))) other) in
    λ i. front i ++ front_at len (own i)

-- ---- the last of the fronts

pub last_push : {X : Type 0} (xs : List X) (x : X) → last_of (xs ++ x ∷ []) ≡ Some x
last_push xs x =
    let n = length_push xs x in
    let at = length (xs ++ x ∷ []) - 1 in
    slice_get-get_or (xs ++ x ∷ []) at x (omega arith) ∙ ap Some (get_or_push xs x x at (omega arith))

abbrev top_len : ℕ → Option Above → ℕ
top_len default None = default
top_len default (Some top) = top.len

last_below : (at : ℕ → Option ControllerSet) (len : ℕ) (top : Above) → last_of (fronts_below at len) ≡ Some top → top.len < len
last_below at zero top e = absurd (true≢false (ap is_some (sym e)))
last_below at (suc len) top e =
    elim (at len) as (λ here. last_of (fronts_below at len ++ front_at len here) ≡ Some top → top.len < suc len) [
      | None ↦ λ f. omega (arith, last_below at len top (ap last_of (sym (append-nil (fronts_below at len))) ∙ f))
      | Some enabled ↦ λ f.
          let own : Above = record { len = len; enabled = enabled } in
          let is : Some own ≡ Some top = sym (last_push (fronts_below at len) own) ∙ f in
          omega (arith, ap (top_len 0) is)
    ] e

-- what the last of those of up to so many names enables, where it is of so many
abbrev enabled_at : ℕ → Option Above → Option ControllerSet
enabled_at len last = option_and_then (λ (top : Above). cond (eqb top.len len) (Some top.enabled) None) last

over_below : (at : ℕ → Option ControllerSet) (len : ℕ) → enabled_at len (last_of (fronts_below at (suc len))) ≡ at len
over_below at len =
    elim (at len) as (λ here. enabled_at len (last_of (fronts_below at len ++ front_at len here)) ≡ here) [
      | None ↦
          ap (λ xs. enabled_at len (last_of xs)) (append-nil (fronts_below at len))
          ∙ none (last_of (fronts_below at len)) (last_below at len)
      | Some enabled ↦
          ap (enabled_at len) (last_push (fronts_below at len) (record { len = len; enabled = enabled }))
          ∙ ap (λ (b : Bool). cond b (Some enabled) None) (eq-eqb len len refl)
    ]
  where
    none : (last : Option Above) → ((top : Above) → last ≡ Some top → top.len < len) → enabled_at len last ≡ None
    none None less = refl
    none (Some top) less =
        ap (λ (b : Bool). cond b (Some top.enabled) None) (ne_eqb top.len len (λ e. absurd (omega (arith, less top refl))))

-- what the walk has over a path
pub over_fronts : (met : List Row) (path : Names) → over_at (fronts_above met path) (length path) ≡ over_in no_controllers met path
over_fronts met [] = refl
over_fronts met (name ∷ names) =
    let path = name ∷ names in
    let len = length names in
    let one : suc len - 1 ≡ len = omega arith in
    let rest = enabled_at (suc len - 1) (last_of (fronts_above met path)) in
    ap (λ (b : Bool). cond b (Some no_controllers) rest) (ne_eqb (suc len) 0 (λ e. absurd (omega arith)))
    ∙ ap (λ (n : ℕ). enabled_at n (last_of (fronts_above met path))) one
    ∙ over_below (met_at met path) len
    ∙ ap (λ (n : ℕ). enabled_by met (take n path)) (sym one)

-- ---- what the walk takes off before a path

-- the last path isn't inside a front of a path that they don't share
not_shared : (path last : Names) (k : ℕ) → k < length path → length (common path last) < k → inside (take k path) last ≡ false
not_shared path last k l m =
    false_from_ne_true (inside (take k path) last) (λ e.
    let within = common-longest (take k path) path last (inside-take k path) e in
    absurd (omega (arith, inside-length (take k path) (common path last) within, length-take-le k path (omega arith))))

shared_front : (path last : Names) (k : ℕ) → k ≤ length (common path last) → take k path ≡ take k last
shared_front path last k l =
    let n = length (common path last) in
    sym (take-take k n path l) ∙ ap (take k) (sym (common-take_first path last) ∙ common-take path last) ∙ take-take k n last l

-- How many first names of a path are looked at: those that it shares with the last path, and one more, but fewer than it has.
abbrev pub looked_at : Names → Names → ℕ
looked_at path last = min (length path) (length (common path last) + 1)

below_both : (k m n : ℕ) (b : Bool) → (k < n → b ≡ true) → (k < m → n ≤ k → b ≡ false) → (ltb k m && b) ≡ ltb k (min m n)
below_both k m n b shared apart = grind (arith, nat_tests)

holds_is : (path last : Names) (k : ℕ) → (ltb k (length path) && inside (take k path) last) ≡ ltb k (looked_at path last)
holds_is path last k =
    below_both k (length path) (length (common path last) + 1) (inside (take k path) last)
    (λ shared. ap (λ (p : Names). inside p last) (shared_front path last k (omega arith)) ∙ inside-take k last)
    (λ less more. not_shared path last k less (omega arith))

-- no front of the next path was met that isn't one of the last
none_beyond : (rows : List Row) (last row : Row) (k : ℕ) → AreInOrder ((rows ++ last ∷ []) ++ row ∷ []) → k < length row.path
    → length (common row.path last.path) < k → met_at (rows ++ last ∷ []) row.path k ≡ None
none_beyond rows last row k order less more =
    let front = take k row.path in
    enabled_unmet (rows ++ last ∷ []) front (false_from_ne_true (has_met (rows ++ last ∷ []) front) (λ met.
    let before = met_before rows last front (order_front (rows ++ last ∷ []) row order) met in
    let within = inside_between front last.path row.path before (last_before rows last row order) (inside-take k row.path) in
    true≢false (sym within ∙ not_shared row.path last.path k less more)))

-- the fronts of the next path are those of the last that it shares
next_fronts : (rows : List Row) (last row : Row) → AreInOrder ((rows ++ last ∷ []) ++ row ∷ [])
    → fronts_below (met_at (rows ++ last ∷ []) last.path) (looked_at row.path last.path) ≡ fronts_above (rows ++ last ∷ []) row.path
next_fronts rows last row order =
    let met = rows ++ last ∷ [] in
    let bound = looked_at row.path last.path in
    fronts_same (met_at met last.path) (met_at met row.path) bound
    (λ k l. ap (enabled_by met) (sym (shared_front row.path last.path k (omega arith))))
    ∙ sym (fronts_until (met_at met row.path) bound (length row.path) (omega arith)
    (λ k l m. none_beyond rows last row k order m (omega arith)))

-- ---- taking the last off

-- leaves those of fewer names
one_less : (at : ℕ → Option ControllerSet) (k : ℕ) (next : List Above) (top : Above) → fronts_below at k ≡ next ++ top ∷ []
    → next ≡ fronts_below at top.len
one_less at zero next top is = absurd (not_empty next top [] (sym is))
one_less at (suc k) next top is =
    elim (at k) as (λ here. fronts_below at k ++ front_at k here ≡ next ++ top ∷ [] → next ≡ fronts_below at top.len) [
      | None ↦ λ is. one_less at k next top (sym (append-nil (fronts_below at k)) ∙ is)
      | Some enabled ↦ λ is.
          let parts = same_from_push (fronts_below at k) next (record { len = k; enabled = enabled }) top is in
          sym parts.0 ∙ ap (λ (top : Above). fronts_below at top.len) parts.1
    ] is

-- where the last has fewer names, so have all
all_less : (at : ℕ → Option ControllerSet) (bound k : ℕ) → bound ≤ k
    → ((top : Above) → last_of (fronts_below at k) ≡ Some top → top.len < bound) → fronts_below at k ≡ fronts_below at bound
all_less at bound zero low less = let is : 0 ≡ bound = omega arith in ap (fronts_below at) is
all_less at bound (suc k) low less =
    ⊎_elim
    (λ (inside : bound < suc k).
    elim (at k) as (λ here. ((top : Above) → last_of (fronts_below at k ++ front_at k here) ≡ Some top → top.len < bound)
    → fronts_below at k ++ front_at k here ≡ fronts_below at bound) [
      | None ↦ λ less.
          append-nil (fronts_below at k)
          ∙ all_less at bound k (omega arith) (λ top is. less top (ap last_of (append-nil (fronts_below at k)) ∙ is))
      | Some enabled ↦ λ less.
          let own : Above = record { len = k; enabled = enabled } in
          absurd (omega (arith, less own (last_push (fronts_below at k) own)))
    ] less)
    (λ (whole : suc k ≤ bound). let is : suc k ≡ bound = omega arith in ap (fronts_below at) is)
    (cases_lt bound (suc k))

ended : {X : Type 0} (xs : List X) → (xs ≡ []) ⊎ ((front : List X) × (last : X) × (xs ≡ front ++ last ∷ []))
ended [] = inl refl
ended (x ∷ xs) =
    inr (elim (ended xs) [
      | inl e ↦ ([], x, ap (λ ys. x ∷ ys) e)
      | inr w ↦ (x ∷ w.0, w.1, ap (λ ys. x ∷ ys) w.2)
    ])

-- ---- the walk's entries

abbrev entry_from : List Row → Row → Names × Cgroup
entry_from met row = (row.path, fitted_to (unwrap_or (over_in no_controllers met row.path) no_controllers) row.cgroup)

entries_behind : (met rows : List Row) (row : Row)
    → entries_from met (rows ++ row ∷ []) ≡ entries_from met rows ++ entry_from (met ++ rows) row ∷ []
entries_behind met [] row = ap (λ (rows : List Row). entry_from rows row ∷ []) (sym (append-nil met))
entries_behind met (x ∷ rows) row =
    let others = entries_from (met ++ x ∷ []) rows in
    ap (λ es. entry_from met x ∷ es) (entries_behind (met ++ x ∷ []) rows row)
    ∙ ap (λ (xs : List Row). entry_from met x ∷ (others ++ entry_from xs row ∷ [])) (append_assoc met (x ∷ []) rows)

-- a row behind all others has its entry behind theirs
pub entries_push : (met : List Row) (row : Row)
    → entries_from [] (met ++ row ∷ [])
    ≡ entries_from [] met ++ (row.path, fitted_to (unwrap_or (over_in no_controllers met row.path) no_controllers) row.cgroup) ∷ []
entries_push met row = entries_behind [] met row

-- a row behind all others is told of behind them
pub told_push : (met : List Row) (row : Row) → told_from (met ++ row ∷ []) ≡ told_from met ++ option_to_list (told_here row)
told_push met row =
    filter_map-append told_here met (row ∷ []) ∙ ap (λ last. told_from met ++ last) (of_one (told_here row))
  where
    of_one : (here : Option (Names × ToldFiles)) → cons_option here [] ≡ option_to_list here
    of_one None = refl
    of_one (Some files) = refl

fronts_none : (path : Names) → fronts_above [] path ≡ []
fronts_none path = fronts_until (met_at [] path) 0 (length path) (omega arith) (λ k l m. refl)

-- the last entry is the last row's
pub last_entry : (rows : List Row) (last : Row) → last_of (entries_from [] (rows ++ last ∷ [])) ≡ Some (entry_from rows last)
last_entry rows last = ap last_of (entries_push rows last) ∙ last_push (entries_from [] rows) (entry_from rows last)

-- a next path was met exactly where the last entry has it
pub met_by_last : (entries : List (Names × Cgroup)) (met : List Row) (row : Row) → entries ≡ entries_from [] met → IsNext met row
    → elim (last_of entries) [ None ↦ false | Some last ↦ same_path last.0 row.path ] ≡ has_met met row.path
met_by_last entries met row are order =
    let of_last : Option (Names × Cgroup) → Bool = λ o. elim o [ None ↦ false | Some last ↦ same_path last.0 row.path ] in
    let of_met : List Row → Option (Names × Cgroup) = λ rows. last_of (entries_from [] rows) in
    ap (λ es. of_last (last_of es)) are
    ∙ elim (ended met) [
      | inl e ↦ ap (λ (rows : List Row). of_last (of_met rows)) e ∙ sym (ap (λ (rows : List Row). has_met rows row.path) e)
      | inr w ↦
          ap (λ (rows : List Row). of_last (of_met rows)) w.2 ∙ ap of_last (last_entry w.0 w.1)
          ∙ met_last w.0 w.1 row (subst (λ (rows : List Row). AreInOrder (rows ++ row ∷ [])) w.2 order)
          ∙ ap (λ (rows : List Row). has_met rows row.path) (sym w.2)
    ]

-- ---- the walk's leaving

abbrev pub paths_in : List (Names × Cgroup) → List Names
paths_in entries = map_list (λ entry. entry.0) entries

last_path : (entries : List (Names × Cgroup)) (met rows : List Row) (last : Row) → entries ≡ entries_from [] met → met ≡ rows ++ last ∷ []
    → last_of (paths_in entries) ≡ Some last.path
last_path entries met rows last are is =
    ap (λ es. last_of (paths_in es)) (are ∙ ap (entries_from []) is ∙ entries_push rows last)
    ∙ ap last_of (map_push (λ (entry : Names × Cgroup). entry.0) (entries_from [] rows) (entry_from rows last))
    ∙ last_push (paths_in (entries_from [] rows)) last.path

-- what is above while cgroups are taken off: fronts of the last path, of all numbers of names that are looked at
pub record AreFronts (met : List Row) (path : Names) (above : List Above) : Type 0 where
  pub none : met ≡ [] → above ≡ []
  pub some : (rows : List Row) (last : Row) → met ≡ rows ++ last ∷ []
      → (k : ℕ) × (looked_at path last.path ≤ k) × (above ≡ fronts_below (met_at met last.path) k)

pub fronts_first : (controllers : ControllerSet) (met : List Row) (old : Walk) (path : Names) → HasMet controllers met old
    → AreFronts met path old.above.items
fronts_first controllers met old path has = record {
  none = has.none;
  some = λ rows last e.
      let within = inside-length (common path last.path) last.path (common-inside_second path last.path) in
      (suc (length last.path), omega arith, has.above last rows e);
}

module _ (controllers : ControllerSet) (met : List Row) (path : Names) (old : Walk) (has : HasMet controllers met old) (stays : List Above)
    (are : AreFronts met path stays) where
  abbrev paths : List Names
  paths = paths_in old.entries.items

  front_is : (rows : List Row) (last : Row) → met ≡ rows ++ last ∷ [] → (top : Above) → last_of stays ≡ Some top
      → is_front stays paths path ≡ ltb top.len (looked_at path last.path)
  front_is rows last e top is =
      rw (is, last_path old.entries.items met rows last has.entries e, is_front) (holds_is path last.path top.len)

  -- one more is taken off, which doesn't hold the next path
  pub fronts_more : (next : List Above) (taken : Option Above) → is_front stays paths path ≡ false → stays ≡ next ++ option_to_list taken
      → AreFronts met path next
  fronts_more next None other popped = subst (AreFronts met path) (popped ∙ append-nil next) are
  fronts_more next (Some top) other popped = record {
    none = λ e. absurd (not_empty next top [] (sym popped ∙ are.none e));
    some = λ rows last e.
        let had = are.some rows last e in
        let front = front_is rows last e top (ap last_of popped ∙ last_push next top) in (
          top.len,
          ltb-false top.len (looked_at path last.path) (sym front ∙ other),
          one_less (met_at met last.path) had.0 next top (sym had.2 ∙ popped),
        );
  }

  -- what stays above once no more is taken off
  pub leaves : (row : Row) → IsNext met row → row.path ≡ path
      → ((top : Above) → last_of stays ≡ Some top → is_front stays paths path ≡ true) → stays ≡ fronts_above met path
  leaves row order is ends =
      elim (ended met) [
        | inl e ↦ are.none e ∙ sym (ap (λ (rows : List Row). fronts_above rows path) e ∙ fronts_none path)
        | inr w ↦
            let last : Row = w.1 in
            let had = are.some w.0 last w.2 in
            let order = subst (λ (rows : List Row). AreInOrder (rows ++ row ∷ [])) w.2 order in
            had.2
            ∙ all_less (met_at met last.path) (looked_at path last.path) had.0 had.1 (λ top at.
            let top_is = ap last_of had.2 ∙ at in
            ltb-true top.len (looked_at path last.path) (sym (front_is w.0 last w.2 top top_is) ∙ ends top top_is))
            ∙ subst (λ (path : Names). fronts_below (met_at met last.path) (looked_at path last.path) ≡ fronts_above met path) is
            (subst (λ (met : List Row). fronts_below (met_at met last.path) (looked_at row.path last.path) ≡ fronts_above met row.path)
            (sym w.2) (next_fronts w.0 last row order))
      ]

-- ---- the walk's step

-- what is over a row, as the walk finds it
pub over_next : (met : List Row) (path : Names) (above : List Above) (len : ℕ) (over : Option ControllerSet)
    → above ≡ fronts_above met path → len ≡ length path → over ≡ over_at above len → over ≡ over_in no_controllers met path
over_next met path above len over are long is = is ∙ (λ i. over_at (are i) (long i)) ∙ over_fronts met path

-- how far the walk has come with a row that was tested behind those before
pub met_next : (controllers : ControllerSet) (met : List Row) (row : Row) (old new : Walk)
    (above : List Above) (len : ℕ) (over : Option ControllerSet)
    → HasMet controllers met old → above ≡ fronts_above met row.path → len ≡ length row.path → over ≡ over_in no_controllers met row.path
    → new.above.items ≡ above ++ record { len = len; enabled = row.cgroup.enabled } ∷ []
    → new.entries.items ≡ old.entries.items ++ (row.path, fitted_to (unwrap_or over no_controllers) row.cgroup) ∷ []
    → new.told.items ≡ old.told.items ++ option_to_list (told_here row)
    → HasTested controllers (met ++ row ∷ []) new.least
    → HasMet controllers (met ++ row ∷ []) new
met_next controllers met row old new above len over has are long known pushed_above pushed_entries pushed_told tested = record {
  entries =
      pushed_entries
      ∙ (λ i. has.entries i ++ (row.path, fitted_to (unwrap_or (known i) no_controllers) row.cgroup) ∷ [])
      ∙ sym (entries_push met row);
  told = pushed_told ∙ ap (λ told. told ++ option_to_list (told_here row)) has.told ∙ sym (told_push met row);
  none = λ e. absurd (omega (arith, ap length e, length_push met row));
  above = λ other rows e.
      pushed_above
      ∙ (λ i. are i ++ record { len = long i; enabled = row.cgroup.enabled } ∷ [])
      ∙ sym (fronts_step met row)
      ∙ ap (λ (r : Row). fronts (met ++ row ∷ []) r.path) (same_from_push met rows row other e).1;
  tested = tested;
}
