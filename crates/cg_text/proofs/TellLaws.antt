-- What the walk has told of further limit files, by rising paths, is what the tables tell.
use Rattle.std.proofs.Common.{◌≡◌, ℕ, ◌≤◌, ◌<◌, zero, suc, Bool, true, false, cond, List, [], ◌∷◌, length, get_or, Option, Some, None, is_lt, option_map, option_and_then, refl, sym, ap, ◌∙◌, arith}
use Rattle.std.specs.Prelude.{find}
use Rattle.std.specs.List.{list_any, cons_option}
use Rattle.std.specs.List.Sorted.{IsStableByKey}
use Rattle.std.specs.Map.{lookup}
use Rattle.std.specs.FinMap.Entries.{below_all, is_sorted}
use Rattle.std.proofs.lemmas.Bool.{and_from, or_parts}
use Rattle.std.proofs.lemmas.List.Sorted.{ranks_by, sorted_far}
use Rattle.toml.specs.Data.{Members}
use Rattle.cg_cgroup.specs.Paths.{Names, path_cmp, same_path}
use Rattle.cg_cgroup.specs.declared.controllers.ControllerSet.{ControllerSet}
use Rattle.cg_cgroup.specs.declared.told.ToldFiles.{ToldFiles}
use Rattle.cg_cgroup.proofs.PathOrder.{path_cmp_total, same_path-is}
use Rattle.cg_format.specs.Said.{has_path, told_row}
use Rattle.cg_format.specs.Tables.{AreToldOf}
use Rattle.cg_format.specs.declared.format.Format.{Format}
use Rattle.cg_format.proofs.Cuts.{head_of, find_filter}
use Rattle.cg_text.specs.Rows.{AreReadAs}
use Rattle.cg_text.specs.Walk.{told_from, HasTested, least_fault, AreInOrder}
use Rattle.cg_text.specs.declared.tree.row.Row.{Row}
use Rattle.cg_text.specs.declared.tree.walk.Least.{Least}
use Rattle.cg_text.proofs.LeastLaws.{at_path, AreMatched, read_found, AreSameRows, same_rows, AreOnce, once_from}
use Rattle.cg_text.proofs.EntriesLaws.{once_tail, less, no_twice}

-- what is told at a row, before the rest
abbrev told_before : Row → List Row → Option ToldFiles → List (Names × ToldFiles)
told_before row rows told = cons_option (option_map (λ files. (row.path, files)) told) (told_from rows)

-- ---- the paths

below_told : (path : Names) (rows : List Row)
    → ((k : ℕ) (d : Row) → k < length rows → is_lt (path_cmp (get_or rows k d).path path) ≡ false)
    → list_any (at_path path) rows ≡ false → below_all path_cmp path (told_from rows) ≡ true
below_told path [] late apart = refl
below_told path (row ∷ rows) late apart =
    let parts = or_parts (same_path path row.path) (list_any (at_path path) rows) apart in
    let later = below_told path rows (λ k d inside. late (suc k) d (omega arith)) parts.1 in
    elim row.told as (λ told. below_all path_cmp path (told_before row rows told) ≡ true) [
      | None ↦ later
      | Some files ↦ and_from _ _ (less path row.path (late zero row (omega arith)) parts.0) later
    ]

told_rise : (rows : List Row)
    → ((i j : ℕ) (d : Row) → i ≤ j → j < length rows → is_lt (path_cmp (get_or rows j d).path (get_or rows i d).path) ≡ false)
    → AreOnce rows → is_sorted path_cmp (told_from rows) ≡ true
told_rise [] rise once = refl
told_rise (row ∷ rows) rise once =
    let parts = once_tail row rows once in
    let later = told_rise rows (λ i j d l inside. rise (suc i) (suc j) d (omega arith) (omega arith)) parts.1 in
    elim row.told as (λ told. is_sorted path_cmp (told_before row rows told) ≡ true) [
      | None ↦ later
      | Some files ↦ and_from _ _
          (below_told row.path rows (λ k d inside. rise zero (suc k) d (omega arith) (omega arith)) parts.0) later
    ]

-- ---- what is found

told_unmet : (path : Names) (rows : List Row) → list_any (at_path path) rows ≡ false → lookup (same_path path) (told_from rows) ≡ None
told_unmet path [] apart = refl
told_unmet path (row ∷ rows) apart =
    let parts = or_parts (same_path path row.path) (list_any (at_path path) rows) apart in
    let later = told_unmet path rows parts.1 in
    elim row.told as (λ told. lookup (same_path path) (told_before row rows told) ≡ None) [
      | None ↦ later
      | Some files ↦ ap (λ b. cond b (Some files) (lookup (same_path path) (told_from rows))) parts.0 ∙ later
    ]

-- a row that tells nothing has none behind it that does
here_told : (path : Names) (row : Row) (rows : List Row) → AreOnce (row ∷ rows) → same_path path row.path ≡ true
    → lookup (same_path path) (told_from (row ∷ rows)) ≡ row.told
here_told path row rows once at =
    let apart = ap (λ path. list_any (at_path path) rows) (same_path-is path row.path at) ∙ (once_tail row rows once).0 in
    elim row.told as (λ told. lookup (same_path path) (told_before row rows told) ≡ told) [
      | None ↦ told_unmet path rows apart
      | Some files ↦ ap (λ b. cond b (Some files) (lookup (same_path path) (told_from rows))) at
    ]

later_told : (path : Names) (row : Row) (rows : List Row) → same_path path row.path ≡ false
    → lookup (same_path path) (told_from (row ∷ rows)) ≡ lookup (same_path path) (told_from rows)
later_told path row rows other =
    elim row.told as (λ told. lookup (same_path path) (told_before row rows told) ≡ lookup (same_path path) (told_from rows)) [
      | None ↦ refl
      | Some files ↦ ap (λ b. cond b (Some files) (lookup (same_path path) (told_from rows))) other
    ]

told_found : (path : Names) (rows : List Row) → AreOnce rows
    → lookup (same_path path) (told_from rows) ≡ option_and_then (λ (row : Row). row.told) (find (at_path path) rows)
told_found path [] once = refl
told_found path (row ∷ rows) once =
    elim (same_path path row.path) as (λ b. same_path path row.path ≡ b
    → lookup (same_path path) (told_from (row ∷ rows))
    ≡ option_and_then (λ (row : Row). row.told) (cond b (Some row) (find (at_path path) rows))) [
      | true ↦ λ at. here_told path row rows once at
      | false ↦ λ other. later_told path row rows other ∙ told_found path rows (once_tail row rows once).1
    ] refl

-- ---- the tables

told_matched : (format : Format) (table : Option Members) (row : Option Row) → AreMatched format table row
    → option_and_then (λ (row : Row). row.told) row ≡ option_and_then (told_row format) table
told_matched format None None are = refl
told_matched format (Some table) (Some row) are = are.1.told
told_matched format table row are = absurd are

pub told_of_tables : (format : Format) (tables : List Members) (rows sorted : List Row) (controllers : ControllerSet) (least : Least)
    → (root : Bool) → AreReadAs format 1 tables rows → AreInOrder sorted → IsStableByKey (λ row. row.path) path_cmp rows sorted
    → HasTested controllers sorted least → least_fault least root ≡ None → AreToldOf format tables (told_from sorted)
told_of_tables format tables rows sorted controllers least root read order stable tested none =
    let same : AreSameRows sorted rows = same_rows rows sorted stable in
    let once : AreOnce sorted = once_from sorted least.twice tested.twice (no_twice least root none) in
    record {
      sorted =
          told_rise sorted
          (sorted_far (λ (x y : Row). is_lt (path_cmp x.path y.path)) (ranks_by path_cmp_total (λ (row : Row). row.path)) sorted order)
          once;
      each = λ path.
          told_found path sorted once
          ∙ ap (option_and_then (λ (row : Row). row.told))
          (find_filter (at_path path) sorted ∙ ap head_of (same path) ∙ sym (find_filter (at_path path) rows))
          ∙ told_matched format (find (has_path path) tables) (find (at_path path) rows) (read_found format path 1 tables rows read);
    }
