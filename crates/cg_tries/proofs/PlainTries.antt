-- The first of the plain tries that breaks, kind by kind.
use Rattle.std.proofs.Common.{◌≡◌, ℕ, zero, suc, ◌<◌, ◌≤◌, ⊎_elim, take_all, true≢false, Bool, true, false, cond, not, ◌&&◌, List, [], ◌∷◌, ◌++◌, length, take, find, Option, Some, None, option_map, option_and_then, refl, sym, ap, ◌∙◌, arith}
use Rattle.std.specs.List.{flat_map}
use Rattle.std.specs.Option.{option_or}
use Rattle.cg_cgroup.specs.declared.other_file.OtherFile.{OtherFile}
use Rattle.cg_cgroup.specs.declared.told.ToldFile.{ToldFile}
use Rattle.std.proofs.lemmas.List.Folds.{find-append}
use Rattle.std.proofs.Math.Bool.{and-true, and-false}
use Rattle.std.proofs.lemmas.Bool.{cases_lt}
use Rattle.cg_cgroup.specs.Paths.{Names, parent, inside, common}
use Rattle.cg_cgroup.specs.Identity.{Identity}
use Rattle.cg_cgroup.specs.Files.{all_files, all_others, enables}
use Rattle.cg_cgroup.specs.Users.{writes}
use Rattle.cg_cgroup.proofs.PathLaws.{common-take_first, common-inside_first, common-inside_second, common_comm, inside-length}
use Rattle.cg_cgroup.specs.declared.files.Limit.{Limit}
use Rattle.cg_cgroup.specs.declared.files.LimitFile.{LimitFile}
use Rattle.cg_cgroup.specs.declared.files.Controller.{Controller}
use Rattle.cg_model.specs.States.{State, row_at, place_at, paths_of, pids_of, value_at, file_told}
use Rattle.cg_model.specs.WellFormed.{IsWellFormed, enabled_at}
use Rattle.cg_model.specs.Clauses.{present}
use Rattle.cg_model.specs.Bars.{passes}
use Rattle.cg_model.specs.declared.operation.Op.{Op}
use Rattle.cg_model.specs.declared.operation.Op.TheVariants.{Move, Control, Mkdir, Rmdir, Set, SetOther}
use Rattle.cg_model.specs.Guards.{IsSubtree}
use Rattle.cg_model.specs.declared.verdict.Clause.{Clause}
use Rattle.cg_model.specs.Tries.{other_value, other_text, set_tries, told_controllers, change_of, control_tries, move_tries, probe_tries, plain_tries}
use Rattle.cg_model.specs.Escapes.{breaks}
use Rattle.cg_tries.specs.Escapes.{IsUnbroken}
use Rattle.cg_ops.specs.Moves.{passes_at}
use Rattle.cg_model.specs.Receiving.{receives}
use Rattle.cg_tries.specs.Finding.{allowed, if_allowed, set_of, first_listed_set, other_set_of, first_other_set, first_set, control_of, first_control, first_write, can_leave_to, can_enter_at, goes_from, move_of, first_move, writes_both, first_probe_path, first_inside, first_probe, first_passage}
use Rattle.cg_tries.proofs.Walks.{given-none}
use Rattle.cg_tries.proofs.Seen.{is_empty, breaks-run}
use Rattle.cg_tries.proofs.Single.{set_try, other_set_try, rmdir_try}
use Rattle.cg_tries.proofs.Controls.{control_try}
use Rattle.cg_tries.proofs.Moves.{find-flat_map, first_given-same, first_move-is}
use Rattle.cg_tries.proofs.ProbeWalk.{unwritten}
use Rattle.cg_tries.proofs.ProbeLaws.{first_probe-is}

joined : (sets controls : Option (List Op)) (removed : Bool) (removal : List Op) (others : Option (List Op))
    → option_or (option_or sets controls) (cond removed (Some removal) others)
    ≡ option_or (option_or sets (option_or controls (cond removed (Some removal) None))) others
joined (Some sets) controls removed removal others = refl
joined None (Some controls) removed removal others = refl
joined None None true removal others = refl
joined None None false removal others = refl

module _ (st : State) (user : Identity) (subtree : Names) (whole : IsUnbroken st subtree) where
  nothing_kept : breaks st user subtree [] ≡ false
  nothing_kept = breaks-run st user subtree [] ∙ ap (λ (l : List Clause). not (is_empty l && true)) whole

  one_set : (file : LimitFile) (found : Option Limit) → value_at st subtree file ≡ found
      → find (breaks st user subtree) (present found (λ value. (Set subtree file (other_value file value) ∷ []) ∷ []))
      ≡ option_and_then (λ value. if_allowed st user (Set subtree file (other_value file value))) found
  one_set file None is = refl
  one_set file (Some value) is =
      ap (λ b. cond b (Some (Set subtree file (other_value file value) ∷ [])) None) (set_try st user subtree file value whole is)

  first_listed-is : find (breaks st user subtree)
      (flat_map (λ file. present (value_at st subtree file) (λ value. (Set subtree file (other_value file value) ∷ []) ∷ [])) all_files)
      ≡ first_listed_set st user subtree
  first_listed-is =
      find-flat_map (breaks st user subtree)
      (λ file. present (value_at st subtree file) (λ value. (Set subtree file (other_value file value) ∷ []) ∷ [])) all_files
      ∙ first_given-same _ (set_of st user subtree) all_files (λ file. one_set file (value_at st subtree file) refl)

  one_other : (file : OtherFile) (found : Option ToldFile) → file_told st subtree file ≡ found
      → find (breaks st user subtree) (present found (λ told. (SetOther subtree file (other_text file told.value) ∷ []) ∷ []))
      ≡ option_and_then (λ told. if_allowed st user (SetOther subtree file (other_text file told.value))) found
  one_other file None is = refl
  one_other file (Some told) is =
      ap (λ b. cond b (Some (SetOther subtree file (other_text file told.value) ∷ [])) None)
      (other_set_try st user subtree file told whole is)

  first_other-is : find (breaks st user subtree)
      (flat_map (λ file.
      present (file_told st subtree file) (λ told. (SetOther subtree file (other_text file told.value) ∷ []) ∷ [])) all_others)
      ≡ first_other_set st user subtree
  first_other-is =
      find-flat_map (breaks st user subtree)
      (λ file. present (file_told st subtree file) (λ told. (SetOther subtree file (other_text file told.value) ∷ []) ∷ [])) all_others
      ∙ first_given-same _ (other_set_of st user subtree) all_others (λ file. one_other file (file_told st subtree file) refl)

  first_set-is : find (breaks st user subtree) (set_tries st subtree) ≡ first_set st user subtree
  first_set-is =
      find-append (breaks st user subtree)
      (flat_map (λ file. present (value_at st subtree file) (λ value. (Set subtree file (other_value file value) ∷ []) ∷ [])) all_files)
      (flat_map (λ file.
      present (file_told st subtree file) (λ told. (SetOther subtree file (other_text file told.value) ∷ []) ∷ [])) all_others)
      ∙ (λ i. option_or (first_listed-is i) (first_other-is i))

  module _ (formed : IsWellFormed st) (there : IsSubtree st subtree) where
    abbrev change : Bool → Controller → Op
    change on controller = Control (parent subtree) (change_of on controller ∷ [])

    with_effect : (off on : Bool) (enabled : Bool) (controller : Controller)
        → cond (off && enabled) (Some (change false controller ∷ [])) (cond (on && not enabled) (Some (change true controller ∷ [])) None)
        ≡ cond (cond enabled off on) (Some (change (not enabled) controller ∷ [])) None
    with_effect off on true controller =
        (λ i. cond (and-true off i) (Some (change false controller ∷ [])) (cond (and-false on i) (Some (change true controller ∷ [])) None))
    with_effect off on false controller =
        (λ i. cond (and-false off i) (Some (change false controller ∷ [])) (cond (and-true on i) (Some (change true controller ∷ [])) None))

    one_control : (controller : Controller)
        → find (breaks st user subtree) ((change false controller ∷ []) ∷ (change true controller ∷ []) ∷ [])
        ≡ control_of st user subtree controller
    one_control controller =
        (λ i. cond (control_try st user subtree false controller whole formed there i) (Some (change false controller ∷ []))
        (cond (control_try st user subtree true controller whole formed there i) (Some (change true controller ∷ [])) None))
        ∙ with_effect (allowed st user (change false controller)) (allowed st user (change true controller))
        (enables (enabled_at st (parent subtree)) controller) controller
        ∙ elim (enables (enabled_at st (parent subtree)) controller) as
        (λ e. cond (cond e (allowed st user (change false controller)) (allowed st user (change true controller)))
        (Some (change (not e) controller ∷ [])) None ≡ if_allowed st user (change (not e) controller)) [
          | true ↦ refl
          | false ↦ refl
        ]

    first_control-is : find (breaks st user subtree) (control_tries st subtree) ≡ first_control st user subtree
    first_control-is =
        find-flat_map (breaks st user subtree) (λ controller. (change false controller ∷ []) ∷ (change true controller ∷ []) ∷ [])
        (told_controllers st)
        ∙ first_given-same
        (λ controller. find (breaks st user subtree) ((change false controller ∷ []) ∷ (change true controller ∷ []) ∷ []))
        (control_of st user subtree) (told_controllers st) one_control

    pub plain-is : find (breaks st user subtree) (plain_tries st subtree)
        ≡ option_or (first_write st user subtree) (first_passage st user subtree)
    plain-is =
        let p = breaks st user subtree in
        let writes : List (List Op) = set_tries st subtree ++ control_tries st subtree in
        let others : List (List Op) = move_tries st subtree ++ probe_tries st subtree (length subtree) in
        ap (λ b. cond b (Some []) (find p (writes ++ (Rmdir subtree ∷ []) ∷ others))) nothing_kept
        ∙ find-append p writes ((Rmdir subtree ∷ []) ∷ others)
        ∙ (λ i. option_or (find-append p (set_tries st subtree) (control_tries st subtree) i)
        (cond (rmdir_try st user subtree whole i) (Some (Rmdir subtree ∷ []))
        (find-append p (move_tries st subtree) (probe_tries st subtree (length subtree)) i)))
        ∙ (λ i. option_or (option_or (first_set-is i) (first_control-is i))
        (cond (allowed st user (Rmdir subtree)) (Some (Rmdir subtree ∷ []))
        (option_or (first_move-is st user subtree whole i) (first_probe-is st user subtree whole formed there.0 i))))
        ∙ joined (first_set st user subtree) (first_control st user subtree) (allowed st user (Rmdir subtree)) (Rmdir subtree ∷ [])
        (option_or (first_move st user subtree) (first_probe st user subtree))

-- ---- where the user writes no cgroup.procs above

find-none : {A : Type 0} (p : A → Bool) (xs : List A) → ((x : A) → p x ≡ false) → find p xs ≡ None
find-none p [] none = refl
find-none p (x ∷ xs) none = ap (λ b. cond b (Some x) (find p xs)) (none x) ∙ find-none p xs none

-- what a path outside has in common with the subtree is a proper ancestor
common-shorter : (subtree path : Names) → inside subtree path ≡ false → length (common subtree path) < length subtree
common-shorter subtree path out =
    let shared = common subtree path in
    let short = inside-length shared subtree (common-inside_first subtree path) in
    ⊎_elim (λ less. less)
    (λ same.
    let is : shared ≡ subtree = common-take_first subtree path ∙ take_all (length shared) subtree same in
    absurd (true≢false (sym (common-inside_second subtree path) ∙ ap (λ (p : Names). inside p path) is ∙ out)))
    (cases_lt (length shared) (length subtree))

module _ (st : State) (user : Identity) (subtree : Names)
    (none : (len : ℕ) → len < length subtree → passes_at st user (take len subtree) ≡ false) where
  apart : (path : Names) → inside subtree path ≡ false → passes st user subtree path ≡ false
  apart path out = ap (λ (p : Names). passes_at st user p) (common-take_first subtree path)
      ∙ none (length (common subtree path)) (common-shorter subtree path out)

  no_leave : (path : Names) (within : Bool) → inside subtree path ≡ within → can_leave_to st user subtree path ≡ false
  no_leave path true h = ap (λ b. not b && (receives st user path && passes st user subtree path)) h
  no_leave path false h = (λ i. not (h i) && (receives st user path && apart path h i)) ∙ and-false (receives st user path)

  stays : (place : Names) (within : Bool) → inside subtree place ≡ within
      → goes_from st user subtree None (find (can_enter_at st user subtree) (paths_of st)) place ≡ None
  stays place true h =
      ap (λ b. cond b None (cond (passes st user place subtree) (find (can_enter_at st user subtree) (paths_of st)) None)) h
  stays place false h =
      (λ i.
      cond (h i) None (cond (passes_at st user (common_comm place subtree i)) (find (can_enter_at st user subtree) (paths_of st)) None))
      ∙ ap (λ b. cond b (find (can_enter_at st user subtree) (paths_of st)) None) (apart place h)

  unwritten_at : (len : ℕ) → len < length subtree → writes_both st user (take len subtree) ≡ false
  unwritten_at len within =
      elim (row_at st (take len subtree)) as (λ r. elim r [ None ↦ true | Some row ↦ writes user row.procs ] ≡ false
      → elim r [ None ↦ false | Some row ↦ writes user row.dir && writes user row.procs ] ≡ false) [
        | None ↦ λ h. absurd (true≢false h)
        | Some row ↦ λ h. ap (λ b. writes user row.dir && b) h ∙ and-false (writes user row.dir)
      ] (none len within)

  no_path : (len : ℕ) → len ≤ length subtree → first_probe_path st user subtree len ≡ None
  no_path zero h = refl
  no_path (suc len) h =
      ap (λ o. option_or o (first_probe_path st user subtree len)) (unwritten st user subtree len (unwritten_at len (omega (arith, h))))
      ∙ no_path len (omega (arith, h))

  pub no_move : first_move st user subtree ≡ None
  no_move =
      let out = find-none (can_leave_to st user subtree) (paths_of st) (λ path. no_leave path (inside subtree path) refl) in
      given-none
      (move_of st user subtree (find (can_leave_to st user subtree) (paths_of st)) (find (can_enter_at st user subtree) (paths_of st)))
      (pids_of st)
      (λ pid. elim (place_at st pid) as (λ o. option_and_then (λ place.
      option_map (λ path. Move pid path ∷ []) (goes_from st user subtree (find (can_leave_to st user subtree) (paths_of st))
      (find (can_enter_at st user subtree) (paths_of st)) place)) o ≡ None) [
        | None ↦ refl
        | Some place ↦
            ap (option_map (λ path. Move pid path ∷ [])) (ap
            (λ o. goes_from st user subtree o (find (can_enter_at st user subtree) (paths_of st)) place) out
            ∙ stays place (inside subtree place) refl)
      ])

  pub no_probe : first_probe st user subtree ≡ None
  no_probe =
      elim (first_inside st subtree) as (λ o.
      option_and_then (λ pid. option_map (λ path. Mkdir path ∷ Move pid path ∷ []) (first_probe_path st user subtree (length subtree))) o
      ≡ None) [
        | None ↦ refl
        | Some pid ↦ ap (option_map (λ path. Mkdir path ∷ Move pid path ∷ [])) (no_path (length subtree) (omega arith))
      ]

  pub no_passage : first_passage st user subtree ≡ None
  no_passage = λ i. option_or (no_move i) (no_probe i)
