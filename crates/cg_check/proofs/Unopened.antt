-- Why the opening may pass over limit files beyond `LimitFile`.
use Rattle.std.proofs.Common.{◌≡◌, ℕ, zero, suc, Bool, true, false, not, ◌&&◌, cond, List, [], ◌∷◌, ◌++◌, map, length, take, get_or, Option, Some, None, is_none, option_map, option_and_then, refl, sym, ap, ◌∙◌}
use Rattle.std.proofs.Math.Seq.{take-length}
use Rattle.std.proofs.lemmas.Bool.{false≢true, and_parts}
use Rattle.std.proofs.lemmas.Grind.{flat_map-append}
use Rattle.std.specs.List.{flat_map, list_all}
use Rattle.std.specs.FinMap as finite
use Rattle.cg_cgroup.specs.Paths.{Names}
use Rattle.cg_cgroup.specs.Identity.{Identity}
use Rattle.cg_cgroup.specs.Users.{opened}
use Rattle.cg_cgroup.specs.Files.{all_others, brought_by}
use Rattle.cg_cgroup.specs.Cgroups.{other_in, untold_in}
use Rattle.cg_cgroup.specs.Told.{told_in, file_untold}
use Rattle.cg_cgroup.specs.declared.user.Entry.{Entry}
use Rattle.cg_cgroup.specs.declared.cgroup.Cgroup.{Cgroup}
use Rattle.cg_cgroup.specs.declared.other_file.OtherFile.{OtherFile}
use Rattle.cg_cgroup.specs.declared.files.EntryName.TheVariants.{Other}
use Rattle.cg_model.specs.States.{State, row_at, untold_at, entry_at}
use Rattle.cg_model.specs.Clauses.{present}
use Rattle.cg_model.specs.declared.operation.Op.{Op}
use Rattle.cg_model.specs.declared.operation.Op.TheVariants.{Chmod}
use Rattle.cg_model.specs.Guards.{limit_file}
use Rattle.cg_model.specs.Tries.{opening_of, opening}
use Rattle.cg_model.proofs.StateTold.{or_untold}
use Rattle.cg_guards.specs.Asked.{asked_before, asked_others, asked_behind, asked_entries}
use Rattle.cg_guards.proofs.AskedTable.{guarded_is}
use Rattle.cg_check.specs.Opened.{is_opened, is_left, leaves_others}

get_left : (user : Identity) (entries : List (Option Entry)) (n : ℕ) → list_all (is_left user) entries ≡ true
    → is_left user (get_or entries n None) ≡ true
get_left user [] zero h = refl
get_left user [] (suc n) h = refl
get_left user (entry ∷ entries) zero h = (and_parts (is_left user entry) (list_all (is_left user) entries) h).0
get_left user (entry ∷ entries) (suc n) h =
    get_left user entries n (and_parts (is_left user entry) (list_all (is_left user) entries) h).1

no_chmod : (user : Identity) (entry : Option Entry) (chmod : Entry → Op) → is_left user entry ≡ true
    → present entry (λ entry. cond (is_opened user entry) (chmod entry ∷ []) []) ≡ []
no_chmod user None chmod h = refl
no_chmod user (Some entry) chmod h =
    elim (is_opened user entry) as (λ b. not b ≡ true → cond b (chmod entry ∷ []) [] ≡ []) [
      | true ↦ λ h. absurd (false≢true h)
      | false ↦ λ _. refl
    ] h

module _ (st : State) (user : Identity) (subtree : Names) (untold : finite.get st.told subtree ≡ None) (row : Cgroup)
    (here : row_at st subtree ≡ Some row)
    (left : (is_left user row.freeze && list_all (is_left user) row.others.entries) ≡ true) where
  file_left : (file : OtherFile) → is_left user (untold_in row file) ≡ true
  file_left file =
      let parts = and_parts (is_left user row.freeze) (list_all (is_left user) row.others.entries) left in
      elim (brought_by file) as (λ by.
      is_left user (elim by [ None ↦ row.freeze | Some controller ↦ other_in row controller ]) ≡ true) [
        | None ↦ parts.0
        | Some controller ↦ get_left user row.others.entries _ parts.1
      ]

  entry_is : (file : OtherFile) → entry_at st (take (length subtree) subtree) (Other file) ≡ untold_in row file
  entry_is file =
      ap (λ path. entry_at st path (Other file)) (take-length subtree)
      ∙ ap (λ files. option_map (λ told. told.entry)
      (or_untold (option_and_then (λ files. told_in files file) files) (untold_at st subtree file))) untold
      ∙ ap (λ r. option_map (λ told. told.entry) (option_map file_untold (option_and_then (λ row. untold_in row file) r))) here
      ∙ back (untold_in row file)
    where
      back : (entry : Option Entry) → option_map (λ told. told.entry) (option_map file_untold entry) ≡ entry
      back None = refl
      back (Some entry) = refl

  none_opened : (files : List OtherFile) → flat_map (opening_of st user subtree) (map (limit_file (length subtree)) (map Other files)) ≡ []
  none_opened [] = refl
  none_opened (file ∷ files) = λ i. one i ++ none_opened files i
    where
      one : opening_of st user subtree (limit_file (length subtree) (Other file)) ≡ []
      one =
          ap (λ entry. present entry
          (λ entry. cond (is_opened user entry) (Chmod (take (length subtree) subtree) (Other file) (opened entry.mode) ∷ []) []))
          (entry_is file)
          ∙ no_chmod user (untold_in row file) (λ entry. Chmod (take (length subtree) subtree) (Other file) (opened entry.mode))
          (file_left file)

module _ (st : State) (user : Identity) (subtree : Names) where
  others_left : leaves_others st user subtree ≡ true → flat_map (opening_of st user subtree) (asked_others subtree) ≡ []
  others_left h =
      let parts = and_parts (is_none (finite.get st.told subtree)) _ h in
      elim (row_at st subtree) as (λ r. row_at st subtree ≡ r → elim r [
        | None ↦ false
        | Some row ↦ is_left user row.freeze && list_all (is_left user) row.others.entries
      ] ≡ true → flat_map (opening_of st user subtree) (asked_others subtree) ≡ []) [
        | None ↦ λ _ h. absurd (false≢true h)
        | Some row ↦ λ here left. none_opened st user subtree (none_there (finite.get st.told subtree) parts.0) row here left all_others
      ] refl parts.1
    where
      none_there : {A : Type 0} (o : Option A) → is_none o ≡ true → o ≡ None
      none_there None h = refl
      none_there (Some x) h = absurd (false≢true h)

  -- the asked entries give the whole opening
  pub opening-asked : (passes : Bool) → passes ≡ leaves_others st user subtree
      → flat_map (opening_of st user subtree) (asked_entries passes subtree) ≡ opening st user subtree
  opening-asked false is = ap (flat_map (opening_of st user subtree)) (sym (guarded_is subtree))
  opening-asked true is =
      flat_map-append (opening_of st user subtree) (asked_before subtree) (asked_behind subtree)
      ∙ ap (λ others. flat_map (opening_of st user subtree) (asked_before subtree)
      ++ (others ++ flat_map (opening_of st user subtree) (asked_behind subtree))) (sym (others_left (sym is)))
      ∙ ap (λ rest. flat_map (opening_of st user subtree) (asked_before subtree) ++ rest)
      (sym (flat_map-append (opening_of st user subtree) (asked_others subtree) (asked_behind subtree)))
      ∙ sym (flat_map-append (opening_of st user subtree) (asked_before subtree) (asked_others subtree ++ asked_behind subtree))
      ∙ ap (flat_map (opening_of st user subtree)) (sym (guarded_is subtree))
