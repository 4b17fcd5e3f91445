-- The entries of the first row, one after another.
use Rattle.std.proofs.Common.{◌≡◌, ℕ, ◌+◌, ◌≤◌, Bool, true, false, cond, List, [], ◌∷◌, ◌++◌, map, length, drop, take_all, Option, Some, None, is_some, option_map, option_and_then, refl, sym, ap, ◌∙◌, append_assoc, append-nil, arith}
use Rattle.std.specs.Prelude.{slice_get}
use Rattle.std.specs.List.{flat_map, list_any}
use Rattle.std.proofs.lemmas.Bool.{or_parts, not_from_false}
use Rattle.std.proofs.lemmas.Grind.{flat_map-append}
use Rattle.std.proofs.lemmas.List.{drop_all}
use Rattle.cg_cgroup.specs.Paths.{Names}
use Rattle.cg_cgroup.specs.Identity.{Identity}
use Rattle.cg_cgroup.specs.Users.{owns, writes, reaches}
use Rattle.cg_cgroup.specs.Files.{all_others}
use Rattle.cg_cgroup.specs.declared.user.Entry.{Entry}
use Rattle.cg_cgroup.specs.declared.other_file.OtherFile.{OtherFile}
use Rattle.cg_cgroup.specs.declared.files.EntryName.TheVariants.{Other}
use Rattle.cg_model.specs.States.{State, entry_at}
use Rattle.cg_model.specs.Clauses.{present}
use Rattle.cg_model.specs.Guards.{Guarded, limit_file, guarded_entries, found, standing}
use Rattle.cg_model.specs.declared.guard.GuardedEntry.{GuardedEntry}
use Rattle.cg_model.specs.declared.mend.Class.{Class}
use Rattle.cg_guards.specs.Asked.{asked_before, asked_others, asked_behind, asked_entries}
use Rattle.cg_guards.proofs.AskedTable.{guarded_is}
use Rattle.cg_guards.proofs.TableWalk.{walk_turn}
use Rattle.cg_second.specs.Untold.{spares_untold}
use Rattle.cg_second.proofs.Untold.{nothing_told, none_reached}
use Rattle.cg_explain.specs.declared.first.Told.{Told}
use Rattle.cg_explain.specs.FirstRow.{class_of, has_line, told, first_row}
use Rattle.cg_explain.proofs.Classes.{no_class}

module _ (st : State) (user : Identity) (subtree : Names) where
  abbrev pub line_of : Guarded → List Told
  line_of guarded = present (standing st subtree guarded) (told st user subtree)

  pub told_so : (at : GuardedEntry) (by : Option Class) (lined : Bool) → by ≡ class_of user at.entry
      → lined ≡ has_line st subtree at.name by → cond lined (record { at = at; by = by } ∷ []) [] ≡ told st user subtree at
  told_so at by lined is tells =
      ap (λ b. cond b (record { at = at; by = by } ∷ []) []) tells
      ∙ ap (λ by. cond (has_line st subtree at.name by) (record { at = at; by = by } ∷ []) []) is

  -- ---- files of which nothing is told, and that the user doesn't reach

  module _ (spared : spares_untold st (user ∷ []) subtree ≡ true) where
    no_line : (guarded : Guarded) (file : OtherFile) (entry : Option Entry) → guarded.name ≡ Other file
        → elim entry [ None ↦ false | Some entry ↦ list_any (λ user. reaches user entry) (user ∷ []) ] ≡ false
        → present (option_map (found guarded) entry) (told st user subtree) ≡ []
    no_line guarded file None named off = refl
    no_line guarded file (Some entry) named off =
        let free = (or_parts (reaches user entry) false off).0 in
        let by : class_of user entry ≡ None = no_class (owns user entry) (writes user entry) _ (not_from_false (reaches user entry) free) in
        (λ i. cond (has_line st subtree (named i) (by i)) (record { at = found guarded entry; by = class_of user entry } ∷ []) [])
        ∙ ap (λ files. cond (is_some files) (record { at = found guarded entry; by = class_of user entry } ∷ []) [])
        (nothing_told st (user ∷ []) subtree spared file)

    no_lines : (files : List OtherFile) → flat_map line_of (map (limit_file (length subtree)) (map Other files)) ≡ []
    no_lines [] = refl
    no_lines (file ∷ files) = λ i. one i ++ no_lines files i
      where
        guarded : Guarded
        guarded = limit_file (length subtree) (Other file)

        one : line_of guarded ≡ []
        one =
            ap (λ path. present (option_map (found guarded) (entry_at st path (Other file))) (told st user subtree))
            (take_all (length subtree) subtree (omega arith))
            ∙ no_line guarded file (entry_at st subtree (Other file)) refl (none_reached st (user ∷ []) subtree spared file)

  -- ---- the walk

  -- those from a turn on
  abbrev pub row_from : Bool → ℕ → List Told
  row_from passes turn = flat_map line_of (drop turn (asked_entries passes subtree))

  asked-row : (passes : Bool) → passes ≡ spares_untold st (user ∷ []) subtree → row_from passes 0 ≡ first_row st user subtree
  asked-row false is = ap (flat_map line_of) (sym (guarded_is subtree))
  asked-row true is =
      flat_map-append line_of (asked_before subtree) (asked_behind subtree)
      ∙ ap (λ lines. flat_map line_of (asked_before subtree) ++ (lines ++ flat_map line_of (asked_behind subtree)))
      (sym (no_lines (sym is) all_others))
      ∙ sym (ap (flat_map line_of) (guarded_is subtree)
      ∙ flat_map-append line_of (asked_before subtree) (asked_others subtree ++ asked_behind subtree)
      ∙ ap (λ lines. flat_map line_of (asked_before subtree) ++ lines)
      (flat_map-append line_of (asked_others subtree) (asked_behind subtree)))

  pub row_begins : (passes : Bool) (row : List Told) → passes ≡ spares_untold st (user ∷ []) subtree → row ≡ []
      → row ++ row_from passes 0 ≡ first_row st user subtree
  row_begins passes row is none = ap (λ lines. lines ++ row_from passes 0) none ∙ asked-row passes is

  module _ (passes : Bool) (turn place : ℕ)
      (same : slice_get (guarded_entries subtree) place ≡ slice_get (asked_entries passes subtree) turn)
      (here : Option GuardedEntry) (is : here ≡ option_and_then (standing st subtree) (slice_get (guarded_entries subtree) place)) where
    row_turn : row_from passes turn ≡ present here (told st user subtree) ++ row_from passes (turn + 1)
    row_turn =
        walk_turn st subtree (told st user subtree) (asked_entries passes subtree) turn here
        (is ∙ ap (option_and_then (standing st subtree)) same)

    pub row_grows : (row more : List Told) → more ≡ row ++ present here (told st user subtree)
        → more ++ row_from passes (turn + 1) ≡ row ++ row_from passes turn
    row_grows row more added =
        ap (λ lines. lines ++ row_from passes (turn + 1)) added
        ∙ append_assoc row (present here (told st user subtree)) (row_from passes (turn + 1))
        ∙ ap (λ rest. row ++ rest) (sym row_turn)

  pub row_ends : (passes : Bool) (turn : ℕ) (row : List Told) → length (asked_entries passes subtree) ≤ turn
      → row ++ row_from passes turn ≡ first_row st user subtree → row ≡ first_row st user subtree
  row_ends passes turn row all whole =
      sym (ap (λ rest. row ++ flat_map line_of rest) (drop_all turn (asked_entries passes subtree) all) ∙ append-nil row) ∙ whole
