-- The limit files beyond `LimitFile` of which nothing is told and which none of the users reaches.
use Rattle.std.proofs.Common.{◌≡◌, ℕ, zero, suc, Bool, true, false, not, List, [], ◌∷◌, get_or, Option, Some, None, is_none, option_map, option_and_then, refl, ap, ◌∙◌}
use Rattle.std.specs.List.{list_all, list_any}
use Rattle.std.specs.FinMap as finite
use Rattle.std.proofs.lemmas.Bool.{false≢true, and_parts, not-true, not_from_false}
use Rattle.cg_cgroup.specs.Paths.{Names}
use Rattle.cg_cgroup.specs.Identity.{Identity}
use Rattle.cg_cgroup.specs.Users.{reaches}
use Rattle.cg_cgroup.specs.Files.{all_others, brought_by}
use Rattle.cg_cgroup.specs.Cgroups.{other_in, untold_in}
use Rattle.cg_cgroup.specs.Told.{told_in, file_untold}
use Rattle.cg_cgroup.specs.declared.user.Entry.{Entry}
use Rattle.cg_cgroup.specs.declared.cgroup.Cgroup.{Cgroup}
use Rattle.cg_cgroup.specs.declared.other_file.OtherFile.{OtherFile}
use Rattle.cg_cgroup.specs.declared.files.EntryName.TheVariants.{Other}
use Rattle.cg_cgroup.proofs.AllOthers.{others_pass}
use Rattle.cg_model.specs.States.{State, row_at, told_at, untold_at, entry_at}
use Rattle.cg_model.proofs.StateTold.{or_untold}
use Rattle.cg_second.specs.Lasting.{is_reached}
use Rattle.cg_second.specs.Untold.{spares_entry, spares_others, spares_untold}

module _ (users : List Identity) where
  get_spared : (entries : List (Option Entry)) (n : ℕ) → list_all (spares_entry users) entries ≡ true
      → spares_entry users (get_or entries n None) ≡ true
  get_spared [] zero h = refl
  get_spared [] (suc n) h = refl
  get_spared (entry ∷ entries) zero h = (and_parts (spares_entry users entry) (list_all (spares_entry users) entries) h).0
  get_spared (entry ∷ entries) (suc n) h =
      get_spared entries n (and_parts (spares_entry users entry) (list_all (spares_entry users) entries) h).1

  untold_spared : (row : Cgroup) → spares_others users row ≡ true → (file : OtherFile)
      → spares_entry users (untold_in row file) ≡ true
  untold_spared row h file =
      let parts = and_parts (spares_entry users row.freeze) (list_all (spares_entry users) row.others.entries) h in
      elim (brought_by file) as
      (λ by. spares_entry users (elim by [ None ↦ row.freeze | Some controller ↦ other_in row controller ]) ≡ true) [
        | None ↦ parts.0
        | Some controller ↦ get_spared row.others.entries _ parts.1
      ]

  not_reached : (entry : Option Entry) → spares_entry users entry ≡ true
      → elim entry [ None ↦ false | Some entry ↦ list_any (λ user. reaches user entry) users ] ≡ false
  not_reached None h = refl
  not_reached (Some entry) h = not-true (list_any (λ user. reaches user entry) users) h

none-is : {A : Type 0} (found : Option A) → is_none found ≡ true → found ≡ None
none-is None h = refl
none-is (Some x) h = absurd (false≢true h)

module _ (st : State) (users : List Identity) (path : Names) (spared : spares_untold st users path ≡ true) where
  abbrev spares_row : Option Cgroup → Bool
  spares_row found = elim found [ None ↦ true | Some row ↦ spares_others users row ]

  parts : (is_none (finite.get st.told path) ≡ true) × (spares_row (row_at st path) ≡ true)
  parts = and_parts (is_none (finite.get st.told path)) (spares_row (row_at st path)) spared

  pub nothing_told : (file : OtherFile) → told_at st path file ≡ None
  nothing_told file = ap (option_and_then (λ files. told_in files file)) (none-is (finite.get st.told path) parts.0)

  row_spared : (found : Option Cgroup) → spares_row found ≡ true → (file : OtherFile)
      → spares_entry users (option_map (λ told. told.entry) (option_map file_untold (option_and_then (λ row. untold_in row file) found)))
      ≡ true
  row_spared None h file = refl
  row_spared (Some row) h file = ap (spares_entry users) (back (untold_in row file)) ∙ untold_spared users row h file
    where
      back : (entry : Option Entry) → option_map (λ told. told.entry) (option_map file_untold entry) ≡ entry
      back None = refl
      back (Some entry) = refl

  pub none_reached : (file : OtherFile) → is_reached st users path (Other file) ≡ false
  none_reached file =
      not_reached users (entry_at st path (Other file))
      (ap (λ told. spares_entry users (option_map (λ told. told.entry) (or_untold told (untold_at st path file)))) (nothing_told file)
      ∙ row_spared (row_at st path) parts.1 file)

  pub beyond_spared : list_all (λ file. not (is_reached st users path (Other file))) all_others ≡ true
  beyond_spared = others_pass _ (λ file. not_from_false _ (none_reached file)) all_others
