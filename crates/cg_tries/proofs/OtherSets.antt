-- Sets of limit files beyond `LimitFile`: each depends on its entry alone.
use Rattle.std.proofs.Common.{Bor, ◌≡◌, ℕ, zero, suc, Bool, true, false, cond, not, List, [], ◌∷◌, ◌++◌, length, get_or, Option, Some, None, is_some, is_none, option_copied, option_map, option_and_then, refl, sym, ap, ◌∙◌}
use Rattle.std.specs.List.{list_any}
use Rattle.std.specs.FinMap as finite
use Rattle.std.proofs.lemmas.Bool.{false≢true, or_parts}
use Rattle.cg_cgroup.specs.Paths.{Names}
use Rattle.cg_cgroup.specs.Identity.{Identity}
use Rattle.cg_cgroup.specs.Users.{writes}
use Rattle.cg_cgroup.specs.Files.{all_others, brought_by}
use Rattle.cg_cgroup.specs.Cgroups.{other_in, untold_in}
use Rattle.cg_cgroup.specs.Told.{told_in, file_untold}
use Rattle.cg_cgroup.specs.declared.user.Entry.{Entry}
use Rattle.cg_cgroup.specs.declared.cgroup.Cgroup.{Cgroup}
use Rattle.cg_cgroup.specs.declared.other_file.OtherFile.{OtherFile}
use Rattle.cg_cgroup.specs.declared.told.FileText.{FileText}
use Rattle.cg_cgroup.specs.declared.told.ToldFile.{ToldFile}
use Rattle.cg_cgroup.specs.declared.told.ToldFiles.{ToldFiles}
use Rattle.cg_cgroup.specs.declared.files.EntryName.TheVariants.{Other}
use Rattle.cg_model.specs.States.{State, row_at, file_told}
use Rattle.cg_model.specs.Clauses.{first, absent, present, unless}
use Rattle.cg_model.specs.declared.operation.Op.TheVariants.{SetOther}
use Rattle.cg_model.specs.declared.outcome.Refusal.{Refusal}
use Rattle.cg_model.specs.declared.outcome.Refusal.TheVariants.{NoSuchCgroup, NoSuchFile, NoAccess}
use Rattle.cg_model.specs.Tries.{other_text}
use Rattle.cg_model.proofs.StateTold.{or_untold}
use Rattle.cg_tries.specs.Finding.{allowed, other_set_of, other_set_from, writes_some, writes_untold, first_other_set}
use Rattle.cg_tries.proofs.Walks.{given-none}

no_access : (b : Bool) (refusal : Refusal) → not (is_some (first (unless b refusal))) ≡ b
no_access true refusal = refl
no_access false refusal = refl

module _ (st : State) (user : Identity) (subtree : Names) (row : Cgroup) (here : row_at st subtree ≡ Some row) where
  -- a file that stands is set where the user writes it
  set_allowed : (file : OtherFile) (told : ToldFile) (value : FileText) → file_told st subtree file ≡ Some told
      → allowed st user (SetOther subtree file value) ≡ writes user told.entry
  set_allowed file told value is =
      (λ i. not (is_some (first
      (absent (here i) (NoSuchCgroup (length subtree))
      ++ present (here i) (λ row. absent (is i) (NoSuchFile (Other file)))
      ++ present (is i) (λ told. unless (writes user told.entry) (NoAccess (length subtree) (Other file)))))))
      ∙ no_access (writes user told.entry) (NoAccess (length subtree) (Other file))

  pub set_where : (file : OtherFile) (found : Option ToldFile) → file_told st subtree file ≡ found
      → other_set_of st user subtree file ≡ option_and_then (λ told. other_set_from user subtree file told.entry told.value) found
  set_where file None is = ap (option_and_then (λ told. cond (allowed st user (SetOther subtree file (other_text file told.value)))
      (Some (SetOther subtree file (other_text file told.value) ∷ [])) None)) is
  set_where file (Some told) is =
      ap (option_and_then (λ told. cond (allowed st user (SetOther subtree file (other_text file told.value)))
      (Some (SetOther subtree file (other_text file told.value) ∷ [])) None)) is
      ∙ ap (λ b. cond b (Some (SetOther subtree file (other_text file told.value) ∷ [])) None)
      (set_allowed file told (other_text file told.value) is)

  -- whatever is told
  module _ (files : Option ToldFiles) (told : files ≡ finite.get st.told subtree) (file : OtherFile) where
    told_is : file_told st subtree file ≡ or_untold (option_and_then (λ files. told_in files file) files) (untold_in row file)
    told_is =
        λ i. or_untold (option_and_then (λ files. told_in files file) (sym told i)) (option_and_then (λ row. untold_in row file) (here i))

    pub set_told : (found : Option ToldFile)
        → or_untold (option_and_then (λ files. told_in files file) files) (untold_in row file) ≡ found
        → other_set_of st user subtree file ≡ option_and_then (λ told. other_set_from user subtree file told.entry told.value) found
    set_told found is = set_where file found (told_is ∙ is)

-- ---- where nothing is told

pub copied_none : {A : Type 0} (held : Option (Bor A)) → is_none held ≡ true → option_copied held ≡ None
copied_none None h = refl
copied_none (Some one) h = absurd (false≢true h)

get_unwritten : (user : Identity) (entries : List (Option Entry)) (n : ℕ) → list_any (writes_some user) entries ≡ false
    → writes_some user (get_or entries n None) ≡ false
get_unwritten user [] zero h = refl
get_unwritten user [] (suc n) h = refl
get_unwritten user (entry ∷ entries) zero h = (or_parts (writes_some user entry) (list_any (writes_some user) entries) h).0
get_unwritten user (entry ∷ entries) (suc n) h =
    get_unwritten user entries n (or_parts (writes_some user entry) (list_any (writes_some user) entries) h).1

untold_unwritten : (user : Identity) (row : Cgroup) → writes_untold user row ≡ false → (file : OtherFile)
    → writes_some user (untold_in row file) ≡ false
untold_unwritten user row h file =
    let parts = or_parts (writes_some user row.freeze) (list_any (writes_some user) row.others.entries) h in
    elim (brought_by file) as
    (λ by. writes_some user (elim by [ None ↦ row.freeze | Some controller ↦ other_in row controller ]) ≡ false) [
      | None ↦ parts.0
      | Some controller ↦ get_unwritten user row.others.entries _ parts.1
    ]

pub none_set : (st : State) (user : Identity) (subtree : Names) (row : Cgroup) → row_at st subtree ≡ Some row
    → finite.get st.told subtree ≡ None → writes_untold user row ≡ false → first_other_set st user subtree ≡ None
none_set st user subtree row here untold h =
    given-none (other_set_of st user subtree) all_others (λ file.
    set_told st user subtree row here None (sym untold) file (option_map file_untold (untold_in row file)) refl
    ∙ each file (untold_in row file) (untold_unwritten user row h file))
  where
    each : (file : OtherFile) (entry : Option Entry) → writes_some user entry ≡ false
        → option_and_then (λ told. other_set_from user subtree file told.entry told.value) (option_map file_untold entry) ≡ None
    each file None h = refl
    each file (Some entry) h = ap (λ b. cond b (Some (SetOther subtree file (other_text file None) ∷ [])) None) h
