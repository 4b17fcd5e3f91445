-- In what a text is read as, a user reaches no entry that lines of its vocabulary don't name: in formats 1 and 2 the further limit
-- files are root's.
use Rattle.std.proofs.Common.{◌≡◌, ℕ, true, false, cond, not, ◌||◌, nat_eq, nat_lt, List, Option, Some, None, option_map, option_and_then, refl, sym, ap, ◌∙◌, true≢false, arith}
use Rattle.std.proofs.lemmas.Bool.{and_parts}
use Rattle.std.specs.FinMap as finite
use Rattle.cg_cgroup.specs.Paths.{Names}
use Rattle.cg_cgroup.specs.Identity.{Identity}
use Rattle.cg_cgroup.specs.Users.{is_user, in_group, has_bit, writes, reaches}
use Rattle.cg_cgroup.specs.Files.{brought_by, is_beyond}
use Rattle.cg_cgroup.specs.Cgroups.{root_file, other_in, untold_in}
use Rattle.cg_cgroup.specs.Told.{told_in, file_untold}
use Rattle.cg_cgroup.specs.declared.user.Entry.{Entry}
use Rattle.cg_cgroup.specs.declared.files.Controller.{Controller}
use Rattle.cg_cgroup.specs.declared.files.EntryName.{EntryName}
use Rattle.cg_cgroup.specs.declared.files.EntryName.TheVariants.{Dir, Other}
use Rattle.cg_cgroup.specs.declared.files.Vocabulary.{Vocabulary}
use Rattle.cg_cgroup.specs.declared.files.Vocabulary.TheVariants.{Format2, Format4}
use Rattle.cg_cgroup.specs.declared.other_file.OtherFile.{OtherFile}
use Rattle.cg_cgroup.specs.declared.cgroup.Cgroup.{Cgroup}
use Rattle.cg_cgroup.proofs.Options.{mapped_from}
use Rattle.cg_model.specs.States.{State, row_at, untold_at, entry_at}
use Rattle.cg_lines.specs.OperationLines.{is_entry_of}
use Rattle.cg_format.specs.Readings.{vocabulary_in}
use Rattle.cg_format.specs.TextOf.{OthersAreRoots, IsTextOf}
use Rattle.cg_format.proofs.OneState.{others_read, and_then_from}
use Rattle.cg_format.proofs.ReadingLaws.{known_controllers, none_told}
use Rattle.cg_escapes.specs.EscapeLines.{IsWorded}

-- ---- what is root's

not_zero : (uid : ℕ) → nat_lt 0 uid ≡ true → nat_eq 0 uid ≡ false
not_zero uid h = grind arith

unreached : (user : Identity) → nat_lt 0 user.uid ≡ true → reaches user root_file ≡ false
unfolding writes
unreached user h =
    let other = not_zero user.uid h in
    (λ i. cond (other i) (has_bit 420 128) (cond (in_group user 0) (has_bit 420 16) (has_bit 420 2)) || other i)
    ∙ elim (in_group user 0) as (λ b. (cond b (has_bit 420 16) (has_bit 420 2) || false) ≡ false) [ true ↦ refl | false ↦ refl ]

-- ---- the entries of a text

untold_root : (row : Cgroup) → OthersAreRoots row → (by : Option Controller) (entry : Entry)
    → elim by [ None ↦ row.freeze | Some controller ↦ other_in row controller ] ≡ Some entry → entry ≡ root_file
untold_root row roots None entry is = roots.freeze entry is
untold_root row roots (Some controller) entry is = roots.others controller entry is

-- what nothing is told of has the entry of its row
entry_untold : (st : State) (path : Names) (file : OtherFile) → finite.get st.told path ≡ None
    → entry_at st path (Other file) ≡ option_map (λ told. told.entry) (option_map file_untold (untold_at st path file))
entry_untold st path file none =
    ap
    (λ found. option_map (λ told. told.entry) (elim (option_and_then (λ files. told_in files file) found) [
      | None ↦ option_map file_untold (untold_at st path file)
      | Some told ↦ Some told
    ]))
    none

module _ (text : List ℕ) (st : State) (says : IsTextOf st text) where
  further_is_roots : vocabulary_in text ≡ Format2 → (path : Names) (file : OtherFile) (entry : Entry)
      → entry_at st path (Other file) ≡ Some entry → entry ≡ root_file
  further_is_roots two path file entry is =
      let told = mapped_from (λ told. told.entry) (option_map file_untold (untold_at st path file)) entry
      (sym (entry_untold st path file (none_told text st says two path)) ∙ is) in
      let untold = mapped_from file_untold (untold_at st path file) told.0 told.1 in
      let row = and_then_from (λ row. untold_in row file) (row_at st path) untold.0 untold.1 in
      let roots = others_read st says.document says.says path row.0 row.1 in
      sym told.2 ∙ sym (ap (λ t. t.entry) untold.2) ∙ untold_root row.0 roots (brought_by file) untold.0 row.2

  listed_is_named : (vocabulary : Vocabulary) (name : EntryName) → is_beyond name ≡ false → is_entry_of vocabulary name ≡ true
  listed_is_named Format2 name listed = ap not listed
  listed_is_named Format4 name listed = refl

  reached_is_named : (user : Identity) → nat_lt 0 user.uid ≡ true → (path : Names) (name : EntryName) (entry : Entry)
      → entry_at st path name ≡ Some entry → reaches user entry ≡ true → is_entry_of (vocabulary_in text) name ≡ true
  reached_is_named user some path (Other file) entry is reached =
      elim (vocabulary_in text) as (λ words. vocabulary_in text ≡ words → is_entry_of words (Other file) ≡ true) [
        | Format2 ↦ λ two.
            let root = further_is_roots two path file entry is in
            absurd (true≢false (sym reached ∙ ap (reaches user) root ∙ unreached user some))
        | Format4 ↦ λ _. refl
      ] refl
  reached_is_named user some path Dir entry is reached = listed_is_named (vocabulary_in text) Dir refl
  reached_is_named user some path name entry is reached = listed_is_named (vocabulary_in text) name refl

  pub text_worded : (user : Identity) → is_user user ≡ true → IsWorded (vocabulary_in text) st user
  text_worded user is = record {
    controllers = known_controllers text st says;
    entries = reached_is_named user (and_parts _ _ is).0;
  }
