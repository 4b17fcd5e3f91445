-- The document of a tree that is kept, and that a text can carry, is one of the tree's state, and so is each text of that document.
use Rattle.std.proofs.Common.{◌≡◌, ℕ, ◌≤◌, suc, T, filter, true≢false, Bool, true, false, cond, List, [], ◌∷◌, length, map as map_list, codes, Ordering, Equal, is_eq, Option, Some, None, is_some, refl, sym, ap, subst, ◌∙◌, arith}
use Rattle.std.specs.Prelude.{count_by, filter_map, nat_eq}
use Rattle.std.specs.List.{AllByRecursion, list_all}
use Rattle.std.specs.Ordering.{nat_cmp, eq_by_cmp}
use Rattle.std.specs.Cmp.{IsTotalOrder, Equal-is, nat_cmp_total, unsigned_ties}
use Rattle.std.specs.FinMap as finite
use Rattle.std.specs.FinMap.{FinMap, get, entries, find}
use Rattle.std.specs.FinMap.Entries.{is_sorted, below_all}
use Rattle.std.proofs.lemmas.List.Sums.{length-filter}
use Rattle.std.proofs.lemmas.Bool.{and_from}
use Rattle.std.proofs.lemmas.List.{length-map}
use Rattle.toml.specs.Data.{Members, table, as_table}
use Rattle.cg_cgroup.specs.Paths.{Names, path_cmp, same_path}
use Rattle.cg_cgroup.specs.Files.{is_of}
use Rattle.cg_cgroup.specs.declared.files.Vocabulary.{Vocabulary}
use Rattle.cg_cgroup.specs.declared.told.ToldFiles.{ToldFiles}
use Rattle.cg_cgroup.specs.declared.cgroup.Cgroup.{Cgroup}
use Rattle.cg_cgroup.specs.declared.process.Process.{Process}
use Rattle.cg_cgroup.proofs.ControllerLaws.{enables-known, known-each}
use Rattle.cg_cgroup.proofs.PathOrder.{path_cmp_total, path_cmp-IsAntisymmetric, same_path-ties}
use Rattle.cg_model.specs.States.{State, row_at, process_at}
use Rattle.cg_model.specs.WellFormed.{enabled_above}
use Rattle.cg_model.proofs.FormedParts.{may_hold-row}
use Rattle.cg_model.proofs.Lists.{all-both, all-each}
use Rattle.cg_model.proofs.RootControllers.{root_has}
use Rattle.cg_model.proofs.MapLaws.{first_of_both, second_of_both, is_less}
use Rattle.cg_format.specs.Form.{Key, is_table, row_keys, live_keys}
use Rattle.cg_format.specs.Said.{tables_at, path_said, has_path, pid_said}
use Rattle.cg_format.specs.TextOf.{IsInForm, IsRowOf, IsProcessOf, has_pid, IsDocumentOf, IsTextOf}
use Rattle.cg_format.specs.TreeTexts.{longest_text, document_of}
use Rattle.cg_print.specs.Documents.{told_of, cgroup_table, process_table, tree_document}
use Rattle.cg_print.specs.Carried.{IsNamedRow, IsNamedProcess, IsKept, IsCarried, written_in}
use Rattle.cg_print.proofs.Entries.{entries_there, held_there}
use Rattle.cg_print.proofs.FormBack.{cgroup_in_form, process_in_form, top_in_form}
use Rattle.cg_print.proofs.ToldBack.{told_back}
use Rattle.cg_print.proofs.SaidBack.{path_back, enabled_back, entry_back, value_back, files_back, pid_back, uid_back, place_back, format_back, controllers_back, cgroups_back, processes_back}

-- ---- the tables of an array

module _ {E : Type 0} (write : E → Members) where
  tables_again : (es : List E) → filter_map as_table (map_list (λ e. table (write e)) es) ≡ map_list write es
  tables_again [] = refl
  tables_again (e ∷ es) = ap (λ rest. write e ∷ rest) (tables_again es)

  all_in_form : (keys : List Key) → ((e : E) → is_table keys (table (write e)) ≡ true) → (es : List E)
      → list_all (is_table keys) (map_list (λ e. table (write e)) es) ≡ true
  all_in_form keys each [] = refl
  all_in_form keys each (e ∷ es) =
      and_from (is_table keys (table (write e))) (list_all (is_table keys) (map_list (λ e. table (write e)) es)) (each e)
      (all_in_form keys each es)

  all_written : (P : Members → Type 0) (es : List E) → AllByRecursion (λ e. P (write e)) es → AllByRecursion P (map_list write es)
  all_written P [] all = tt
  all_written P (e ∷ es) all = (all.0, all_written P es all.1)

-- ---- how often a key comes

-- a table is found by the path and by the PID that it says
pub path_ties : (row : Members) (said : Names) → path_said (codes "path") row ≡ Some said
    → (path : Names) → has_path path row ≡ eq_by_cmp path_cmp path said
path_ties row said is path =
    ap (λ (o : Option Names). elim o [ None ↦ false | Some said ↦ same_path path said ]) is ∙ same_path-ties path said

pub pid_ties : (row : Members) (said : ℕ) → pid_said row ≡ Some said → (pid : ℕ) → has_pid pid row ≡ eq_by_cmp nat_cmp pid said
pid_ties row said is pid = ap (λ (o : Option ℕ). elim o [ None ↦ false | Some said ↦ nat_eq pid said ]) is ∙ unsigned_ties pid said

module _ {K X : Type 0} {R : K → K → Ordering} (total : IsTotalOrder R) (write : K × X → Members) (test : Members → Bool) (q : K) where
  abbrev Ties : List (K × X) → Type 0
  Ties es = AllByRecursion (λ (e : K × X). test (write e) ≡ eq_by_cmp R q e.0) es

  abbrev passing : List (K × X) → List Members
  passing es = filter test (map_list write es)

  unfound : (es : List (K × X)) → Ties es → find R q es ≡ None → length (passing es) ≡ 0
  unfound [] ties none = refl
  unfound (e ∷ es) ties none =
      elim (eq_by_cmp R q e.0) as (λ b. test (write e) ≡ b → cond b (Some e.1) (find R q es) ≡ None → length (passing (e ∷ es)) ≡ 0) [
        | true ↦ λ _ some. absurd (true≢false (ap is_some some))
        | false ↦ λ no none. ap (λ b. length (cond b (write e ∷ passing es) (passing es))) no ∙ unfound es ties.1 none
      ] ties.0 none

  -- a key that ties with one below all isn't found
  none_below : (top : K) (es : List (K × X)) → R q top ≡ Equal → T (below_all R top es) → find R q es ≡ None
  none_below top [] tie below = refl
  none_below top (e ∷ es) tie below =
      ap (λ r. cond (is_eq r) (Some e.1) (find R q es)) (total.congr q top e.0 tie ∙ is_less _ (first_of_both _ _ below))
      ∙ none_below top es tie (second_of_both _ _ below)

  found_once : (es : List (K × X)) → T (is_sorted R es) → Ties es → length (passing es) ≡ cond (is_some (find R q es)) 1 0
  found_once [] sorted ties = refl
  found_once (e ∷ es) sorted ties =
      elim (eq_by_cmp R q e.0) as (λ b. eq_by_cmp R q e.0 ≡ b → test (write e) ≡ b
      → length (passing (e ∷ es)) ≡ cond (is_some (cond b (Some e.1) (find R q es))) 1 0) [
        | true ↦ λ tie yes.
            ap (λ b. length (cond b (write e ∷ passing es) (passing es))) yes
            ∙ ap suc (unfound es ties.1 (none_below e.0 es ((Equal-is _).0 tie) (first_of_both _ _ sorted)))
        | false ↦ λ _ no.
            ap (λ b. length (cond b (write e ∷ passing es) (passing es))) no ∙ found_once es (second_of_both _ _ sorted) ties.1
      ] refl ties.0

  -- the table of an entry comes once
  each_once : (m : FinMap R X) → Ties (entries m) → count_by test (map_list write (entries m)) ≡ cond (is_some (get m q)) 1 0
  each_once m ties =
      sym (length-filter test (map_list write (entries m))) ∙ found_once (entries m) (finite.entries_sorted m) ties
      ∙ ap (λ o. cond (is_some o) 1 0) (sym (finite.get-entries m q))

-- ---- the whole

module _ (vocabulary : Vocabulary) (st : State) (kept : IsKept vocabulary st) where
  abbrev cgroups : List (Names × Cgroup)
  cgroups = entries st.rows

  abbrev live : List (ℕ × Process)
  live = entries st.live

  abbrev row_written : Names × Cgroup → Members
  row_written e = cgroup_table vocabulary e.0 e.1 (told_of vocabulary st e.0)

  abbrev IsNamed : Names → Cgroup → Type 0
  IsNamed path row = IsNamedRow path row (told_of vocabulary st path)

  abbrev process_written : ℕ × Process → Members
  process_written e = process_table e.0 e.1

  -- a cgroup enables no controller that the vocabulary hasn't, where the root has none
  row_known : is_of vocabulary st.controllers ≡ true → (path : Names) (row : Cgroup) → row_at st path ≡ Some row
      → is_of vocabulary row.enabled ≡ true
  row_known known path row there =
      known-each vocabulary row.enabled (λ controller on.
      enables-known vocabulary st.controllers known controller (root_has st kept.formed controller path row there on))

  row_back : IsCarried vocabulary st → (e : Names × Cgroup) → row_at st e.0 ≡ Some e.1 → IsNamed e.0 e.1
      → IsRowOf (written_in vocabulary) st (row_written e)
  row_back carried e there at =
      let formed = kept.formed.rows e.0 e.1 there in
      let told : Option ToldFiles = told_of vocabulary st e.0 in
      let back = told_back vocabulary st e.0 e.1 kept.formed carried.told at.told_ids in
      record {
        path = e.0;
        cgroup = e.1;
        there = there;
        named = path_back vocabulary e.0 e.1 told at;
        enabled = enabled_back vocabulary e.0 e.1 told (row_known carried.controllers e.0 e.1 there);
        entries = entry_back vocabulary e.0 e.1 told (enabled_above st e.0) at formed;
        values = value_back vocabulary e.0 e.1 told (enabled_above st e.0) at formed;
        files = files_back vocabulary e.0 e.1 told (enabled_above st e.0) at formed;
        others = carried.others e.0 e.1 there;
        told = back.told;
        told_values = back.values;
      }

  process_back : (e : ℕ × Process) → process_at st e.0 ≡ Some e.1 → IsNamedProcess e.0 e.1 → IsProcessOf st (process_written e)
  process_back e there at =
      let row = may_hold-row st e.1.place (kept.formed.places e.0 e.1 there) in
      record {
        pid = e.0;
        process = e.1;
        there = there;
        named = pid_back e.0 e.1 at;
        owner = uid_back e.0 e.1 at;
        place = place_back e.0 e.1 at (held_there path_cmp-IsAntisymmetric IsNamed st.rows kept.rows e.1.place row.0 row.1).path;
      }

  rows_are : tables_at (codes "cgroup") (tree_document vocabulary st) ≡ map_list row_written cgroups
  rows_are = ap (filter_map as_table) (cgroups_back vocabulary st) ∙ tables_again row_written cgroups

  lives_are : tables_at (codes "process") (tree_document vocabulary st) ≡ map_list process_written live
  lives_are = ap (filter_map as_table) (processes_back vocabulary st) ∙ tables_again process_written live

  in_form : IsCarried vocabulary st → IsInForm (written_in vocabulary) (tree_document vocabulary st)
  in_form carried = record {
    top = top_in_form vocabulary st;
    format = format_back vocabulary st;
    few_cgroups = omega (arith, carried.cgroups, ap length (cgroups_back vocabulary st), length-map cgroups (λ e. table (row_written e)));
    few_processes = omega (
      arith,
      carried.processes,
      ap length (processes_back vocabulary st),
      length-map live (λ e. table
          (process_written e)),
    );
    cgroups = ap (list_all (is_table (row_keys (written_in vocabulary)))) (cgroups_back vocabulary st)
        ∙ all_in_form row_written (row_keys (written_in vocabulary)) (λ e. cgroup_in_form vocabulary st e.0 e.1) cgroups;
    processes = ap (list_all (is_table live_keys)) (processes_back vocabulary st)
        ∙ all_in_form process_written live_keys (λ e. process_in_form e.0 e.1) live;
  }

  pub document_back : IsCarried vocabulary st → IsDocumentOf st (tree_document vocabulary st)
  document_back carried =
      let rows =
      all-both _ _ (λ (e : Names × Cgroup). IsRowOf (written_in vocabulary) st (row_written e)) (row_back carried) cgroups
      (entries_there path_cmp path_cmp_total st.rows) kept.rows in
      let processes =
      all-both _ _ (λ (e : ℕ × Process). IsProcessOf st (process_written e)) process_back live
      (entries_there nat_cmp nat_cmp_total st.live) kept.live in
      record {
        format = written_in vocabulary;
        form = in_form carried;
        controllers = controllers_back vocabulary st carried.controllers;
        cgroups = subst (AllByRecursion (IsRowOf (written_in vocabulary) st)) (sym rows_are) (all_written row_written (IsRowOf
            (written_in vocabulary) st) cgroups rows);
        paths = λ path. ap (count_by (has_path path)) rows_are
            ∙ each_once path_cmp_total row_written (has_path path) path st.rows
            (all-each _ _ (λ (e : Names × Cgroup) at. path_ties (row_written e) e.0
            (path_back vocabulary e.0 e.1 (told_of vocabulary st e.0) at) path) cgroups kept.rows);
        processes = subst (AllByRecursion (IsProcessOf st)) (sym lives_are) (all_written process_written (IsProcessOf st) live processes);
        pids = λ pid. ap (count_by (has_pid pid)) lives_are
            ∙ each_once nat_cmp_total process_written (has_pid pid) pid st.live
            (all-each _ _ (λ (e : ℕ × Process) at. pid_ties (process_written e) e.0 (pid_back e.0 e.1 at) pid) live kept.live);
        used = carried.used;
        formed = kept.formed;
      }

-- ---- texts

pub text_back : (text : List ℕ) (vocabulary : Vocabulary) (st : State) → document_of text ≡ Some (tree_document vocabulary st)
    → IsKept vocabulary st → IsCarried vocabulary st → length text ≤ longest_text text → IsTextOf st text
text_back text vocabulary st parsed kept carried short =
    record { short = short; document = tree_document vocabulary st; parsed = parsed; says = document_back vocabulary st kept carried }
