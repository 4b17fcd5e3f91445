-- The rows of a document in form are read, each as it says.
use Rattle.std.proofs.Common.{◌≡◌, ℕ, Bool, true, false, cond, ◌||◌, List, [], ◌∷◌, map, length, codes, Option, Some, None, is_some, option_and_then, unwrap_or, refl, sym, ap, ◌∙◌, true≢false}
use Rattle.std.specs.Prelude.{◌&&◌, nat_eq, nat_le, filter_map, count_by, find, filter, pos, negsuc}
use Rattle.std.specs.List.{AllByRecursion, list_all, list_any}
use Rattle.std.specs.Option.{option_map}
use Rattle.std.proofs.lemmas.Bool.{and_parts, false_from_ne_true}
use Rattle.std.proofs.lemmas.List.{length-map}
use Rattle.std.proofs.lemmas.List.Sums.{length-filter}
use Rattle.std.proofs.lemmas.Option.{cond_some}
use Rattle.std.specs.Cmp.Lexicographic.{bytes_decides}
use Rattle.toml.specs.Data.{Data, string, integer, float, boolean, datetime, array, table, Items, no_items, item, Members, get_member, as_str, as_integer, as_array, as_table}
use Rattle.cg_cgroup.specs.Paths.{Names, same_name, same_path, path_at, path_text, names_at, is_path}
use Rattle.cg_cgroup.specs.Numbers.{is_pid}
use Rattle.cg_cgroup.specs.Files.{controller_named, controller_name, same_controller, with_controller, no_controllers, enables}
use Rattle.cg_cgroup.specs.declared.controllers.ControllerSet.{ControllerSet}
use Rattle.cg_cgroup.specs.declared.files.Controller.{Controller}
use Rattle.cg_cgroup.proofs.ControllerLaws.{same_controller-refl, same_controller-true, enables-with_controller, enables-set_by}
use Rattle.cg_cgroup.proofs.NameLaws.{controller_names}
use Rattle.cg_model.specs.States.{State}
use Rattle.cg_format.specs.Form.{Key, is_integer, are_texts, must_have, may_have, fits_at, is_array, is_table, elements, row_keys, live_keys}
use Rattle.cg_format.specs.Said.{elements_at, texts_at, tables_at, path_said, pid_read, pid_said, controllers_from, controllers_said, has_path}
use Rattle.cg_format.specs.TextOf.{IsInForm, IsRowOf, IsProcessOf, has_pid}
use Rattle.cg_format.specs.declared.format.Format.{Format}
use Rattle.cg_cgroup.proofs.Options.{same_some}
use Rattle.cg_format.proofs.OneState.{and_then_from}
use Rattle.machine_text.specs.Telling.{at_key, number_up_to, each_as, array_as, path_names, path_as, Row, row_as, Live, live_as, enables_by_name}
use Rattle.machine_text.proofs.Keys.{texts_are}
use Rattle.machine_text.proofs.Entries.{row_fits}

-- ---- paths

-- the names that a path's text is read as
pub names_as : (text : List ℕ) (path : Names) → path_at text ≡ Some path → path_names text ≡ Some path
names_as text path is =
    let parts = cond_some (is_path (names_at text) && same_name (path_text (names_at text)) text) (names_at text) path is in
    let same = (and_parts (is_path (names_at text)) (same_name (path_text (names_at text)) text) parts.0).1 in
    ap (λ b. cond b (Some (names_at text)) None) same ∙ ap Some parts.1

path_read : (key : List ℕ) (members : Members) (path : Names) → path_said key members ≡ Some path
    → at_key None path_as key members ≡ Some path
path_read key members path is = by_cases (get_member key members) is
  where
    by_cases : (found : Option Data) → option_and_then path_at (option_and_then as_str found) ≡ Some path
        → elim found as (λ (_ : Option Data). Option Names) [ None ↦ None | Some held ↦ path_as held ] ≡ Some path
    by_cases None is = absurd (true≢false (sym (ap is_some is)))
    by_cases (Some (string text)) is = names_as text path is
    by_cases (Some (integer number)) is = absurd (true≢false (sym (ap is_some is)))
    by_cases (Some (float x)) is = absurd (true≢false (sym (ap is_some is)))
    by_cases (Some (boolean b)) is = absurd (true≢false (sym (ap is_some is)))
    by_cases (Some (datetime d)) is = absurd (true≢false (sym (ap is_some is)))
    by_cases (Some (array items)) is = absurd (true≢false (sym (ap is_some is)))
    by_cases (Some (table inside)) is = absurd (true≢false (sym (ap is_some is)))

-- ---- arrays of tables

-- each of some tables is read as it is
array_read : {A : Type 0} (keys : List Key) (P : Members → Type 0) (read : Data → Option A) (as_said : Members → A)
    → ((said : Members) → is_table keys (table said) ≡ true → P said → read (table said) ≡ Some (as_said said))
    → (items : Items) → list_all (is_table keys) (elements items) ≡ true → AllByRecursion P (filter_map as_table (elements items))
    → each_as read items ≡ Some (map as_said (filter_map as_table (elements items)))
array_read keys P read as_said each no_items fit all = refl
array_read {A = A} keys P read as_said each (item (table said) rest) fit all =
    let parts = and_parts (is_table keys (table said)) (list_all (is_table keys) (elements rest)) fit in
    ap (option_and_then (λ (first : A). option_and_then (λ (others : List A). Some (first ∷ others)) (each_as read rest)))
    (each said parts.0 all.0)
    ∙ ap (option_and_then (λ (others : List A). Some (as_said said ∷ others))) (array_read keys P read as_said each rest parts.1 all.1)
array_read keys P read as_said each (item (string text) rest) fit all = absurd (true≢false (sym fit))
array_read keys P read as_said each (item (integer number) rest) fit all = absurd (true≢false (sym fit))
array_read keys P read as_said each (item (float x) rest) fit all = absurd (true≢false (sym fit))
array_read keys P read as_said each (item (boolean b) rest) fit all = absurd (true≢false (sym fit))
array_read keys P read as_said each (item (datetime d) rest) fit all = absurd (true≢false (sym fit))
array_read keys P read as_said each (item (array items) rest) fit all = absurd (true≢false (sym fit))

tables_read : {A : Type 0} (keys : List Key) (P : Members → Type 0) (read : Data → Option A) (as_said : Members → A)
    → ((said : Members) → is_table keys (table said) ≡ true → P said → read (table said) ≡ Some (as_said said))
    → (name : List ℕ) (document : Members) → fits_at document (may_have name is_array) ≡ true
    → list_all (is_table keys) (elements_at name document) ≡ true → AllByRecursion P (tables_at name document)
    → at_key (Some []) (array_as read) name document ≡ Some (map as_said (tables_at name document))
tables_read {A = A} keys P read as_said each name document fits fit all = by_cases (get_member name document) fits fit all
  where
    by_cases : (found : Option Data) → elim found [ None ↦ true | Some held ↦ is_array held ] ≡ true
        → list_all (is_table keys) (elim (option_and_then as_array found) [ None ↦ [] | Some items ↦ elements items ]) ≡ true
        → AllByRecursion P (filter_map as_table (elim (option_and_then as_array found) [ None ↦ [] | Some items ↦ elements items ]))
        → elim found as (λ (_ : Option Data). Option (List A)) [ None ↦ Some [] | Some held ↦ array_as read held ]
        ≡ Some (map as_said (filter_map as_table (elim (option_and_then as_array found) [ None ↦ [] | Some items ↦ elements items ])))
    by_cases None is fit all = refl
    by_cases (Some (array items)) is fit all = array_read keys P read as_said each items fit all
    by_cases (Some (table inside)) is fit all = absurd (true≢false (sym is))
    by_cases (Some (integer number)) is fit all = absurd (true≢false (sym is))
    by_cases (Some (string text)) is fit all = absurd (true≢false (sym is))
    by_cases (Some (float x)) is fit all = absurd (true≢false (sym is))
    by_cases (Some (boolean b)) is fit all = absurd (true≢false (sym is))
    by_cases (Some (datetime d)) is fit all = absurd (true≢false (sym is))

pub all_fit : (keys : List Key) (items : List Data) → list_all (is_table keys) items ≡ true
    → AllByRecursion (λ said. is_table keys (table said) ≡ true) (filter_map as_table items)
all_fit keys [] fit = tt
all_fit keys (table said ∷ rest) fit =
    let parts = and_parts (is_table keys (table said)) (list_all (is_table keys) rest) fit in (parts.0, all_fit keys rest parts.1)
all_fit keys (string text ∷ rest) fit = absurd (true≢false (sym fit))
all_fit keys (integer number ∷ rest) fit = absurd (true≢false (sym fit))
all_fit keys (float x ∷ rest) fit = absurd (true≢false (sym fit))
all_fit keys (boolean b ∷ rest) fit = absurd (true≢false (sym fit))
all_fit keys (datetime d ∷ rest) fit = absurd (true≢false (sym fit))
all_fit keys (array items ∷ rest) fit = absurd (true≢false (sym fit))

-- ---- cgroups

-- a row, as its table says it
abbrev pub row_said : Members → Row
row_said said = record { path = unwrap_or (path_said (codes "path") said) []; enabled = texts_at (codes "enabled") said; said = said }

row_read : (format : Format) (st : State) (said : Members) → is_table (row_keys format) (table said) ≡ true → IsRowOf format st said
    → row_as (table said) ≡ Some (row_said said)
row_read format st said fits is =
    ap (λ (path : Option Names). option_and_then (λ (path : Names). option_and_then (λ (enabled : List (List ℕ)).
    Some (record { path = path; enabled = enabled; said = said })) (at_key (Some []) (array_as as_str) (codes "enabled") said)) path)
    (path_read (codes "path") said is.path is.named)
    ∙ ap (option_and_then (λ (enabled : List (List ℕ)). Some (record { path = is.path; enabled = enabled; said = said })))
    (texts_are (codes "enabled") said (row_fits format said fits).enabled)
    ∙ ap (λ (path : Option Names). Some (record { path = unwrap_or path []; enabled = texts_at (codes "enabled") said; said = said }))
    (sym is.named)

array_keys : (format : Format) (document : Members) → IsInForm format document
    → (fits_at document (may_have (codes "cgroup") is_array) ≡ true) × (fits_at document (may_have (codes "process") is_array) ≡ true)
array_keys format document form =
    let all = (and_parts _ _ form.top).1 in
    let first = and_parts (fits_at document (must_have (codes "format") is_integer)) _ all in
    let second = and_parts (fits_at document (must_have (codes "controllers") are_texts)) _ first.1 in
    let third = and_parts (fits_at document (may_have (codes "cgroup") is_array)) _ second.1 in
    (third.0, (and_parts (fits_at document (may_have (codes "process") is_array)) true third.1).0)

pub rows_read : (format : Format) (st : State) (document : Members) → IsInForm format document
    → AllByRecursion (IsRowOf format st) (tables_at (codes "cgroup") document)
    → at_key (Some []) (array_as row_as) (codes "cgroup") document ≡ Some (map row_said (tables_at (codes "cgroup") document))
rows_read format st document form all =
    tables_read (row_keys format) (IsRowOf format st) row_as row_said (row_read format st) (codes "cgroup") document
    (array_keys format document form).0 form.cgroups all

-- ---- processes

abbrev pub live_said : Members → Live
live_said said = record { pid = unwrap_or (pid_said said) 0; place = unwrap_or (path_said (codes "at") said) [] }

pid_fits : (members : Members) (pid : ℕ) → pid_said members ≡ Some pid
    → at_key None (number_up_to 4194303) (codes "pid") members ≡ Some pid
pid_fits members pid is = by_cases (get_member (codes "pid") members) is
  where
    by_cases : (found : Option Data) → option_and_then pid_read (option_and_then as_integer found) ≡ Some pid
        → elim found as (λ (_ : Option Data). Option ℕ) [ None ↦ None | Some held ↦ number_up_to 4194303 held ] ≡ Some pid
    by_cases None is = absurd (true≢false (sym (ap is_some is)))
    by_cases (Some (integer (pos number))) is =
        let parts = cond_some (is_pid number) number pid is in
        ap (λ b. cond b (Some number) None) (and_parts (nat_le 1 number) (nat_le number 4194303) parts.0).1 ∙ ap Some parts.1
    by_cases (Some (integer (negsuc number))) is = absurd (true≢false (sym (ap is_some is)))
    by_cases (Some (string text)) is = absurd (true≢false (sym (ap is_some is)))
    by_cases (Some (float x)) is = absurd (true≢false (sym (ap is_some is)))
    by_cases (Some (boolean b)) is = absurd (true≢false (sym (ap is_some is)))
    by_cases (Some (datetime d)) is = absurd (true≢false (sym (ap is_some is)))
    by_cases (Some (array items)) is = absurd (true≢false (sym (ap is_some is)))
    by_cases (Some (table inside)) is = absurd (true≢false (sym (ap is_some is)))

live_read : (st : State) (said : Members) → is_table live_keys (table said) ≡ true → IsProcessOf st said
    → live_as (table said) ≡ Some (live_said said)
live_read st said fits is =
    ap (option_and_then (λ (pid : ℕ). option_and_then (λ (place : Names). Some (record { pid = pid; place = place }))
    (at_key None path_as (codes "at") said))) (pid_fits said is.pid is.named)
    ∙ ap (option_and_then (λ (place : Names). Some (record { pid = is.pid; place = place })))
    (path_read (codes "at") said is.process.place is.place)
    ∙ ap (λ (pid : Option ℕ). Some (record { pid = unwrap_or pid 0; place = is.process.place })) (sym is.named)
    ∙ ap (λ (place : Option Names). Some (record { pid = unwrap_or (pid_said said) 0; place = unwrap_or place [] })) (sym is.place)

pub lives_read : (format : Format) (st : State) (document : Members) → IsInForm format document
    → AllByRecursion (IsProcessOf st) (tables_at (codes "process") document)
    → at_key (Some []) (array_as live_as) (codes "process") document ≡ Some (map live_said (tables_at (codes "process") document))
lives_read format st document form all =
    tables_read live_keys (IsProcessOf st) live_as live_said (live_read st) (codes "process") document
    (array_keys format document form).1 form.processes all

-- ---- counts and the first by a test

module _ {A B : Type 0} (as_said : A → B) (p : A → Bool) (q : B → Bool) (P : A → Type 0)
    (same : (x : A) → P x → q (as_said x) ≡ p x) where
  filters_as : (xs : List A) → AllByRecursion P xs → filter q (map as_said xs) ≡ map as_said (filter p xs)
  filters_as [] all = refl
  filters_as (x ∷ xs) all =
      ap (λ b. cond b (as_said x ∷ filter q (map as_said xs)) (filter q (map as_said xs))) (same x all.0)
      ∙ ap (λ rest. cond (p x) (as_said x ∷ rest) rest) (filters_as xs all.1)
      ∙ both (p x)
    where
      both : (b : Bool) → cond b (as_said x ∷ map as_said (filter p xs)) (map as_said (filter p xs))
          ≡ map as_said (cond b (x ∷ filter p xs) (filter p xs))
      both true = refl
      both false = refl

  pub counts_as : (xs : List A) → AllByRecursion P xs → count_by q (map as_said xs) ≡ count_by p xs
  counts_as xs all =
      sym (length-filter q (map as_said xs)) ∙ ap length (filters_as xs all) ∙ length-map (filter p xs) as_said ∙ length-filter p xs

  pub finds_as : (xs : List A) → AllByRecursion P xs → find q (map as_said xs) ≡ option_map as_said (find p xs)
  finds_as [] all = refl
  finds_as (x ∷ xs) all =
      ap (λ b. cond b (Some (as_said x)) (find q (map as_said xs))) (same x all.0)
      ∙ ap (cond (p x) (Some (as_said x))) (finds_as xs all.1)
      ∙ both (p x)
    where
      both : (b : Bool) → cond b (Some (as_said x)) (option_map as_said (find p xs)) ≡ option_map as_said (cond b (Some x) (find p xs))
      both true = refl
      both false = refl

pub same_row : (path : Names) (format : Format) (st : State) (said : Members) → IsRowOf format st said
    → same_path path (row_said said).path ≡ has_path path said
same_row path format st said is =
    ap (λ (found : Option Names). same_path path (unwrap_or found [])) is.named
    ∙ sym (ap (λ (found : Option Names). elim found [ None ↦ false | Some said ↦ same_path path said ]) is.named)

pub same_live : (pid : ℕ) (st : State) (said : Members) → IsProcessOf st said → nat_eq pid (live_said said).pid ≡ has_pid pid said
same_live pid st said is =
    ap (λ (found : Option ℕ). nat_eq pid (unwrap_or found 0)) is.named
    ∙ sym (ap (λ (found : Option ℕ). elim found [ None ↦ false | Some said ↦ nat_eq pid said ]) is.named)

-- ---- controllers by their names

same_text : (text : List ℕ) (controller other : Controller) → text ≡ controller_name controller
    → same_controller controller other ≡ same_name (controller_name other) text
same_text text controller other is =
    elim (same_controller controller other) as (λ b. same_controller controller other ≡ b → b ≡ same_name (controller_name other) text) [
      | true ↦ λ same.
          let one : controller ≡ other = same_controller-true controller other same in
          sym ((bytes_decides (controller_name other) text).1 (ap controller_name (sym one) ∙ sym is))
      | false ↦ λ apart.
          sym (false_from_ne_true (same_name (controller_name other) text) (λ same.
          let named : controller_name other ≡ text = (bytes_decides (controller_name other) text).0 same in
          let one : controller ≡ other = controller_names.distinct controller other (sym is ∙ sym named) in
          true≢false (sym (ap (same_controller controller) (sym one) ∙ same_controller-refl controller) ∙ apart)))
    ] refl

enables_from : (set : ControllerSet) (texts : List (List ℕ)) (result : ControllerSet) (controller : Controller)
    → controllers_from set texts ≡ Some result
    → enables result controller ≡ (list_any (same_name (controller_name controller)) texts || enables set controller)
enables_from set [] result controller is = ap (λ (set : ControllerSet). enables set controller) (sym (same_some set result is))
enables_from set (text ∷ texts) result controller is =
    let found = and_then_from (λ (met : Controller). controllers_from (with_controller set met true) texts)
    (controller_named text) result is in
    let rest = enables_from (with_controller set found.0 true) texts result controller found.2 in
    let named : text ≡ controller_name found.0 = controller_names.named text found.0 found.1 in
    rest ∙ ap (λ b. list_any (same_name (controller_name controller)) texts || b)
    (enables-with_controller set found.0 true controller
    ∙ ap (λ b. cond b true (enables set controller)) (same_text text found.0 controller named))
    ∙ swapped (same_name (controller_name controller) text) (list_any (same_name (controller_name controller)) texts)
    (enables set controller)
  where
    swapped : (here later had : Bool) → (later || cond here true had) ≡ ((here || later) || had)
    swapped true true had = refl
    swapped true false had = refl
    swapped false later had = refl

-- a row enables what its table says
pub enables_as : (said : Members) (set : ControllerSet) (controller : Controller) → controllers_said (codes "enabled") said ≡ Some set
    → enables_by_name (row_said said) controller ≡ enables set controller
enables_as said set controller is =
    sym (enables_from no_controllers (texts_at (codes "enabled") said) set controller is
    ∙ ap (λ b. enables_by_name (row_said said) controller || b) (enables-set_by (λ controller. false) controller)
    ∙ or-false (enables_by_name (row_said said) controller))
  where
    or-false : (b : Bool) → (b || false) ≡ b
    or-false true = refl
    or-false false = refl
