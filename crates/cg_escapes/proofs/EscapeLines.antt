-- Each operation of a try has a line, and a try has few.
use Rattle.std.proofs.Common.{◌≡◌, ℕ, zero, suc, ◌+◌, ◌≤◌, Bool, true, false, cond, not, ◌&&◌, List, [], ◌∷◌, ◌++◌, length, length-append, map, filter, take, Option, Some, None, is_some, option_and_then, refl, ap, ◌∙◌, arith, flat_map, nat_le, nat_eq, Ordering, ◌-◌, ◌||◌, codes, decimal, sym, subst, true≢false, option_map, find}
use Rattle.std.proofs.lemmas.Bool.{leb-true, le-leb, and_parts, and_from, false_from_ne_true}
use Rattle.std.proofs.Math.Bool.{or-true}
use Rattle.std.specs.Option.{option_map_or}
use Rattle.std.specs.List.{AllByRecursion, list_any}
use Rattle.std.specs.Ordering.{eq_by_cmp, is_eq}
use Rattle.std.specs.Cmp.{IsTotalOrder, tied_itself, nat_cmp_total}
use Rattle.std.specs.FinMap as finite
use Rattle.std.specs.FinMap.Entries.{is_some-find}
use Rattle.cg_cgroup.specs.Paths.{Names, IsPath, inside, path_text, same_path}
use Rattle.cg_cgroup.specs.PathText.{names_text}
use Rattle.cg_cgroup.specs.Identity.{Identity}
use Rattle.cg_cgroup.specs.Numbers.{is_pid}
use Rattle.cg_cgroup.specs.Users.{writes, owns, reaches, opened}
use Rattle.cg_cgroup.specs.Files.{all_files, all_others, other_kind, same_entry}
use Rattle.cg_cgroup.specs.declared.files.Vocabulary.{Vocabulary}
use Rattle.cg_cgroup.specs.Values.{is_value_word, is_one_line, has_value_line}
use Rattle.cg_cgroup.proofs.AllOthers.{each_other}
use Rattle.cg_cgroup.proofs.DeviceLines.{one_line_behind}
use Rattle.cg_cgroup.proofs.CgroupLaws.{same_entry-true}
use Rattle.cg_cgroup.proofs.ControllerLaws.{told-known, vocabulary-least}
use Rattle.cg_cgroup.proofs.Options.{mapped_from, same_some}
use Rattle.cg_cgroup.specs.Cgroups.{entry_in}
use Rattle.cg_cgroup.specs.declared.files.Limit.{Limit}
use Rattle.cg_cgroup.specs.declared.files.Limit.TheVariants.{Max, At}
use Rattle.cg_cgroup.specs.declared.files.LimitFile.{LimitFile}
use Rattle.cg_cgroup.specs.declared.files.LimitFile.TheVariants.{CpuWeight}
use Rattle.cg_cgroup.specs.declared.files.EntryName.{EntryName}
use Rattle.cg_cgroup.specs.declared.files.EntryName.TheVariants.{Other}
use Rattle.cg_cgroup.specs.declared.other_file.OtherFile.{OtherFile}
use Rattle.cg_cgroup.specs.declared.told.FileText.{FileText}
use Rattle.cg_cgroup.specs.declared.cgroup.Cgroup.{Cgroup}
use Rattle.cg_cgroup.specs.declared.user.Entry.{Entry}
use Rattle.cg_cgroup.proofs.PathOrder.{path_cmp_total}
use Rattle.cg_cgroup.proofs.PathNames.{IsPath-push, IsPath-take}
use Rattle.cg_cgroup.proofs.PathEnds.{path_bytes}
use Rattle.cg_cgroup.proofs.UserLaws.{opened-le}
use Rattle.cg_model.specs.States.{State, row_at, place_at, paths_of, pids_of, value_at, file_told, entry_at}
use Rattle.cg_model.specs.WellFormed.{IsWellFormed}
use Rattle.cg_model.specs.Bars.{set_other_bars}
use Rattle.cg_model.specs.Clauses.{unless, present}
use Rattle.cg_model.specs.Effects.{alters_entry}
use Rattle.cg_model.specs.Held.{by_user}
use Rattle.cg_model.specs.Limits.{fits_descendants, fits_depth}
use Rattle.cg_model.specs.Steps.{after, after_all}
use Rattle.cg_model.specs.declared.outcome.Refusal.TheVariants.{NoAccess}
use Rattle.cg_model.specs.declared.operation.Op.{Op}
use Rattle.cg_model.specs.declared.operation.Op.TheVariants.{Move, Mkdir, Rmdir, Set, SetOther, Chmod}
use Rattle.cg_model.specs.Guards.{Guarded, ancestors, limit_files, parent_control, parent_dir, guarded_entries, guarded_entry, IsSubtree, failures}
use Rattle.cg_model.specs.Tries.{other_value, device_of, on_device, other_text, set_tries, control_tries, across, move_tries, probe, free_probe, is_inside, probe_tries_at, probe_tries, plain_tries, opening_of, opening}
use Rattle.cg_model.specs.Escapes.{breaks, first_escape}
use Rattle.cg_tries.specs.Escapes.{IsUnbroken}
use Rattle.cg_tries.specs.Finding.{allowed}
use Rattle.cg_tries.proofs.Controls.{all-control_tries}
use Rattle.cg_tries.proofs.Single.{nothing_bars, device_of_word}
use Rattle.cg_tries.proofs.ProbeNames.{is_name-probe, length-probe}
use Rattle.cg_model.specs.Answers.{answer}
use Rattle.cg_model.specs.declared.answer.Answer.TheVariants.{Escapes}
use Rattle.cg_model.proofs.Allowed.{allowed_set_other}
use Rattle.cg_model.proofs.ClauseLaws.{no_parts, no_unless}
use Rattle.cg_model.proofs.FormedTold.{stands}
use Rattle.cg_model.proofs.Lists.{all-append, all-both, all-flat_map, all-present, all-each, find-all, find-passes}
use Rattle.cg_model.proofs.StepEffects.{entry_at-after}
use Rattle.cg_check.specs.Opened.{is_free}
use Rattle.cg_check.proofs.AnswerLaws.{found-escape}
use Rattle.cg_check.proofs.Escaping.{unbroken-fits, escape-over}
use Rattle.cg_check.proofs.Openings.{opened_state, unless_free, wider-opened, formed-opened, unbroken-opened, subtree-opened, same_tries, first_escape-is}
use Rattle.cg_check.proofs.Tried.{IsExact, exact-plain_tries}
use Rattle.cg_lines.specs.OperationLines.{is_line_value, is_entry_of, IsInRange, IsLimitInRange, HasLine, HaveLines}
use Rattle.cg_lines.specs.LineLengths.{HasFewChanges}
use Rattle.cg_lines.proofs.LineLengths.{line_length, most_changes-least}
use Rattle.cg_report.proofs.Shown.{all_flat}
use Rattle.cg_escapes.specs.EscapeLines.{IsNamed, IsWorded}

-- ---- lists

all-in : {K : Type 0} (eq : K → K → Bool) (P : K → Type 0) (xs : List K) → ((x : K) → eq x x ≡ true)
    → ((x : K) → list_any (eq x) xs ≡ true → P x) → AllByRecursion P xs
all-in eq P [] same each = tt
all-in eq P (x ∷ xs) same each = (
  each x (ap (λ b. b || list_any (eq x) xs) (same x)),
  all-in eq P xs same (λ y is. each y (ap (λ b. eq y x || b) is ∙ or-true (eq y x))),
)

-- what holds of each key of a map that is there
all-keys : {K X : Type 0} {R : K → K → Ordering} → IsTotalOrder R → (m : finite.FinMap R X) (P : K → Type 0)
    → ((k : K) → is_some (finite.get m k) ≡ true → P k) → AllByRecursion P (finite.keys m)
all-keys {R = R} o m P each =
    all-in (eq_by_cmp R) P (finite.keys m) (λ k. ap is_eq (tied_itself o k))
    (λ k is. each k (ap is_some (finite.get-entries m k) ∙ is_some-find R k (finite.entries m) ∙ is))

all-map_filter_by : {A B : Type 0} (P : B → Type 0) (Q : A → Type 0) (g : A → B) (test : A → Bool) → ((x : A) → Q x → P (g x))
    → (xs : List A) → AllByRecursion Q xs → AllByRecursion P (map g (filter test xs))
all-map_filter_by P Q g test each [] all = tt
all-map_filter_by P Q g test each (x ∷ xs) all =
    elim (test x) as (λ b. AllByRecursion P (map g (cond b (x ∷ filter test xs) (filter test xs)))) [
      | true ↦ (each x all.0, all-map_filter_by P Q g test each xs all.1)
      | false ↦ all-map_filter_by P Q g test each xs all.1
    ]

flat_map-short : {A B : Type 0} (f : A → List B) → ((x : A) → length (f x) ≤ 1) → (xs : List A) → length (flat_map f xs) ≤ length xs
flat_map-short f each [] = omega arith
flat_map-short f each (x ∷ xs) =
    let one = each x in
    let rest = flat_map-short f each xs in
    let l = length-append (f x) (flat_map f xs) in
    omega (arith, one, rest, l)

-- ---- operations

-- an operation that can be written
abbrev IsWritten : Vocabulary → Op → Type 0
IsWritten vocabulary op = IsInRange vocabulary op × HasFewChanges vocabulary op

-- a few of them
abbrev AreWritten : Vocabulary → List Op → Type 0
AreWritten vocabulary ops = AllByRecursion (IsWritten vocabulary) ops × (length ops ≤ 2)

other_held : (file : LimitFile) (value : Limit) → IsLimitInRange (other_value file value)
other_held CpuWeight Max = omega arith
other_held CpuWeight (At value) =
    elim (nat_eq value 100) as (λ b. IsLimitInRange (cond b (At 1) (At 100))) [ true ↦ omega arith | false ↦ omega arith ]
other_held file Max = omega arith
other_held file (At value) = tt

-- ---- paths

-- ---- modes

row_mode : (st : State) → IsWellFormed st → (at : Names) (name : EntryName) (entry : Entry) (found : Option Cgroup) → row_at st at ≡ found
    → option_and_then (λ row. entry_in row name) found ≡ Some entry → entry.mode ≤ 511
row_mode st formed at name entry None is held = cc
row_mode st formed at name entry (Some row) is held = (formed.rows at row is).modes name entry held

entry_mode : (st : State) → IsWellFormed st → (at : Names) (name : EntryName) (entry : Entry) → entry_at st at name ≡ Some entry
    → entry.mode ≤ 511
entry_mode st formed at (Other file) entry is =
    let told = mapped_from (λ told. told.entry) (file_told st at file) entry is in
    subst (λ (e : Entry). e.mode ≤ 511) told.2 (stands st formed at file told.0 told.1).mode
entry_mode st formed at name entry is = row_mode st formed at name entry (row_at st at) refl is

-- ---- further limit files

-- a text that leaves room for a device before it
abbrev is_short_line : List ℕ → Bool
is_short_line text = nat_le (length text) 3000 && is_one_line text

loose_short : (file : OtherFile) → is_short_line (other_kind file).loose ≡ true
loose_short = each_other (λ file. is_short_line (other_kind file).loose) refl

other_short : (file : OtherFile) → is_short_line (other_kind file).other ≡ true
other_short = each_other (λ file. is_short_line (other_kind file).other) refl

value_on : (found : Option (List ℕ)) → ((device : List ℕ) → found ≡ Some device → (is_value_word device ≡ true) × (length device ≤ 255))
    → (text : List ℕ) → is_short_line text ≡ true → is_line_value (on_device found text) ≡ true
unfolding is_line_value
value_on None word text short =
    let parts = and_parts (nat_le (length text) 3000) (is_one_line text) short in
    and_from (nat_le (length text) 3800) (is_one_line text)
    (le-leb (length text) 3800 (omega (arith, leb-true (length text) 3000 parts.0))) parts.1
value_on (Some device) word text short =
    let parts = and_parts (nat_le (length text) 3000) (is_one_line text) short in
    let is = word device refl in
    let all = length-append device (32 ∷ text) in
    and_from (nat_le (length (device ++ 32 ∷ text)) 3800) (is_one_line (device ++ 32 ∷ text))
    (le-leb (length (device ++ 32 ∷ text)) 3800 (omega (arith, leb-true (length text) 3000 parts.0, is.1, all)))
    (one_line_behind device text is.0 parts.1)

text_value : (file : OtherFile) (had : Option FileText) → is_line_value (other_text file had) ≡ true
text_value file had =
    let on = value_on (device_of file had) (device_of_word file had) in
    let first = on_device (device_of file had) (other_kind file).loose in
    let second = on_device (device_of file had) (other_kind file).other in
    elim (option_map_or (λ value. has_value_line value first) had false) as (λ b. is_line_value (cond b second first) ≡ true) [
      | true ↦ on (other_kind file).other (other_short file)
      | false ↦ on (other_kind file).loose (loose_short file)
    ]

-- a chmod of an entry that lines name
abbrev NamesEntry : Vocabulary → Op → Type 0
NamesEntry vocabulary (Chmod at name mode) = is_entry_of vocabulary name ≡ true
NamesEntry vocabulary op = ⊥

-- none is of another that they don't name
spared : (vocabulary : Vocabulary) (q : Names) (file : OtherFile) → is_entry_of vocabulary (Other file) ≡ false
    → (op : Op) → NamesEntry vocabulary op → alters_entry op q (Other file) ≡ false
spared vocabulary q file unnamed (Chmod at name mode) named =
    false_from_ne_true (same_path at q && same_entry name (Other file)) (λ altered.
    let same = same_entry-true name (Other file) (and_parts (same_path at q) (same_entry name (Other file)) altered).1 in
    true≢false (sym named ∙ ap (is_entry_of vocabulary) same ∙ unnamed))
spared vocabulary q file unnamed op named = absurd named

spared_by_all : (vocabulary : Vocabulary) (user : Identity) (q : Names) (file : OtherFile) → is_entry_of vocabulary (Other file) ≡ false
    → (ops : List Op) (st : State) → AllByRecursion (NamesEntry vocabulary) ops
    → entry_at (after_all st (by_user user ops)) q (Other file) ≡ entry_at st q (Other file)
spared_by_all vocabulary user q file unnamed [] st all = refl
spared_by_all vocabulary user q file unnamed (op ∷ ops) st all =
    spared_by_all vocabulary user q file unnamed ops (after st user op) all.1
    ∙ entry_at-after st user op q (Other file) (spared vocabulary q file unnamed op all.0)

-- ---- the sets of the eight, and of the further files

abbrev listed_tries : State → Names → List (List Op)
listed_tries st subtree =
    flat_map (λ file. present (value_at st subtree file) (λ value. (Set subtree file (other_value file value) ∷ []) ∷ [])) all_files

abbrev other_tries : State → Names → List (List Op)
other_tries st subtree =
    flat_map (λ file.
    present (file_told st subtree file) (λ told. (SetOther subtree file (other_text file told.value) ∷ []) ∷ [])) all_others

module _ (vocabulary : Vocabulary) (st : State) (user : Identity) (subtree : Names) (formed : IsWellFormed st) (named : IsNamed st)
    (worded : IsWorded vocabulary st user) (sub : IsSubtree st subtree) where
  path : IsPath subtree
  path = named.paths subtree sub.0

  all-paths : AllByRecursion IsPath (paths_of st)
  all-paths = all-keys path_cmp_total st.rows IsPath named.paths

  all-pids : AllByRecursion (λ (pid : ℕ). is_pid pid ≡ true) (pids_of st)
  all-pids = all-keys nat_cmp_total st.live (λ (pid : ℕ). is_pid pid ≡ true) named.pids

  -- ---- plain tries

  written-listed : AllByRecursion (AreWritten vocabulary) (listed_tries st subtree)
  written-listed =
      all-flat_map (AreWritten vocabulary) _ all_files (λ file.
      all-present (AreWritten vocabulary) (value_at st subtree file) (λ value. (Set subtree file (other_value file value) ∷ []) ∷ [])
      (λ value is.
      (((((path, other_held file value), tt), tt), omega arith), tt)))

  written-controls : AllByRecursion (AreWritten vocabulary) (control_tries st subtree)
  written-controls =
      all-control_tries (AreWritten vocabulary) st subtree (λ on controller told. (
        (
          (
            (
              IsPath-take subtree (length subtree - 1) path,
              ap (λ b. b && true)
                  (vocabulary-least vocabulary st.controllers worded.controllers controller (told-known st.controllers controller told)),
            ),
            omega (arith, most_changes-least vocabulary),
          ),
          tt,
        ),
        omega arith,
      ))

  written-moves : AllByRecursion (AreWritten vocabulary) (move_tries st subtree)
  written-moves =
      all_flat (AreWritten vocabulary) (λ (pid : ℕ). is_pid pid ≡ true) _ (λ pid is_one.
      all-present (AreWritten vocabulary) (place_at st pid) (λ place. map (λ path. Move pid path ∷ []) (across st subtree place))
      (λ place at.
      all-map_filter_by (AreWritten vocabulary) IsPath (λ path. Move pid path ∷ [])
      (λ path. cond (inside subtree place) (not (inside subtree path)) (inside subtree path)) (λ path is.
      ((((is_one, is), tt), tt), omega arith)) (paths_of st) all-paths)) (pids_of st) all-pids

  probe_path : (len number : ℕ) → nat_le (length (path_text (probe (take len subtree) number))) 4095 ≡ true
      → IsPath (probe (take len subtree) number)
  probe_path len number short =
      let name = codes "probe" ++ decimal number in
      let le = leb-true (length (path_text (probe (take len subtree) number))) 4095 short in
      let l = length-probe (take len subtree) number in
      let m = length-append (codes "probe") (decimal number) in
      IsPath-push (take len subtree) name (IsPath-take subtree len path) (is_name-probe number) (omega (arith, le, l, m))

  written-probes_at : (len : ℕ) → AllByRecursion (AreWritten vocabulary) (probe_tries_at st subtree (take len subtree))
  written-probes_at len =
      all-present (AreWritten vocabulary) (free_probe st (take len subtree)) _ (λ number first.
      elim (nat_le (length (path_text (probe (take len subtree) number))) 4095) as
      (λ short. nat_le (length (path_text (probe (take len subtree) number))) 4095 ≡ short
      → AllByRecursion (AreWritten vocabulary) (cond short (map
      (λ pid. Mkdir (probe (take len subtree) number) ∷ Move pid (probe (take len subtree) number) ∷ [])
      (filter (is_inside st subtree) (pids_of st))) [])) [
        | true ↦ λ short.
            let is = probe_path len number short in
            all-map_filter_by (AreWritten vocabulary) (λ (pid : ℕ). is_pid pid ≡ true)
            (λ pid. Mkdir (probe (take len subtree) number) ∷ Move pid (probe (take len subtree) number) ∷ []) (is_inside st subtree) (λ pid
            is_one.
            (((is, tt), (((is_one, is), tt), tt)), omega arith)) (pids_of st) all-pids
        | false ↦ λ _. tt
      ] refl)

  written-probes : (len : ℕ) → AllByRecursion (AreWritten vocabulary) (probe_tries st subtree len)
  written-probes zero = tt
  written-probes (suc len) =
      all-append (AreWritten vocabulary) (probe_tries_at st subtree (take len subtree)) (probe_tries st subtree len) (written-probes_at len)
      (written-probes len)

  -- ---- the opening

  -- the chmod can be written, of an entry that lines name
  abbrev IsNamedWritten : Op → Type 0
  IsNamedWritten op = IsWritten vocabulary op × NamesEntry vocabulary op

  written-chmod : (guarded : Guarded) (entry : Entry) → guarded_entry st subtree guarded ≡ Some entry → owns user entry ≡ true
      → IsNamedWritten (Chmod (take guarded.len subtree) guarded.name (opened entry.mode))
  written-chmod guarded entry is own =
      let fits = opened-le entry.mode (entry_mode st formed (take guarded.len subtree) guarded.name entry is) in
      let reached = ap (λ o. writes user entry || o) own ∙ or-true (writes user entry) in
      let names = worded.entries (take guarded.len subtree) guarded.name entry is reached in
      (((IsPath-take subtree guarded.len path, le-leb (opened entry.mode) 511 fits, names), tt), names)

  written-opening_of : (guarded : Guarded) → AllByRecursion IsNamedWritten (opening_of st user subtree guarded)
  written-opening_of guarded =
      all-present IsNamedWritten (guarded_entry st subtree guarded) _ (λ entry is.
      elim (owns user entry) as (λ own. owns user entry ≡ own → AllByRecursion IsNamedWritten
      (cond (own && not (writes user entry)) (Chmod (take guarded.len subtree) guarded.name (opened entry.mode) ∷ []) [])) [
        | true ↦ λ own.
            elim (not (writes user entry)) as
            (λ b. AllByRecursion IsNamedWritten (cond b (Chmod (take guarded.len subtree) guarded.name (opened entry.mode) ∷ []) []))
            [ true ↦ (written-chmod guarded entry is own, tt) | false ↦ tt ]
        | false ↦ λ _. tt
      ] refl)

  named-opening : AllByRecursion IsNamedWritten (opening st user subtree)
  named-opening = all-flat_map IsNamedWritten (opening_of st user subtree) (guarded_entries subtree) written-opening_of

  written-opening : AllByRecursion (IsWritten vocabulary) (opening st user subtree)
  written-opening = all-each IsNamedWritten (IsWritten vocabulary) (λ op all. all.0) (opening st user subtree) named-opening

  -- what is read of a further file in the opened tree, was read of it before, unless lines name it
  spared_by_opening : (file : OtherFile) → is_entry_of vocabulary (Other file) ≡ false
      → entry_at (opened_state st user subtree) subtree (Other file) ≡ entry_at st subtree (Other file)
  spared_by_opening file unnamed =
      spared_by_all vocabulary user subtree file unnamed (opening st user subtree) st
      (all-each IsNamedWritten (NamesEntry vocabulary) (λ op all. all.1) (opening st user subtree) named-opening)

  short-opening_of : (guarded : Guarded) → length (opening_of st user subtree guarded) ≤ 1
  short-opening_of guarded =
      elim (guarded_entry st subtree guarded) as (λ (found : Option Entry).
      length (present found (λ entry.
      cond (owns user entry && not (writes user entry)) (Chmod (take guarded.len subtree) guarded.name (opened entry.mode) ∷ []) []))
      ≤ 1) [
        | None ↦ omega arith
        | Some entry ↦
            elim (owns user entry && not (writes user entry)) as
            (λ b. length (cond b (Chmod (take guarded.len subtree) guarded.name (opened entry.mode) ∷ []) []) ≤ 1)
            [ true ↦ omega arith | false ↦ omega arith ]
      ]

  length-ancestors : (len : ℕ) → length (ancestors len) ≡ len
  length-ancestors zero = refl
  length-ancestors (suc len) = ap suc (length-ancestors len)

  -- each name of a path takes a byte
  short-names : (names : Names) → length names ≤ length (names_text names)
  short-names [] = omega arith
  short-names (name ∷ names) =
      let rest = short-names names in let l = length-append (47 ∷ name) (names_text names) in omega (arith, rest, l)

  short-opening : length (opening st user subtree) ≤ 5000
  short-opening =
      let fewer = flat_map-short (opening_of st user subtree) short-opening_of (guarded_entries subtree) in
      let names = short-names subtree in
      let bytes = path_bytes subtree path in
      let files : length (ancestors (length subtree) ++ limit_files (length subtree))
      ≡ length (ancestors (length subtree)) + length (limit_files (length subtree)) =
      length-append (ancestors (length subtree)) (limit_files (length subtree)) in
      let all : length (guarded_entries subtree) ≡ length (ancestors (length subtree) ++ limit_files (length subtree)) + 2 =
      length-append (ancestors (length subtree) ++ limit_files (length subtree)) (parent_control subtree ∷ parent_dir subtree ∷ []) in
      let front = length-ancestors (length subtree) in
      let few : length (limit_files (length subtree)) ≤ 900 = omega arith in
      omega (arith, fewer, names, bytes, files, few, all, front)

  -- ---- all tries

  lines_of : (ops : List Op) → AllByRecursion (IsWritten vocabulary) ops → AllByRecursion (HasLine vocabulary) ops
  lines_of ops all =
      all-each (IsWritten vocabulary) (HasLine vocabulary)
      (λ op written. (written.0, line_length vocabulary op written.0 written.1)) ops all

  -- ---- those that break

  abbrev opened_tree : State
  opened_tree = opened_state st user subtree

  -- who sets a further file reaches it
  set_reached : (file : OtherFile) → set_other_bars opened_tree user subtree file ≡ []
      → (entry : Entry) × (entry_at opened_tree subtree (Other file) ≡ Some entry) × (reaches user entry ≡ true)
  set_reached file none =
      elim (file_told opened_tree subtree file) as (λ found. is_some found ≡ true
      → present found (λ told. unless (writes user told.entry) (NoAccess (length subtree) (Other file))) ≡ []
      → (entry : Entry) × (option_map (λ told. told.entry) found ≡ Some entry) × (reaches user entry ≡ true)) [
        | None ↦ λ there _. absurd (true≢false (sym there))
        | Some told ↦ λ _ free. (told.entry, refl, ap (λ w. w || owns user told.entry) (no_unless _ _ free))
      ] (allowed_set_other opened_tree user subtree file none) (no_parts _ _ none).1

  named_if_set : (file : OtherFile) (value : FileText) → allowed opened_tree user (SetOther subtree file value) ≡ true
      → is_entry_of vocabulary (Other file) ≡ true
  named_if_set file value free =
      let found = set_reached file (nothing_bars opened_tree user (SetOther subtree file value) free) in
      elim (is_entry_of vocabulary (Other file)) as (λ b. is_entry_of vocabulary (Other file) ≡ b → b ≡ true) [
        | true ↦ λ _. refl
        | false ↦ λ unnamed.
            sym unnamed
            ∙ worded.entries subtree (Other file) found.0 (sym (spared_by_opening file unnamed) ∙ found.1) found.2
      ] refl

  -- what breaks the opened tree can be written
  abbrev Writes : List Op → Type 0
  Writes ops = IsExact opened_tree user subtree ops → breaks opened_tree user subtree ops ≡ true → AreWritten vocabulary ops

  all-written : (xs : List (List Op)) → AllByRecursion (AreWritten vocabulary) xs → AllByRecursion Writes xs
  all-written = all-each (AreWritten vocabulary) Writes (λ ops written _ _. written)

  writes-others : AllByRecursion Writes (other_tries st subtree)
  writes-others =
      all-flat_map Writes _ all_others (λ file.
      all-present Writes (file_told st subtree file) (λ told. (SetOther subtree file (other_text file told.value) ∷ []) ∷ [])
      (λ told is. (
        λ exact broken.
            let set = SetOther subtree file (other_text file told.value) in
            let free = (and_parts (allowed opened_tree user set) true (sym exact.exact ∙ broken)).0 in
            ((((path, named_if_set file (other_text file told.value) free, text_value file told.value), tt), tt), omega arith),
        tt,
      )))

  writes-plain : AllByRecursion Writes (plain_tries st subtree)
  writes-plain = (
    λ _ _. (tt, omega arith),
    all-append Writes (set_tries st subtree ++ control_tries st subtree)
        ((Rmdir subtree ∷ []) ∷ (move_tries st subtree ++ probe_tries st subtree (length subtree)))
        (all-append Writes (set_tries st subtree) (control_tries st subtree)
        (all-append Writes (listed_tries st subtree) (other_tries st subtree) (all-written _ written-listed) writes-others)
        (all-written _ written-controls)) (
          λ _ _. (((path, tt), tt), omega arith),
          all-written _ (all-append (AreWritten vocabulary) (move_tries st subtree) (probe_tries st subtree (length subtree)) written-moves
              (written-probes (length subtree))),
        ),
  )

  -- ---- the first that breaks

  lines_behind : (free : Bool) (ops : List Op) → AreWritten vocabulary ops
      → HaveLines vocabulary (unless_free free (opening st user subtree) ops)
  lines_behind true ops written = (lines_of ops written.0, omega (arith, written.1))
  lines_behind false ops written =
      let l = length-append (opening st user subtree) ops in (
        lines_of (opening st user subtree ++ ops)
            (all-append (IsWritten vocabulary) (opening st user subtree) ops written-opening written.0),
        omega (arith, written.1, short-opening, l),
      )

  module _ (whole : IsUnbroken st subtree) where
    exact-plain : AllByRecursion (IsExact opened_tree user subtree) (plain_tries st subtree)
    exact-plain =
        subst (AllByRecursion (IsExact opened_tree user subtree)) (same_tries user st opened_tree (wider-opened st user subtree) subtree)
        (exact-plain_tries opened_tree user subtree (unbroken-opened st user subtree whole) (formed-opened st user subtree formed)
        (subtree-opened st user subtree sub))

    abbrev Broken : List Op → Type 0
    Broken ops = breaks opened_tree user subtree ops ≡ true → AreWritten vocabulary ops

    all-broken : AllByRecursion Broken (plain_tries st subtree)
    all-broken =
        all-both (IsExact opened_tree user subtree) Writes Broken (λ ops is writes. writes is) (plain_tries st subtree) exact-plain
        writes-plain

    lines_of_found : (found : Option (List Op)) → find (breaks opened_tree user subtree) (plain_tries st subtree) ≡ found → (ops : List Op)
        → option_map (λ t. unless_free (is_free st user t) (opening st user subtree) t) found ≡ Some ops → HaveLines vocabulary ops
    lines_of_found None is ops some = cc
    lines_of_found (Some t) is ops some =
        let written = find-all Broken (breaks opened_tree user subtree) (plain_tries st subtree) all-broken t is
        (find-passes (breaks opened_tree user subtree) (plain_tries st subtree) t is) in
        let same : unless_free (is_free st user t) (opening st user subtree) t ≡ ops = cc in
        subst (HaveLines vocabulary) same (lines_behind (is_free st user t) t written)

    unbroken-lines : (ops : List Op) → first_escape st user subtree ≡ Some ops → HaveLines vocabulary ops
    unbroken-lines ops is =
        lines_of_found _ refl ops (
        ap
        (λ xs. option_map (λ t. unless_free (is_free st user t) (opening st user subtree) t) (find (breaks opened_tree user subtree) xs))
        (sym (same_tries user st opened_tree (wider-opened st user subtree) subtree))
        ∙ sym (first_escape-is st user subtree whole formed sub) ∙ is
        )

  over-lines : (ops : List Op) → not (fits_descendants st subtree && fits_depth st subtree) ≡ true
      → first_escape st user subtree ≡ Some ops → HaveLines vocabulary ops
  over-lines ops over is =
      let same : [] ≡ ops = same_some [] ops (sym (escape-over st user subtree over) ∙ is) in
      subst (HaveLines vocabulary) same (tt, omega arith)

  pub escape_lines : (ops : List Op) → answer st user subtree ≡ Escapes ops → HaveLines vocabulary ops
  escape_lines ops is =
      let found = found-escape (failures st user subtree) (first_escape st user subtree) ops is in
      elim (not (fits_descendants st subtree && fits_depth st subtree)) as
      (λ over. not (fits_descendants st subtree && fits_depth st subtree) ≡ over → HaveLines vocabulary ops) [
        | true ↦ λ over. over-lines ops over found
        | false ↦ λ fits. unbroken-lines (unbroken-fits st subtree sub fits) ops found
      ] refl
