-- A try of one operation breaks where it is allowed and its step breaks.
use Rattle.std.proofs.Common.{◌≡◌, ℕ, ◌≤◌, length, Bool, true, false, cond, not, ◌&&◌, ◌≢◌, List, [], ◌∷◌, ◌++◌, drop, Some, None, is_some, option_map, nat_eq, refl, sym, ap, ◌∙◌, true≢false, arith}
use Rattle.std.proofs.lemmas.Bool.{and_from, eqb-true, eqb-false, not-true, false_from_ne_true}
use Rattle.std.proofs.lemmas.List.{append_cancel_left}
use Rattle.std.proofs.Math.Bool.{and-true}
use Rattle.cg_cgroup.specs.Paths.{Names, inside}
use Rattle.cg_cgroup.specs.Identity.{Identity}
use Rattle.cg_cgroup.specs.declared.files.Limit.{Limit}
use Rattle.cg_cgroup.specs.declared.files.Limit.TheVariants.{Max, At}
use Rattle.cg_cgroup.specs.declared.files.Controller.{Controller}
use Rattle.cg_cgroup.specs.declared.files.LimitFile.{LimitFile}
use Rattle.cg_cgroup.specs.declared.files.LimitFile.TheVariants.{CpuWeight}
use Rattle.std.specs.Prelude.{Option, option_and_then}
use Rattle.std.specs.Cmp.Lexicographic.{bytes_decides}
use Rattle.cg_cgroup.specs.Paths.{same_name}
use Rattle.cg_cgroup.specs.Values.{is_value_word, is_one_line, has_value_line, device_in}
use Rattle.cg_cgroup.specs.Files.{other_kind}
use Rattle.cg_cgroup.specs.Told.{file_untold, with_value_told}
use Rattle.cg_cgroup.specs.declared.other_file.OtherFile.{OtherFile}
use Rattle.cg_cgroup.specs.declared.told.FileText.{FileText}
use Rattle.cg_cgroup.specs.declared.told.ToldFile.{ToldFile}
use Rattle.cg_cgroup.specs.declared.user.Entry.{Entry}
use Rattle.cg_model.proofs.StateTold.{told_at-telling}
use Rattle.cg_cgroup.proofs.AllOthers.{each_other}
use Rattle.cg_cgroup.proofs.DeviceLines.{one_line_behind, device_word, only_line}
use Rattle.cg_cgroup.proofs.Options.{mapped_from, same_some}
use Rattle.cg_cgroup.proofs.PathOrder.{same_path_refl}
use Rattle.cg_cgroup.proofs.CgroupLaws.{same_file-refl, same_other-refl}
use Rattle.cg_model.specs.States.{State, row_at, process_at, place_at, with_value, with_place, placed_at, without_row, value_at, other_at, told_at, untold_at, file_told, told_text, with_text}
use Rattle.cg_model.specs.WellFormed.{has_row}
use Rattle.cg_model.proofs.StateLaws.{row_at-without_row, process_at-with_place-same}
use Rattle.cg_model.proofs.StateEntries.{value_at-with_value}
use Rattle.cg_model.specs.Clauses.{first}
use Rattle.cg_model.specs.Steps.{after}
use Rattle.cg_model.proofs.ClauseLaws.{no_parts, no_unless}
use Rattle.cg_model.specs.Bars.{bars}
use Rattle.cg_model.specs.Next.{next}
use Rattle.cg_model.specs.declared.operation.Op.{Op}
use Rattle.cg_model.specs.declared.operation.Op.TheVariants.{Move, Rmdir, Set, SetOther}
use Rattle.cg_model.specs.Limits.{Limits as LimitMap, limits, same_limits}
use Rattle.cg_model.specs.Edge.{is_crossed}
use Rattle.cg_model.proofs.Edges.{crosses-some}
use Rattle.cg_model.specs.Verdicts.{broken}
use Rattle.cg_model.specs.declared.verdict.Clause.{Clause}
use Rattle.cg_model.specs.declared.verdict.Clause.TheVariants.{Gone, Limits}
use Rattle.cg_model.proofs.LimitLaws.{same_limits-is}
use Rattle.cg_model.proofs.BrokenLaws.{broken-whole}
use Rattle.cg_model.specs.Tries.{other_value, device_of, on_device, text_besides, other_text}
use Rattle.cg_model.specs.Escapes.{breaks}
use Rattle.cg_tries.specs.Escapes.{IsUnbroken}
use Rattle.cg_tries.specs.Finding.{allowed}
use Rattle.cg_tries.proofs.Seen.{is_empty, breaks-run}

abbrev pub step_breaks : State → State → Names → Bool
step_breaks st new subtree = not (is_empty (broken st st new subtree))

pub one_operation : (st : State) (user : Identity) (subtree : Names) (op : Op) → IsUnbroken st subtree
    → breaks st user subtree (op ∷ []) ≡ (allowed st user op && step_breaks st (next st user op) subtree)
one_operation st user subtree op whole =
    breaks-run st user subtree (op ∷ [])
    ∙ ap (λ (l : List Clause). not (is_empty l && (is_empty (broken st st (after st user op) subtree) && true))) whole
    ∙ ap not (and-true (is_empty (broken st st (after st user op) subtree)))
    ∙ elim (bars st user op) as (λ l. not (is_empty (broken st st (elim l [ [] ↦ next st user op | bar ∷ others ↦ st ]) subtree))
    ≡ (not (is_some (first l)) && step_breaks st (next st user op) subtree)) [
      | [] ↦ refl
      | bar ∷ others ↦ ap (λ (l : List Clause). not (is_empty l)) whole
    ]

-- so it breaks where it is allowed, if its step breaks
pub where_allowed : (st : State) (user : Identity) (subtree : Names) (op : Op) → IsUnbroken st subtree
    → (bars st user op ≡ [] → broken st st (next st user op) subtree ≢ []) → breaks st user subtree (op ∷ []) ≡ allowed st user op
where_allowed st user subtree op whole step =
    one_operation st user subtree op whole
    ∙ elim (bars st user op) as
    (λ l. bars st user op ≡ l → (not (is_some (first l)) && step_breaks st (next st user op) subtree) ≡ not (is_some (first l))) [
      | [] ↦
          λ free.
          elim (broken st st (next st user op) subtree) as (λ l. broken st st (next st user op) subtree ≡ l → not (is_empty l) ≡ true) [
            | [] ↦ λ none. absurd (step free none)
            | clause ∷ clauses ↦ λ _. refl
          ] refl
      | bar ∷ others ↦ λ _. refl
    ] refl

pub where_so : (b p q : Bool) → (b ≡ true → p ≡ q) → (b && p) ≡ (b && q)
where_so true p q h = h refl
where_so false p q h = refl

pub nothing_bars : (st : State) (user : Identity) (op : Op) → allowed st user op ≡ true → bars st user op ≡ []
nothing_bars st user op h = elim (bars st user op) as (λ l. not (is_some (first l)) ≡ true → l ≡ []) [
  | [] ↦ λ _. refl
  | bar ∷ others ↦ λ h. absurd (true≢false (sym h))
] h

-- ---- rmdir

still_there : (start st new : State) (subtree : Names) → broken start st new subtree ≡ [] → has_row new subtree ≡ true
still_there start st new subtree none =
    no_unless (has_row new subtree) Gone (no_parts _ _ (no_parts _ _ (no_parts _ _ (no_parts _ _ none).0).0).0).0

pub rmdir_try : (st : State) (user : Identity) (subtree : Names) → IsUnbroken st subtree
    → breaks st user subtree (Rmdir subtree ∷ []) ≡ allowed st user (Rmdir subtree)
rmdir_try st user subtree whole = where_allowed st user subtree (Rmdir subtree) whole (λ free none.
    let gone : has_row (without_row st subtree) subtree ≡ false =
    ap is_some (row_at-without_row st subtree subtree ∙ ap (λ b. cond b None (row_at st subtree)) (same_path_refl subtree)) in
    true≢false (sym (still_there st st (without_row st subtree) subtree none) ∙ gone))

-- ---- set

-- where nothing is broken the limits are those of the start
pub limits_stay : (start st new : State) (subtree : Names) → broken start st new subtree ≡ [] → (file : LimitFile)
    → value_at start subtree file ≡ value_at new subtree file
limits_stay start st new subtree none file =
    let same =
    no_unless (same_limits (limits start subtree) (limits new subtree)) Limits (no_parts _ _ (no_parts _ _ (no_parts _ _ none).0).0).1
    in
    ap (λ (these : LimitMap). these.values file) (same_limits-is (limits start subtree) (limits new subtree) same)

pub others_stay : (start st new : State) (subtree : Names) → broken start st new subtree ≡ [] → (controller : Controller)
    → is_some (other_at start subtree controller) ≡ is_some (other_at new subtree controller)
others_stay start st new subtree none controller =
    let same =
    no_unless (same_limits (limits start subtree) (limits new subtree)) Limits (no_parts _ _ (no_parts _ _ (no_parts _ _ none).0).0).1
    in
    ap (λ (these : LimitMap). these.others controller) (same_limits-is (limits start subtree) (limits new subtree) same)

texts_stay : (start st new : State) (subtree : Names) → broken start st new subtree ≡ [] → (file : OtherFile)
    → told_text start subtree file ≡ told_text new subtree file
texts_stay start st new subtree none file =
    let same =
    no_unless (same_limits (limits start subtree) (limits new subtree)) Limits (no_parts _ _ (no_parts _ _ (no_parts _ _ none).0).0).1
    in
    ap (λ (these : LimitMap). these.told file) (same_limits-is (limits start subtree) (limits new subtree) same)

pub other_differs : (file : LimitFile) (value : Limit) → other_value file value ≢ value
other_differs CpuWeight Max h = cc
other_differs CpuWeight (At value) h = elim (nat_eq value 100) as (λ b. nat_eq value 100 ≡ b → cond b (At 1) (At 100) ≢ At value) [
  | true ↦ λ is e. let k : 1 ≡ value = cc in omega (arith, eqb-true value 100 is, k)
  | false ↦ λ isn't e. let k : 100 ≡ value = cc in eqb-false value 100 isn't (sym k)
] refl h
other_differs file Max h = cc
other_differs file (At value) h = cc

value_set : (st : State) (subtree : Names) (file : LimitFile) (value other : Limit) → value_at st subtree file ≡ Some value
    → value_at (with_value st subtree file other) subtree file ≡ Some other
value_set st subtree file value other is =
    value_at-with_value st subtree file other subtree file
    ∙ ap (λ b. cond b (option_map (λ _. other) (value_at st subtree file)) (value_at st subtree file))
    (and_from _ _ (same_path_refl subtree) (same_file-refl file))
    ∙ ap (option_map (λ _. other)) is

pub set_try : (st : State) (user : Identity) (subtree : Names) (file : LimitFile) (value : Limit) → IsUnbroken st subtree
    → value_at st subtree file ≡ Some value
    → breaks st user subtree (Set subtree file (other_value file value) ∷ []) ≡ allowed st user (Set subtree file (other_value file value))
set_try st user subtree file value whole is = where_allowed st user subtree (Set subtree file (other_value file value)) whole (λ free none.
    let same = limits_stay st st (with_value st subtree file (other_value file value)) subtree none file in
    other_differs file value (same_some _ _ (sym (value_set st subtree file value (other_value file value) is) ∙ sym same ∙ is)))

-- ---- set of a limit file beyond `LimitFile`

-- the two texts of a file differ
two_texts : (file : OtherFile) → same_name (other_kind file).loose (other_kind file).other ≡ false
two_texts file = not-true _ (each_other (λ file. not (same_name (other_kind file).loose (other_kind file).other)) refl file)

-- on a device too
apart_on : (device : Option (List ℕ)) (one other : List ℕ) → same_name one other ≡ false
    → same_name (on_device device one) (on_device device other) ≡ false
apart_on None one other apart = apart
apart_on (Some device) one other apart =
    false_from_ne_true (same_name (device ++ 32 ∷ one) (device ++ 32 ∷ other)) (λ same.
    let rest = ap (drop 1) (append_cancel_left device (32 ∷ one) (32 ∷ other)
    ((bytes_decides (device ++ 32 ∷ one) (device ++ 32 ∷ other)).0 same)) in
    true≢false (sym ((bytes_decides one other).1 rest) ∙ apart))

pub device_of_word : (file : OtherFile) (had : Option FileText) (device : List ℕ) → device_of file had ≡ Some device
    → (is_value_word device ≡ true) × (length device ≤ 255)
device_of_word file had device is =
    elim (other_kind file).of_devices as
    (λ b. cond b (option_and_then device_in had) None ≡ Some device → (is_value_word device ≡ true) × (length device ≤ 255)) [
      | false ↦ λ is. cc
      | true ↦ λ is. told had is
    ] is
  where
    told : (had : Option FileText) → option_and_then device_in had ≡ Some device → (is_value_word device ≡ true) × (length device ≤ 255)
    told None is = cc
    told (Some value) is = device_word value device is

-- a line of words is one on a device too
line_on : (file : OtherFile) (had : Option FileText) (text : List ℕ) → is_one_line text ≡ true
    → is_one_line (on_device (device_of file had) text) ≡ true
line_on file had text one = on (device_of file had) (device_of_word file had)
  where
    on : (found : Option (List ℕ)) → ((device : List ℕ) → found ≡ Some device → (is_value_word device ≡ true) × (length device ≤ 255))
        → is_one_line (on_device found text) ≡ true
    on None word = one
    on (Some device) word = one_line_behind device text (word device refl).0 one

-- of two lines that differ, the one that the file doesn't have alone
besides_differs : (had : Option FileText) (first second : FileText) → is_one_line first ≡ true → is_one_line second ≡ true
    → same_name first second ≡ false → had ≢ Some (text_besides had first second)
besides_differs None first second one other two is = cc
besides_differs (Some text) first second one other two is =
    elim (has_value_line text first) as (λ b. has_value_line text first ≡ b → Some text ≢ Some (cond b second first)) [
      | false ↦ λ apart is.
          true≢false (sym (ap (λ t. has_value_line t first) (same_some text first is) ∙ only_line first first one
          ∙ (bytes_decides first first).1 refl) ∙ apart)
      | true ↦ λ has is.
          true≢false (sym has ∙ ap (λ t. has_value_line t first) (same_some text second is) ∙ only_line second first other ∙ two)
    ] refl is

pub text_differs : (file : OtherFile) (had : Option FileText) → had ≢ Some (other_text file had)
text_differs file had =
    besides_differs had (on_device (device_of file had) (other_kind file).loose) (on_device (device_of file had) (other_kind file).other)
    (line_on file had (other_kind file).loose (each_other (λ file. is_one_line (other_kind file).loose) refl file))
    (line_on file had (other_kind file).other (each_other (λ file. is_one_line (other_kind file).other) refl file))
    (apart_on (device_of file had) (other_kind file).loose (other_kind file).other (two_texts file))

text_set : (st : State) (subtree : Names) (file : OtherFile) (told : ToldFile) (value : FileText) → file_told st subtree file ≡ Some told
    → told_text (with_text st subtree file value) subtree file ≡ Some value
text_set st subtree file told value is =
    ap (option_and_then (λ (told : ToldFile). told.value))
    (told_at-telling st subtree file (with_value_told value) subtree file (with_text st subtree file value) refl
    ∙ ap (λ b. cond b (option_map (with_value_told value) (file_told st subtree file)) (told_at st subtree file))
    (and_from _ _ (same_path_refl subtree) (same_other-refl file))
    ∙ ap (option_map (with_value_told value)) is)

-- the value that is told of one that stands
text_known : (told : Option ToldFile) (untold : Option Entry)
    → option_and_then (λ (told : ToldFile). told.value) (elim told [ None ↦ option_map file_untold untold | Some told ↦ Some told ])
    ≡ option_and_then (λ (told : ToldFile). told.value) told
text_known None None = refl
text_known None (Some entry) = refl
text_known (Some told) untold = refl

pub other_set_try : (st : State) (user : Identity) (subtree : Names) (file : OtherFile) (told : ToldFile) → IsUnbroken st subtree
    → file_told st subtree file ≡ Some told
    → breaks st user subtree (SetOther subtree file (other_text file told.value) ∷ [])
    ≡ allowed st user (SetOther subtree file (other_text file told.value))
other_set_try st user subtree file told whole is =
    where_allowed st user subtree (SetOther subtree file (other_text file told.value)) whole (λ free none.
    let same = texts_stay st st (with_text st subtree file (other_text file told.value)) subtree none file in
    text_differs file told.value
    (sym (ap (option_and_then (λ (told : ToldFile). told.value)) is) ∙ text_known (told_at st subtree file) (untold_at st subtree file)
    ∙ same ∙ text_set st subtree file told (other_text file told.value) is))

-- ---- move

-- a live process on the other side of the edge breaks the subtree
pub crossing_breaks : (st new : State) (subtree : Names) (pid : ℕ) → is_some (process_at st pid) ≡ true
    → is_crossed subtree (place_at st pid) (place_at new pid) ≡ true → broken st st new subtree ≢ []
crossing_breaks st new subtree pid live crossed none =
    crosses-some st new subtree pid live crossed (broken-whole (limits st subtree) st new subtree none).edge

pub move_try : (st : State) (user : Identity) (subtree : Names) (pid : ℕ) (place path : Names) → IsUnbroken st subtree
    → place_at st pid ≡ Some place → cond (inside subtree place) (not (inside subtree path)) (inside subtree path) ≡ true
    → breaks st user subtree (Move pid path ∷ []) ≡ allowed st user (Move pid path)
move_try st user subtree pid place path whole at over = where_allowed st user subtree (Move pid path) whole (λ free.
    let from = mapped_from (λ process. process.place) (process_at st pid) place at in
    let to : place_at (with_place st pid path) pid ≡ Some path =
    ap (option_map (λ process. process.place)) (process_at-with_place-same st pid path ∙ ap (option_map (placed_at path)) from.1) in
    crossing_breaks st (with_place st pid path) subtree pid (ap is_some from.1) ((λ i. is_crossed subtree (at i) (to i)) ∙ over))
