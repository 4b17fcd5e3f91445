-- A new cgroup above the subtree and a process from inside moved there: whether this breaks depends on the ancestor alone.
use Rattle.std.proofs.Common.{◌≡◌, ◌≢◌, ℕ, zero, suc, ◌+◌, ◌-◌, ◌<◌, max, true, false, cond, not, ◌&&◌, ◌||◌, [], ◌∷◌, ◌++◌, length, take, Some, None, is_some, nat_lt, refl, sym, ap, ◌∙◌, arith, true≢false, take_all}
use Rattle.std.proofs.lemmas.Bool.{false_from_ne_true, and_from}
use Rattle.std.proofs.Math.Bool.{or-true}
use Rattle.std.proofs.lemmas.List.{length-append, length-take-le}
use Rattle.std.specs.Cmp.Lexicographic.{bytes_decides}
use Rattle.cg_cgroup.specs.Paths.{Name, Names, inside, below, common, same_path, same_name, is_root, parent}
use Rattle.cg_cgroup.specs.Identity.{Identity}
use Rattle.cg_cgroup.specs.Users.{writes}
use Rattle.cg_cgroup.specs.Files.{enables_nothing}
use Rattle.cg_cgroup.specs.Cgroups.{cgroup_made_by, value_in, other_in}
use Rattle.cg_cgroup.specs.declared.files.Controller.{Controller}
use Rattle.cg_cgroup.specs.declared.files.LimitFile.{LimitFile}
use Rattle.cg_cgroup.specs.declared.cgroup.Cgroup.{Cgroup}
use Rattle.cg_cgroup.proofs.Options.{none_value}
use Rattle.cg_cgroup.proofs.PathLaws.{inside-length}
use Rattle.cg_cgroup.proofs.PathOrder.{same_path-not, same_path_refl}
use Rattle.cg_cgroup.proofs.PathParents.{inside-is}
use Rattle.cg_cgroup.proofs.UserLaws.{writes-made_by}
use Rattle.cg_model.specs.States.{State, row_at, place_at, with_row, count_below, depth_below, value_at, other_at, told_text}
use Rattle.cg_model.specs.WellFormed.{IsWellFormed, has_row, enabled_at}
use Rattle.cg_model.proofs.StateLaws.{row_at-with_row}
use Rattle.cg_model.proofs.StateCounts.{count_below-with_row, depth_below-with_row}
use Rattle.cg_model.proofs.StateEntries.{value_at-with_row, other_at-with_row}
use Rattle.cg_model.proofs.TreeLaws.{take-there}
use Rattle.cg_model.specs.Clauses.{first}
use Rattle.cg_model.specs.Bars.{bars}
use Rattle.cg_model.specs.Steps.{after}
use Rattle.cg_model.specs.declared.operation.Op.TheVariants.{Move, Mkdir}
use Rattle.cg_model.specs.Escapes.{breaks}
use Rattle.cg_tries.specs.Escapes.{IsUnbroken}
use Rattle.cg_ops.specs.Moves.{passes_at}
use Rattle.cg_model.specs.Receiving.{receives}
use Rattle.cg_tries.specs.Finding.{allowed}
use Rattle.cg_tries.proofs.Seen.{seen, IsAlike, unbroken-alike, breaks-alike_first}
use Rattle.cg_tries.proofs.Single.{move_try}
use Rattle.cg_tries.proofs.Moves.{common_inside, move_allowed}

-- a child of an ancestor that isn't on the way to the subtree has that ancestor in common with it
common-child : (len : ℕ) (subtree : Names) (name : Name) → len < length subtree → take len subtree ++ name ∷ [] ≢ take (suc len) subtree
    → common subtree (take len subtree ++ name ∷ []) ≡ take len subtree
common-child len [] name within other = absurd (omega arith)
common-child zero (first ∷ subtree) name within other =
    elim (same_name first name) as (λ b. same_name first name ≡ b → cond b (first ∷ common subtree []) [] ≡ []) [
      | true ↦ λ e. absurd (other (λ i. sym ((bytes_decides first name).0 e) i ∷ []))
      | false ↦ λ _. refl
    ] refl
common-child (suc len) (first ∷ subtree) name within other =
    ap (λ b. cond b (first ∷ common subtree (take len subtree ++ name ∷ [])) []) ((bytes_decides first first).1 refl)
    ∙ ap (λ (p : Names). first ∷ p) (common-child len subtree name (omega (arith, within)) (λ e. other (ap (λ (p : Names). first ∷ p) e)))

module _ (st : State) (user : Identity) (subtree : Names) (len : ℕ) (name : Name) (formed : IsWellFormed st)
    (there : has_row st subtree ≡ true) (within : len < length subtree) (free : has_row st (take len subtree ++ name ∷ []) ≡ false) where
  abbrev ancestor : Names
  ancestor = take len subtree

  abbrev path : Names
  path = take len subtree ++ name ∷ []

  length_path : length path ≡ len + 1
  length_path = omega (arith, length-append (take len subtree) (name ∷ []), length-take-le len subtree (omega (arith, within)))

  outside : inside subtree path ≡ false
  outside = false_from_ne_true _ (λ h.
      let short = inside-length subtree path h in
      let same : length subtree ≡ length path = omega (arith, short, length_path, within) in
      let is : path ≡ subtree =
      sym (take_all (length path) path (omega arith)) ∙ ap (λ (n : ℕ). take n path) (sym same) ∙ inside-is subtree path h in
      true≢false (sym there ∙ ap (has_row st) (sym is) ∙ free))

  shared : common subtree path ≡ ancestor
  shared =
      common-child len subtree name within
      (λ is. true≢false (sym (take-there st formed subtree (suc len) there) ∙ ap (has_row st) (sym is) ∙ free))

  not_ancestor : same_path path ancestor ≡ false
  not_ancestor =
      same_path-not path ancestor
      (λ is. let l = ap length is in let f = length-take-le len subtree (omega (arith, within)) in omega (arith, l, f, length_path))

  not_subtree : same_path path subtree ≡ false
  not_subtree = same_path-not path subtree (λ is. true≢false (sym there ∙ ap (has_row st) (sym is) ∙ free))

  abbrev row : Cgroup
  row = cgroup_made_by user (enabled_at st (parent path))

  abbrev made : State
  made = with_row st path row

  no_child_of : below subtree path ≡ false
  no_child_of = ap (λ b. b && nat_lt (length subtree) (length path)) outside

  alike : IsAlike st made subtree
  alike =
      let files : (file : LimitFile) → value_at made subtree file ≡ value_at st subtree file = λ file.
      value_at-with_row st path row subtree file ∙ ap (λ b. cond b (value_in row file) (value_at st subtree file)) not_subtree in
      let others : (controller : Controller) → other_at made subtree controller ≡ other_at st subtree controller = λ controller.
      other_at-with_row st path row subtree controller
      ∙ ap (λ b. cond b (other_in row controller) (other_at st subtree controller)) not_subtree in
      let count =
      count_below-with_row st path row free subtree
      ∙ ap (λ b. cond b (1 + count_below st subtree) (count_below st subtree)) no_child_of in
      let depth =
      depth_below-with_row st path row free subtree
      ∙ ap (λ b. cond b (max (depth_below st subtree) (length path - length subtree)) (depth_below st subtree)) no_child_of in
      λ i. record {
        limits = record {
          values = λ file. files file i;
          others = λ controller. is_some (others controller i);
          told = told_text st subtree;
        };
        count = count i;
        depth = depth i;
        pids = (seen st subtree).pids;
        place = (seen st subtree).place;
      }

  made_row : row_at made path ≡ Some row
  made_row = row_at-with_row st path row path ∙ ap (λ b. cond b (Some row) (row_at st path)) (same_path_refl path)

  made_receives : receives made user path ≡ true
  made_receives =
      ap (λ r. elim r [ None ↦ false | Some row ↦ writes user row.procs && (is_root path || enables_nothing row.enabled) ]) made_row
      ∙ and_from (writes user row.procs) (is_root path || true) (writes-made_by user 420 refl) (or-true (is_root path))

  passes_same : passes_at made user ancestor ≡ passes_at st user ancestor
  passes_same =
      ap (λ r. elim r [ None ↦ true | Some row ↦ writes user row.procs ])
      (row_at-with_row st path row ancestor ∙ ap (λ b. cond b (Some row) (row_at st ancestor)) not_ancestor)

  module _ (pid : ℕ) (place : Names) (whole : IsUnbroken st subtree) (at : place_at st pid ≡ Some place) (is : inside subtree place ≡ true)
    where
      over : cond (inside subtree place) (not (inside subtree path)) (inside subtree path) ≡ true
      over = λ i. cond (is i) (not (outside i)) (inside subtree path)

      probe_try_by : breaks st user subtree (Mkdir path ∷ Move pid path ∷ []) ≡ (allowed st user (Mkdir path) && passes_at st user ancestor)
      probe_try_by =
          elim (bars st user (Mkdir path)) as (λ l. bars st user (Mkdir path) ≡ l
          → breaks st user subtree (Mkdir path ∷ Move pid path ∷ []) ≡ (not (is_some (first l)) && passes_at st user ancestor)) [
            | [] ↦ λ e.
                let to : after st user (Mkdir path) ≡ made = ap (λ l. elim l [ [] ↦ made | bar ∷ others ↦ st ]) e in
                breaks-alike_first st user subtree (Mkdir path) (ap (λ (s : State). seen s subtree) to ∙ alike) (Move pid path ∷ [])
                ∙ ap (λ (s : State). breaks s user subtree (Move pid path ∷ [])) to
                ∙ move_try made user subtree pid place path (unbroken-alike st made subtree alike whole) at over
                ∙ move_allowed made user pid place path at
                ∙ (λ i. made_receives i && passes_at made user ((common_inside subtree place path is outside ∙ shared) i))
                ∙ passes_same
            | bar ∷ others ↦ λ e.
                let to : after st user (Mkdir path) ≡ st = ap (λ l. elim l [ [] ↦ made | bar ∷ others ↦ st ]) e in
                breaks-alike_first st user subtree (Mkdir path) (ap (λ (s : State). seen s subtree) to) (Move pid path ∷ [])
                ∙ ap (λ (s : State). breaks s user subtree (Move pid path ∷ [])) to
                ∙ move_try st user subtree pid place path whole at over
                ∙ move_allowed st user pid place path at
                ∙ ap (λ r. elim r [ None ↦ false | Some row ↦ writes user row.procs && (is_root path || enables_nothing row.enabled) ]
                && passes_at st user (common place path)) (none_value (row_at st path) free)
          ] refl

pub probe_try : (st : State) (user : Identity) (subtree : Names) (len : ℕ) (name : Name) (pid : ℕ) (place : Names) → IsUnbroken st subtree
    → IsWellFormed st → has_row st subtree ≡ true → len < length subtree
    → has_row st (take len subtree ++ name ∷ []) ≡ false → place_at st pid ≡ Some place → inside subtree place ≡ true
    → breaks st user subtree (Mkdir (take len subtree ++ name ∷ []) ∷ Move pid (take len subtree ++ name ∷ []) ∷ [])
    ≡ (allowed st user (Mkdir (take len subtree ++ name ∷ [])) && passes_at st user (take len subtree))
probe_try st user subtree len name pid place whole formed there within free at is =
    probe_try_by st user subtree len name formed there within free pid place whole at is
