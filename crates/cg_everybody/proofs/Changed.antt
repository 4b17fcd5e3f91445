-- What the changes of the advice leave of the guards, of everybody and of each subtree.
use Rattle.std.proofs.Common.{◌≡◌, ℕ, ◌≤◌, Bool, true, false, cond, ◌&&◌, ◌||◌, not, nat_eq, List, [], ◌∷◌, ◌++◌, append_assoc, filter, length, take, refl, sym, ap, ◌∙◌, subst, Option, Some, None, option_map}
use Rattle.std.specs.List.{flat_map, list_any, All, AllByRecursion}
use Rattle.std.proofs.lemmas.Bool.{and_from, not-true, or_parts}
use Rattle.std.proofs.lemmas.List.Elements.{All-from_recursion, recursion_from_All}
use Rattle.std.proofs.lemmas.List.Folds.{list_any-append}
use Rattle.cg_cgroup.specs.Files.{same_entry}
use Rattle.cg_cgroup.specs.Identity.{Identity}
use Rattle.cg_cgroup.specs.Paths.{Names, same_path}
use Rattle.cg_cgroup.specs.Users.{IsUser, has_bit, in_group, owns, reaches, writes}
use Rattle.cg_cgroup.specs.declared.files.LimitFile.TheVariants.{MaxDescendants, MaxDepth}
use Rattle.cg_cgroup.specs.declared.user.Entry.{Entry}
use Rattle.cg_cgroup.proofs.CgroupLaws.{same_entry-refl}
use Rattle.cg_cgroup.proofs.PathOrder.{same_path_refl}
use Rattle.cg_model.specs.Advised.{AreCountable}
use Rattle.cg_model.specs.Clauses.{unless, present}
use Rattle.cg_model.specs.Guards.{Guarded, guarded_entries, guarded_entry, entry_failures, over_failures, GuardsHold, found, standing}
use Rattle.cg_model.specs.Limits.{fits_descendants, fits_depth}
use Rattle.cg_model.specs.Mended.{without_bits}
use Rattle.cg_model.specs.Mends.{limit_changes}
use Rattle.cg_model.specs.Once.{once}
use Rattle.cg_model.specs.States.{State, entry_at}
use Rattle.cg_model.specs.WellFormed.{IsWellFormed}
use Rattle.cg_model.specs.declared.guard.Failed.{Failed}
use Rattle.cg_model.specs.declared.guard.Guard.TheVariants.{AlreadyOver}
use Rattle.cg_model.specs.declared.guard.GuardedEntry.{GuardedEntry}
use Rattle.cg_model.specs.declared.mend.Class.TheVariants.{Owner, Group, Others}
use Rattle.cg_model.proofs.ClauseLaws.{no_parts, no_unless, none_each, each_none}
use Rattle.cg_model.proofs.LimitLaws.{fits_in, descendants-limit, depth-limit}
use Rattle.cg_model.proofs.Lists.{all-append, all-both, all-each}
use Rattle.cg_model.proofs.OnceLaws.{all-once}
use Rattle.cg_model.proofs.StateCounts.{count_below-same_paths, depth_below-same_paths}
use Rattle.cg_advice.specs.AdviceLines.{fails_line, over_line}
use Rattle.cg_advice.specs.WayLines.{Spot, chown_by, chmod_by}
use Rattle.cg_advice.proofs.Advising.{paths_of-made, enabled_at-made, told_text-made, rest-made, either_true, each-any, all_filtered, fits-raised, CanBeMade, IsMakeable, formed-made, all_flat, makeable, entry_mode, limits_makeable}
use Rattle.cg_advice.proofs.Running.{map_same, through-append, run_one, run, run-limits, entry_at-made, all-unless}
use Rattle.cg_advice.proofs.Taken.{group_kept, bits-le, group_shut, others_shut, group_stays, others_stays, nobodys, not_reaching, not_writing}
use Rattle.machine_everybody.specs.Everybody.{Everybody, is_left_out, has_members, lets_anybody_in}
use Rattle.cg_everybody.specs.Advice.{handed_back, ways_into, is_spot_at, same_spot, spots_met, spot_changes, everybody_changes, everybody_advised, taken_back, lets_in_at, is_asked_of, IsAdvisedToEverybody, advised_but, advised_but_limits}
use Rattle.cg_everybody.specs.Everybody.{entered_by, entrance_of, entrances, opens_to, classes_in, entrance_lines, excess_lines, GuardsHoldForEverybody}
use Rattle.cg_everybody.proofs.Changing.{leaves-all, IsSpotThere, entrances-there, entry_at-taken, value_at-taken, value_at-but_limits}
use Rattle.cg_everybody.proofs.Held.{none_of_three, no_lines, holds}

-- ---- an entry that is taken back

after_group : (group others some : Bool) (mode : ℕ) → (has_bit mode 16 && some) ≡ group
    → (has_bit (without_bits group others mode) 16 && some) ≡ false
after_group true others some mode is = ap (λ b. b && some) (group_shut others mode)
after_group false true some mode is = ap (λ b. b && some) (group_kept mode) ∙ is
after_group false false some mode is = is

after_others : (group others : Bool) (mode : ℕ) → has_bit mode 2 ≡ others → has_bit (without_bits group others mode) 2 ≡ false
after_others group true mode is = others_shut group mode
after_others group false mode is = others_stays group false mode is

module _ (asked : Everybody) (entry : Entry) where
  abbrev taken : Entry
  taken = taken_back asked entry

  abbrev given : Entry
  given = handed_back asked entry

  owner_gone : opens_to asked taken Owner ≡ false
  owner_gone = by_owner (is_left_out asked entry.uid) refl
    where
      by_owner : (b : Bool) → is_left_out asked entry.uid ≡ b → not (is_left_out asked (cond (not b) 0 entry.uid)) ≡ false
      by_owner true is = ap not is
      by_owner false is = refl

  -- it lets nobody in
  pub shut_back : lets_anybody_in asked taken ≡ false
  shut_back =
      none_of_three (opens_to asked taken Owner) (opens_to asked taken Group) (opens_to asked taken Others) owner_gone
      (after_group (opens_to asked given Group) (opens_to asked given Others) (has_members asked given) entry.mode refl)
      (after_others (opens_to asked given Group) (opens_to asked given Others) entry.mode refl)

  -- and nobody reaches it who didn't
  pub less_taken : (other : Identity) → IsUser other → reaches other entry ≡ false → reaches other taken ≡ false
  less_taken other is off =
      let parts = or_parts (writes other entry) (owns other entry) off in
      not_reaching other taken (not_owned (opens_to asked entry Owner) parts.1)
      (shut_stays (in_group other entry.gid) (not_writing other entry parts.0 parts.1))
    where
      not_owned : (b : Bool) → owns other entry ≡ false → nat_eq (cond b 0 entry.uid) other.uid ≡ false
      not_owned true stranger = nobodys other is
      not_owned false stranger = stranger

      shut_stays : (member : Bool) → cond member (has_bit entry.mode 16) (has_bit entry.mode 2) ≡ false
          → cond member (has_bit taken.mode 16) (has_bit taken.mode 2) ≡ false
      shut_stays true shut = group_stays (opens_to asked given Group) (opens_to asked given Others) entry.mode shut
      shut_stays false shut = others_stays (opens_to asked given Group) (opens_to asked given Others) entry.mode shut

-- each of a list is among it
all_asked : (front back : List Names) → AllByRecursion (λ subtree. is_asked_of (front ++ back) subtree ≡ true) back
all_asked front [] = tt
all_asked front (subtree ∷ back) = (
  list_any-append (λ other. same_path other subtree) front (subtree ∷ back)
      ∙ ap (λ b. is_asked_of front subtree || (b || is_asked_of back subtree)) (same_path_refl subtree)
      ∙ either_true (is_asked_of front subtree),
  subst (λ all. AllByRecursion (λ other. is_asked_of all other ≡ true) back) (append_assoc front (subtree ∷ []) back)
      (all_asked (front ++ subtree ∷ []) back),
)

module _ (st : State) (asked : Everybody) (subtrees : List Names) where
  abbrev new : State
  new = everybody_advised st asked subtrees

  fits_after : (path : Names) → (is_asked_of subtrees path ≡ false → (fits_descendants st path && fits_depth st path) ≡ true)
      → (fits_descendants new path && fits_depth new path) ≡ true
  fits_after path kept =
      fits-raised st new (paths_of-made (everybody_changes st asked subtrees) st) path (is_asked_of subtrees path)
      (value_at-taken st asked subtrees path) kept

  -- ---- with all changes nobody is let in

  module _ (subtree : Names)
      (among : (test : Spot → Bool) → list_any test (entrances st asked subtree) ≡ true
      → list_any test (flat_map (entrances st asked) subtrees) ≡ true) where
    module _ (guarded : Guarded)
        (within : (test : Spot → Bool) → list_any test (entrance_of st asked subtree guarded) ≡ true
        → list_any test (entrances st asked subtree) ≡ true) where
      abbrev met : Bool
      met = lets_in_at st asked subtrees (take guarded.len subtree) guarded.name

      is_met : (entry : Entry) → guarded_entry st subtree guarded ≡ Some entry → lets_anybody_in asked entry ≡ true → met ≡ true
      is_met entry is lets_in =
          let path = take guarded.len subtree in
          let here = is_spot_at path guarded.name in
          among here (within here
          (ap (λ o. list_any here (present (option_map (found guarded) o) (entered_by asked subtree))) is
          ∙ ap (λ b. list_any here (cond b ((subtree, found guarded entry) ∷ []) [])) lets_in
          ∙ ap (λ b. b || false)
          (and_from (same_path path path) (same_entry guarded.name guarded.name) (same_path_refl path) (same_entry-refl guarded.name))))

      shut_after : (entry : Entry) → guarded_entry st subtree guarded ≡ Some entry
          → lets_anybody_in asked (cond met (taken_back asked entry) entry) ≡ false
      shut_after entry is =
          elim (lets_anybody_in asked entry) as (λ b. lets_anybody_in asked entry ≡ b
          → lets_anybody_in asked (cond met (taken_back asked entry) entry) ≡ false) [
            | true ↦ λ lets_in.
                ap (λ b. lets_anybody_in asked (cond b (taken_back asked entry) entry)) (is_met entry is lets_in) ∙ shut_back asked entry
            | false ↦ λ out. either_way met out
          ] refl
        where
          either_way : (b : Bool) → lets_anybody_in asked entry ≡ false
              → lets_anybody_in asked (cond b (taken_back asked entry) entry) ≡ false
          either_way true out = shut_back asked entry
          either_way false out = out

      no_lines_after : entrance_lines new asked subtree guarded ≡ []
      no_lines_after =
          ap (λ o. present (option_map (found guarded) o) (λ at. flat_map (fails_line subtree at) (classes_in asked at.entry)))
          (entry_at-taken st asked subtrees (take guarded.len subtree) guarded.name)
          ∙ elim (guarded_entry st subtree guarded) as (λ o. guarded_entry st subtree guarded ≡ o
          → present (option_map (found guarded) (option_map (λ entry. cond met (taken_back asked entry) entry) o))
          (λ at. flat_map (fails_line subtree at) (classes_in asked at.entry)) ≡ []) [
            | None ↦ λ _. refl
            | Some entry ↦ λ is.
                no_lines asked subtree (found guarded (cond met (taken_back asked entry) entry)) (shut_after entry is)
          ] refl

    held_after : is_asked_of subtrees subtree ≡ true → GuardsHoldForEverybody new asked subtree
    held_after named =
        holds new asked subtree (λ i.
        each_none (entrance_lines new asked subtree) (guarded_entries subtree)
        (all-each _ (λ guarded. entrance_lines new asked subtree guarded ≡ []) (λ guarded within. no_lines_after guarded within)
        (guarded_entries subtree) (each-any (entrance_of st asked subtree) (guarded_entries subtree))) i
        ++ cond (fits_after subtree (λ other. let never : ⊥ = cc (named, other) in absurd never) i) [] (over_line subtree))

  pub mends-everybody : All (GuardsHoldForEverybody new asked) subtrees
  mends-everybody =
      All-from_recursion (GuardsHoldForEverybody new asked) subtrees
      (all-both _ (λ subtree. is_asked_of subtrees subtree ≡ true) (GuardsHoldForEverybody new asked)
      (λ subtree among named. held_after subtree among named) subtrees (each-any (entrances st asked) subtrees) (all_asked [] subtrees))

  -- ---- nobody is let in who wasn't

  kept_out : (other : Identity) (failed : Failed) (any : Bool) (here : Option Entry) → IsUser other
      → present here (λ e. unless (not (reaches other e)) failed) ≡ []
      → present (option_map (λ entry. cond any (taken_back asked entry) entry) here) (λ e. unless (not (reaches other e)) failed) ≡ []
  kept_out other failed any None is_user off = refl
  kept_out other failed true (Some entry) is_user off =
      ap (λ b. unless (not b) failed)
      (less_taken asked entry other is_user
      (not-true (reaches other entry) (no_unless (not (reaches other entry)) failed off)))
  kept_out other failed false (Some entry) is_user off = off

  pub opens-nobody : (other : Identity) (path : Names) → IsUser other → GuardsHold st other path → GuardsHold new other path
  opens-nobody other path is_user hold =
      let parts = no_parts (flat_map (entry_failures st other path) (guarded_entries path)) (over_failures st path) hold in
      λ i.
      each_none (entry_failures new other path) (guarded_entries path)
      (all-each (λ guarded. entry_failures st other path guarded ≡ []) (λ guarded. entry_failures new other path guarded ≡ [])
      (λ guarded off.
      ap (λ o. present o (λ e. unless (not (reaches other e)) (record { guard = guarded.guard; len = guarded.len })))
      (entry_at-taken st asked subtrees (take guarded.len path) guarded.name)
      ∙ kept_out other (record { guard = guarded.guard; len = guarded.len })
      (lets_in_at st asked subtrees (take guarded.len path) guarded.name) (guarded_entry st path guarded) is_user off)
      (guarded_entries path) (none_each (entry_failures st other path) (guarded_entries path) parts.0)) i
      ++ unless (fits_after path (λ _. no_unless _ _ parts.1) i) (record { guard = AlreadyOver; len = length path })

  -- ---- no change can be left out

  entry_at-but : (left : Spot)
      → entry_at (advised_but st asked subtrees left) (take left.1.len left.0) left.1.name
      ≡ entry_at st (take left.1.len left.0) left.1.name
  entry_at-but left =
      let path = take left.1.len left.0 in
      let rest = filter (λ spot. not (same_spot left spot)) (spots_met st asked subtrees) in
      entry_at-made path left.1.name (flat_map (spot_changes asked) rest ++ flat_map (limit_changes st) (once same_path subtrees)) st
      ∙ ap (λ f. option_map f (entry_at st path left.1.name)) (λ i entry. (through-append (run_one path left.1.name)
      (flat_map (spot_changes asked) rest) (flat_map (limit_changes st) (once same_path subtrees)) entry
      ∙ run-limits path left.1.name st (once same_path subtrees) (run path left.1.name (flat_map (spot_changes asked) rest) entry)
      ∙ leaves-all asked path left.1.name rest
      (all-each (λ spot. not (same_spot left spot) ≡ true) (λ spot. is_spot_at path left.1.name spot ≡ false)
      (λ spot apart. not-true _ apart) rest (all_filtered (λ spot. not (same_spot left spot)) (spots_met st asked subtrees)))
      entry) i)
      ∙ map_same (entry_at st path left.1.name)

  pub entry-needed : (left : Spot) (guarded : Guarded) → standing st left.0 guarded ≡ Some left.1
      → entrance_lines (advised_but st asked subtrees left) asked left.0 guarded ≡ entrance_lines st asked left.0 guarded
  entry-needed left guarded is =
      ap (λ o. present (option_map (found guarded) o) (λ at. flat_map (fails_line left.0 at) (classes_in asked at.entry)))
      ((λ i. entry_at (advised_but st asked subtrees left) (take (len_is i) left.0) (name_is i)) ∙ entry_at-but left
      ∙ (λ i. entry_at st (take (sym len_is i) left.0) (sym name_is i)))
    where
      placed : (o : Option Entry) → option_map (found guarded) o ≡ Some left.1
          → (guarded.len ≡ left.1.len) × (guarded.name ≡ left.1.name)
      placed None none = let never : ⊥ = cc in absurd never
      placed (Some e) some =
          let same : found guarded e ≡ left.1 = cc in (ap (λ (x : GuardedEntry). x.len) same, ap (λ (x : GuardedEntry). x.name) same)

      len_is : guarded.len ≡ left.1.len
      len_is = (placed (guarded_entry st left.0 guarded) is).0

      name_is : guarded.name ≡ left.1.name
      name_is = (placed (guarded_entry st left.0 guarded) is).1

  pub limits-needed : (subtree : Names) → excess_lines (advised_but_limits st asked subtrees) subtree ≡ excess_lines st subtree
  limits-needed subtree =
      let left = advised_but_limits st asked subtrees in
      let same = paths_of-made (flat_map (spot_changes asked) (spots_met st asked subtrees)) st in
      λ i. cond (
      (descendants-limit left subtree
      ∙ (λ j. fits_in (count_below-same_paths st left same subtree j) (value_at-but_limits st asked subtrees subtree MaxDescendants j))
      ∙ sym (descendants-limit st subtree)) i
      && (depth-limit left subtree
      ∙ (λ j. fits_in (depth_below-same_paths st left same subtree j) (value_at-but_limits st asked subtrees subtree MaxDepth j))
      ∙ sym (depth-limit st subtree)) i) [] (over_line subtree)

  -- ---- what else they leave

  pub changed-no_more : IsAdvisedToEverybody st new asked subtrees
  changed-no_more =
      let changes = everybody_changes st asked subtrees in
      let rest = rest-made changes st in record {
        entries = entry_at-taken st asked subtrees;
        values = value_at-taken st asked subtrees;
        texts = told_text-made changes st;
        enabled = enabled_at-made changes st;
        paths = paths_of-made changes st;
        live = rest.live;
        used = rest.used;
        controllers = rest.controllers;
      }

  abbrev HasMode : Spot → Type 0
  HasMode spot = spot.1.entry.mode ≤ 511

  spots_makeable : (spots : List Spot) → AllByRecursion HasMode spots → AllByRecursion IsMakeable (flat_map (spot_changes asked) spots)
  spots_makeable spots modes =
      all_flat IsMakeable HasMode (spot_changes asked) (λ spot small.
      let ways = ways_into asked spot.1.entry in
      makeable spot.0 (chown_by ways spot.1 ++ chmod_by ways spot.1)
      (all-append CanBeMade (chown_by ways spot.1) (chmod_by ways spot.1)
      (all-unless CanBeMade _ _ tt) (all-unless CanBeMade _ _ (bits-le ways.inside ways.outside spot.1.entry.mode small)))) spots modes

  pub formed-everybody : IsWellFormed st → All (AreCountable st) subtrees → IsWellFormed new
  formed-everybody formed few =
      let modes = all-each (IsSpotThere st) HasMode
      (λ spot there. entry_mode st formed (take spot.1.len spot.0) spot.1.name spot.1.entry there)
      (flat_map (entrances st asked) subtrees) (entrances-there st asked subtrees) in
      formed-made (everybody_changes st asked subtrees) st
      (all-append IsMakeable (flat_map (spot_changes asked) (spots_met st asked subtrees))
      (flat_map (limit_changes st) (once same_path subtrees))
      (spots_makeable (spots_met st asked subtrees) (all-once HasMode same_spot (flat_map (entrances st asked) subtrees) modes))
      (limits_makeable st formed (once same_path subtrees)
      (all-once (AreCountable st) same_path subtrees (recursion_from_All (AreCountable st) subtrees few))))
      formed
