-- What the changes of the advice do to one entry and to one value, one change after another.
use Rattle.std.proofs.Common.{◌≡◌, ℕ, Bool, true, false, cond, ◌||◌, not, nat_eq, List, [], ◌∷◌, refl, ap, ◌∙◌, Option, Some, None, option_map}
use Rattle.std.specs.List.{flat_map, list_any, AllByRecursion}
use Rattle.std.proofs.lemmas.Bool.{eqb-true}
use Rattle.cg_cgroup.specs.Cgroups.{with_mode_of}
use Rattle.cg_cgroup.specs.Paths.{Names, same_path}
use Rattle.cg_cgroup.specs.declared.files.EntryName.{EntryName}
use Rattle.cg_cgroup.specs.declared.files.Limit.{Limit}
use Rattle.cg_cgroup.specs.declared.files.LimitFile.{LimitFile}
use Rattle.cg_cgroup.specs.declared.user.Entry.{Entry}
use Rattle.cg_model.specs.Advised.{raised}
use Rattle.cg_model.specs.Clauses.{present}
use Rattle.cg_model.specs.Guards.{Guarded, guarded_entries, guarded_entry, found}
use Rattle.cg_model.specs.Mended.{without_bits}
use Rattle.cg_model.specs.Mends.{changes_at, limit_changes, owned_by}
use Rattle.cg_model.specs.Once.{once}
use Rattle.cg_model.specs.States.{State, entry_at, value_at}
use Rattle.cg_model.specs.declared.mend.Mend.TheVariants.{Chown, Chmod}
use Rattle.cg_model.proofs.Lists.{all-flat_map, all-each}
use Rattle.cg_model.proofs.OnceLaws.{any-once, all-once}
use Rattle.cg_advice.specs.WayLines.{Spot, chown_by, chmod_by}
use Rattle.cg_advice.proofs.Running.{map_same, same_either, through-append, through-at, through-unless, run_one, run, entry_at-made, run-limits, settled, alike, IsThere, this-there, hold_one, hold, value_at-made, hold-limits, among-once}
use Rattle.machine_everybody.specs.Everybody.{Everybody, lets_anybody_in}
use Rattle.cg_everybody.specs.Advice.{ways_into, is_spot_at, same_spot, spots_met, spot_changes, everybody_changes, everybody_advised, taken_back, lets_in_at, is_asked_of, advised_but_limits}
use Rattle.cg_everybody.specs.Everybody.{entered_by, entrance_of, entrances}
use Rattle.cg_everybody.proofs.AdviceWritten.{anybody_at}

-- ---- an entry

skipped : (test here : Bool) (new entry : Entry) → here ≡ false → cond test entry (cond here new entry) ≡ entry
skipped test here new entry other = ap (λ b. cond test entry (cond b new entry)) other ∙ same_either test entry

module _ (asked : Everybody) (path : Names) (name : EntryName) where
  -- changes of another entry leave it
  leaves : (spot : Spot) → is_spot_at path name spot ≡ false → (entry : Entry) → run path name (spot_changes asked spot) entry ≡ entry
  leaves spot other entry =
      let ways = ways_into asked spot.1.entry in
      let here = is_spot_at path name spot in
      let uid : ℕ = cond ways.owner 0 spot.1.entry.uid in
      let shut : ℕ = without_bits ways.inside ways.outside spot.1.entry.mode in
      through-at (run_one path name) spot.0 (chown_by ways spot.1) (chmod_by ways spot.1) entry
      ∙ ap (run path name (changes_at spot.0 (chmod_by ways spot.1)))
      (through-unless (run_one path name) (not ways.owner) spot.0 (Chown spot.1.len spot.1.name uid spot.1.entry.gid) entry
      ∙ skipped (not ways.owner) here (owned_by uid spot.1.entry.gid entry) entry other)
      ∙ through-unless (run_one path name) (nat_eq shut spot.1.entry.mode) spot.0 (Chmod spot.1.len spot.1.name shut) entry
      ∙ skipped (nat_eq shut spot.1.entry.mode) here (with_mode_of shut entry) entry other

  pub leaves-all : (spots : List Spot) → AllByRecursion (λ spot. is_spot_at path name spot ≡ false) spots → (entry : Entry)
      → run path name (flat_map (spot_changes asked) spots) entry ≡ entry
  leaves-all [] others entry = refl
  leaves-all (spot ∷ spots) others entry =
      through-append (run_one path name) (spot_changes asked spot) (flat_map (spot_changes asked) spots) entry
      ∙ ap (run path name (flat_map (spot_changes asked) spots)) (leaves spot others.0 entry)
      ∙ leaves-all spots others.1 entry

  module _ (entry : Entry) where
    -- the entry as it was, or taken back
    abbrev either : Bool → Entry
    either given = cond given (taken_back asked entry) entry

    -- the entry that lets somebody in is this one
    abbrev IsThis : Spot → Type 0
    IsThis spot = is_spot_at path name spot ≡ true → spot.1.entry ≡ entry

    -- what its own changes do to it
    abbrev step : Bool → Bool → Entry → Entry
    step given b e =
        let taken = taken_back asked e in
        let chowned : Entry =
        cond (not (ways_into asked e).owner) (either given) (cond b (owned_by taken.uid e.gid (either given)) (either given)) in
        cond (nat_eq taken.mode e.mode) chowned (cond b (with_mode_of taken.mode chowned) chowned)

    gives : (spot : Spot) → is_spot_at path name spot ≡ true → spot.1.entry ≡ entry → (given : Bool)
        → run path name (spot_changes asked spot) (either given) ≡ taken_back asked entry
    gives spot here same given =
        let ways = ways_into asked spot.1.entry in
        let new = taken_back asked spot.1.entry in
        let taken = taken_back asked entry in
        through-at (run_one path name) spot.0 (chown_by ways spot.1) (chmod_by ways spot.1) (either given)
        ∙ ap (run path name (changes_at spot.0 (chmod_by ways spot.1)))
        (through-unless (run_one path name) (not ways.owner) spot.0 (Chown spot.1.len spot.1.name new.uid spot.1.entry.gid) (either given))
        ∙ through-unless (run_one path name) (nat_eq new.mode spot.1.entry.mode) spot.0 (Chmod spot.1.len spot.1.name new.mode) _
        ∙ ap (λ b. step given b spot.1.entry) here
        ∙ ap (step given true) same
        ∙ settled (ways_into asked entry).owner given (nat_eq taken.mode entry.mode) entry.uid entry.gid entry.mode taken.mode
        (eqb-true taken.mode entry.mode)

    turn : (spot : Spot) → IsThis spot → (given : Bool)
        → run path name (spot_changes asked spot) (either given) ≡ cond (is_spot_at path name spot) (taken_back asked entry) (either given)
    turn spot this given =
        elim (is_spot_at path name spot) as (λ b. is_spot_at path name spot ≡ b
        → run path name (spot_changes asked spot) (either given) ≡ cond b (taken_back asked entry) (either given)) [
          | true ↦ λ here. gives spot here (this here) given
          | false ↦ λ other. leaves spot other (either given)
        ] refl

    walk : (spots : List Spot) → AllByRecursion IsThis spots → (given : Bool)
        → run path name (flat_map (spot_changes asked) spots) (either given)
        ≡ cond (list_any (is_spot_at path name) spots) (taken_back asked entry) (either given)
    walk [] these given = refl
    walk (spot ∷ spots) these given =
        through-append (run_one path name) (spot_changes asked spot) (flat_map (spot_changes asked) spots) (either given)
        ∙ ap (run path name (flat_map (spot_changes asked) spots)) (turn spot these.0 given)
        ∙ elim (is_spot_at path name spot) as (λ b. run path name (flat_map (spot_changes asked) spots)
        (cond b (taken_back asked entry) (either given))
        ≡ cond (b || list_any (is_spot_at path name) spots) (taken_back asked entry) (either given)) [
          | true ↦ walk spots these.1 true ∙ same_either (list_any (is_spot_at path name) spots) (taken_back asked entry)
          | false ↦ walk spots these.1 given
        ]

-- ---- what lets somebody in is there

abbrev pub IsSpotThere : State → Spot → Type 0
IsSpotThere st spot = IsThere st (anybody_at spot)

one-there : (P : Spot → Type 0) (b : Bool) (spot : Spot) → P spot → AllByRecursion P (cond b (spot ∷ []) [])
one-there P true spot is = (is, tt)
one-there P false spot is = tt

module _ (st : State) (asked : Everybody) where
  entrance-there : (subtree : Names) (guarded : Guarded) → AllByRecursion (IsSpotThere st) (entrance_of st asked subtree guarded)
  entrance-there subtree guarded =
      elim (guarded_entry st subtree guarded) as (λ o. guarded_entry st subtree guarded ≡ o
      → AllByRecursion (IsSpotThere st) (present (option_map (found guarded) o) (entered_by asked subtree))) [
        | None ↦ λ _. tt
        | Some entry ↦ λ is. one-there (IsSpotThere st) (lets_anybody_in asked entry) (subtree, found guarded entry) is
      ] refl

  pub entrances-there : (subtrees : List Names) → AllByRecursion (IsSpotThere st) (flat_map (entrances st asked) subtrees)
  entrances-there subtrees =
      all-flat_map (IsSpotThere st) (entrances st asked) subtrees (λ subtree.
      all-flat_map (IsSpotThere st) (entrance_of st asked subtree) (guarded_entries subtree) (entrance-there subtree))

  module _ (subtrees : List Names) where
    abbrev all : List Spot
    all = flat_map (entrances st asked) subtrees

    all_run : (path : Names) (name : EntryName) (entry : Entry) → entry_at st path name ≡ Some entry
        → run path name (everybody_changes st asked subtrees) entry
        ≡ cond (lets_in_at st asked subtrees path name) (taken_back asked entry) entry
    all_run path name entry is =
        through-append (run_one path name) (flat_map (spot_changes asked) (spots_met st asked subtrees))
        (flat_map (limit_changes st) (once same_path subtrees)) entry
        ∙ run-limits path name st (once same_path subtrees)
        (run path name (flat_map (spot_changes asked) (spots_met st asked subtrees)) entry)
        ∙ walk asked path name entry (spots_met st asked subtrees)
        (all-once (λ spot. is_spot_at path name spot ≡ true → spot.1.entry ≡ entry) same_spot all
        (all-each (IsSpotThere st) (λ spot. is_spot_at path name spot ≡ true → spot.1.entry ≡ entry)
        (λ spot there. this-there st path name entry is (anybody_at spot) there) all (entrances-there subtrees))) false
        ∙ ap (λ any. cond any (taken_back asked entry) entry)
        (any-once same_spot (is_spot_at path name) (λ spot other. alike path name (anybody_at spot) (anybody_at other)) all)

    -- each entry afterwards
    pub entry_at-taken : (path : Names) (name : EntryName)
        → entry_at (everybody_advised st asked subtrees) path name
        ≡ option_map (λ entry. cond (lets_in_at st asked subtrees path name) (taken_back asked entry) entry) (entry_at st path name)
    entry_at-taken path name =
        entry_at-made path name (everybody_changes st asked subtrees) st
        ∙ elim (entry_at st path name) as (λ o. entry_at st path name ≡ o
        → option_map (run path name (everybody_changes st asked subtrees)) o
        ≡ option_map (λ entry. cond (lets_in_at st asked subtrees path name) (taken_back asked entry) entry) o) [
          | None ↦ λ _. refl
          | Some entry ↦ λ is. ap Some (all_run path name entry is)
        ] refl

    -- ---- a value

    module _ (path : Names) (file : LimitFile) where
      -- the changes of entries leave it
      hold-spot : (spot : Spot) (limit : Limit) → hold path file (spot_changes asked spot) limit ≡ limit
      hold-spot spot limit =
          let ways = ways_into asked spot.1.entry in
          let taken = taken_back asked spot.1.entry in
          through-at (hold_one path file) spot.0 (chown_by ways spot.1) (chmod_by ways spot.1) limit
          ∙ ap (hold path file (changes_at spot.0 (chmod_by ways spot.1)))
          (through-unless (hold_one path file) (not ways.owner) spot.0 (Chown spot.1.len spot.1.name taken.uid spot.1.entry.gid) limit
          ∙ same_either (not ways.owner) limit)
          ∙ through-unless (hold_one path file) (nat_eq taken.mode spot.1.entry.mode) spot.0
          (Chmod spot.1.len spot.1.name taken.mode) limit
          ∙ same_either (nat_eq taken.mode spot.1.entry.mode) limit

      hold-spots : (spots : List Spot) (limit : Limit) → hold path file (flat_map (spot_changes asked) spots) limit ≡ limit
      hold-spots [] limit = refl
      hold-spots (spot ∷ spots) limit =
          through-append (hold_one path file) (spot_changes asked spot) (flat_map (spot_changes asked) spots) limit
          ∙ ap (hold path file (flat_map (spot_changes asked) spots)) (hold-spot spot limit)
          ∙ hold-spots spots limit

      all_held : (limit : Limit)
          → hold path file (everybody_changes st asked subtrees) limit
          ≡ cond (is_asked_of subtrees path) (raised st path file limit) limit
      all_held limit =
          through-append (hold_one path file) (flat_map (spot_changes asked) (spots_met st asked subtrees))
          (flat_map (limit_changes st) (once same_path subtrees)) limit
          ∙ ap (hold path file (flat_map (limit_changes st) (once same_path subtrees))) (hold-spots (spots_met st asked subtrees) limit)
          ∙ hold-limits st path file limit (once same_path subtrees) false
          ∙ ap (λ b. cond b (raised st path file limit) limit) (among-once subtrees path)

      -- each value afterwards
      pub value_at-taken : value_at (everybody_advised st asked subtrees) path file
          ≡ cond (is_asked_of subtrees path) (option_map (raised st path file) (value_at st path file)) (value_at st path file)
      value_at-taken =
          value_at-made path file (everybody_changes st asked subtrees) st
          ∙ ap (λ f. option_map f (value_at st path file)) (λ i limit. all_held limit i)
          ∙ out (is_asked_of subtrees path) (value_at st path file)
        where
          out : (b : Bool) (o : Option Limit)
              → option_map (λ limit. cond b (raised st path file limit) limit) o ≡ cond b (option_map (raised st path file) o) o
          out true o = refl
          out false o = map_same o

      -- without the changes of the limits each stays
      pub value_at-but_limits : value_at (advised_but_limits st asked subtrees) path file ≡ value_at st path file
      value_at-but_limits =
          value_at-made path file (flat_map (spot_changes asked) (spots_met st asked subtrees)) st
          ∙ ap (λ f. option_map f (value_at st path file)) (λ i limit. hold-spots (spots_met st asked subtrees) limit i)
          ∙ map_same (value_at st path file)
