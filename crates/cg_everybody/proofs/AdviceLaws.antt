-- There is no advice exactly where all guards hold.
use Rattle.std.proofs.Common.{◌≡◌, Bool, true, false, cond, not, ◌&&◌, List, [], ◌∷◌, ◌++◌, filter, Option, Some, None, refl, sym, ap, ◌∙◌, subst}
use Rattle.std.specs.List.{AllByRecursion, flat_map}
use Rattle.cg_cgroup.specs.Paths.{Names, same_path}
use Rattle.cg_cgroup.proofs.PathOrder.{same_path-is}
use Rattle.cg_model.specs.Clauses.{present}
use Rattle.cg_model.specs.Guards.{guarded_entries, standing}
use Rattle.cg_model.specs.Limits.{fits_descendants, fits_depth}
use Rattle.cg_model.specs.Mends.{limit_mends}
use Rattle.cg_model.specs.Once.{once}
use Rattle.cg_model.specs.States.{State}
use Rattle.cg_model.specs.declared.guard.GuardedEntry.{GuardedEntry}
use Rattle.cg_model.proofs.ClauseLaws.{no_parts, none_each, each_none}
use Rattle.cg_model.proofs.Lists.{all-flat_map, all-each, all-both}
use Rattle.cg_model.proofs.OnceLaws.{all-once}
use Rattle.cg_advice.specs.AdviceLines.{over_line, over_lines, mend_lines}
use Rattle.cg_advice.specs.WayLines.{Spot, chown_by, chmod_by}
use Rattle.machine_everybody.specs.Everybody.{Everybody, lets_anybody_in}
use Rattle.cg_everybody.specs.Advice.{ways_into, same_spot, spots_met, spot_lines, everybody_advice}
use Rattle.cg_everybody.specs.Everybody.{entered_by, entrance_of, entrances, entrance_lines, excess_lines, found_lines, GuardsHoldForEverybody}
use Rattle.cg_everybody.specs.Entrances.{class_lines}
use Rattle.cg_everybody.proofs.Entering.{entrances-lines}
use Rattle.cg_everybody.proofs.Held.{shut, fit, holds, none_found}

-- what stands once is all that stands
all-not_same : (P : Names → Type 0) (x : Names) (zs : List Names) → P x → AllByRecursion P (filter (λ y. not (same_path x y)) zs)
    → AllByRecursion P zs
all-not_same P x [] first all = tt
all-not_same P x (z ∷ zs) first all =
    elim (same_path x z) as (λ b. same_path x z ≡ b
    → AllByRecursion P (cond (not b) (z ∷ filter (λ y. not (same_path x y)) zs) (filter (λ y. not (same_path x y)) zs))
    → AllByRecursion P (z ∷ zs)) [
      | true ↦ λ is all. (subst P (same_path-is x z is) first, all-not_same P x zs first all)
      | false ↦ λ is all. (all.0, all-not_same P x zs first all.1)
    ] refl all

all-of_once : (P : Names → Type 0) (xs : List Names) → AllByRecursion P (once same_path xs) → AllByRecursion P xs
all-of_once P [] all = tt
all-of_once P (x ∷ xs) all = (all.0, all-of_once P xs (all-not_same P x (once same_path xs) all.0 all.1))

module _ (st : State) (asked : Everybody) where
  abbrev LetsIn : Spot → Type 0
  LetsIn spot = lets_anybody_in asked spot.1.entry ≡ true

  one-lets_in : (subtree : Names) (here : Option GuardedEntry) → AllByRecursion LetsIn (present here (entered_by asked subtree))
  one-lets_in subtree None = tt
  one-lets_in subtree (Some at) =
      elim (lets_anybody_in asked at.entry) as
      (λ b. lets_anybody_in asked at.entry ≡ b → AllByRecursion LetsIn (cond b ((subtree, at) ∷ []) [])) [
        | true ↦ λ is. (is, tt)
        | false ↦ λ _. tt
      ] refl

  let_in : (subtree : Names) → AllByRecursion LetsIn (entrances st asked subtree)
  let_in subtree =
      all-flat_map LetsIn (entrance_of st asked subtree) (guarded_entries subtree)
      (λ guarded. one-lets_in subtree (standing st subtree guarded))

  all-let_in : (subtrees : List Names) → AllByRecursion LetsIn (flat_map (entrances st asked) subtrees)
  all-let_in subtrees = all-flat_map LetsIn (entrances st asked) subtrees let_in

  -- what lets somebody in has lines
  some_lines : (spot : Spot) → LetsIn spot → class_lines asked spot ≡ [] → ⊥
  some_lines spot is none = let out = shut asked spot.0 spot.1 none in let never : ⊥ = cc (is, out) in never

  none_in : (spots : List Spot) → AllByRecursion LetsIn spots → flat_map (class_lines asked) spots ≡ [] → spots ≡ []
  none_in [] all none = refl
  none_in (spot ∷ spots) all none =
      absurd (some_lines spot all.0 (no_parts (class_lines asked spot) (flat_map (class_lines asked) spots) none).0)

  none_met : (spots : List Spot) → AllByRecursion LetsIn spots → flat_map (spot_lines asked) (once same_spot spots) ≡ []
      → spots ≡ []
  none_met [] all none = refl
  none_met (spot ∷ spots) all none =
      let ways = ways_into asked spot.1.entry in
      let first = (no_parts (spot_lines asked spot)
      (flat_map (spot_lines asked) (filter (λ y. not (same_spot spot y)) (once same_spot spots))) none).0 in
      absurd (some_lines spot all.0
      (no_parts (class_lines asked spot) (mend_lines spot.0 (chown_by ways spot.1 ++ chmod_by ways spot.1)) first).0)

  -- limits
  abbrev fits : Names → Bool
  fits subtree = fits_descendants st subtree && fits_depth st subtree

  no_excess : (subtree : Names) (b : Bool) → cond b [] (over_line subtree ++ mend_lines subtree (limit_mends st subtree)) ≡ []
      → cond b [] (over_line subtree) ≡ []
  no_excess subtree true none = refl
  no_excess subtree false none = (no_parts (over_line subtree) (mend_lines subtree (limit_mends st subtree)) none).0

  open_excess : (subtree : Names) (b : Bool) → b ≡ true → cond b [] (over_line subtree ++ mend_lines subtree (limit_mends st subtree)) ≡ []
  open_excess subtree b is = ap (λ c. cond c [] (over_line subtree ++ mend_lines subtree (limit_mends st subtree))) is

  pub holds-each : (subtrees : List Names) → everybody_advice st asked subtrees ≡ []
      → AllByRecursion (GuardsHoldForEverybody st asked) subtrees
  holds-each subtrees none =
      let parts = no_parts (flat_map (spot_lines asked) (spots_met st asked subtrees)) (flat_map (over_lines st) (once same_path subtrees))
      none in
      let closed = none_each (entrances st asked) subtrees
      (none_met (flat_map (entrances st asked) subtrees) (all-let_in subtrees) parts.0) in
      let within = all-of_once (λ subtree. over_lines st subtree ≡ []) subtrees
      (none_each (over_lines st) (once same_path subtrees) parts.1) in
      all-both (λ subtree. entrances st asked subtree ≡ []) (λ subtree. over_lines st subtree ≡ []) (GuardsHoldForEverybody st asked)
      (λ subtree shut_off fit. holds st asked subtree
      (λ i. (sym (entrances-lines st asked subtree) ∙ ap (flat_map (class_lines asked)) shut_off) i
      ++ no_excess subtree (fits subtree) fit i)) subtrees closed within

  pub none-advised : (subtrees : List Names) → AllByRecursion (GuardsHoldForEverybody st asked) subtrees
      → everybody_advice st asked subtrees ≡ []
  none-advised subtrees held =
      let found = all-each (GuardsHoldForEverybody st asked) (λ subtree. found_lines st asked subtree ≡ [])
      (λ subtree all. none_found st asked subtree all) subtrees held in
      let closed = all-each (λ subtree. found_lines st asked subtree ≡ []) (λ subtree. entrances st asked subtree ≡ [])
      (λ subtree none. none_in (entrances st asked subtree) (let_in subtree)
      (entrances-lines st asked subtree
      ∙ (no_parts (flat_map (entrance_lines st asked subtree) (guarded_entries subtree)) (excess_lines st subtree) none).0))
      subtrees found in
      let within = all-each (λ subtree. found_lines st asked subtree ≡ []) (λ subtree. over_lines st subtree ≡ [])
      (λ subtree none. fitting subtree
      (no_parts (flat_map (entrance_lines st asked subtree) (guarded_entries subtree)) (excess_lines st subtree) none).1) subtrees found in
      (λ i. flat_map (spot_lines asked) (once same_spot (each_none (entrances st asked) subtrees closed i))
      ++ each_none (over_lines st) (once same_path subtrees) (all-once (λ subtree. over_lines st subtree ≡ []) same_path subtrees within) i)
    where
      fitting : (subtree : Names) → excess_lines st subtree ≡ [] → over_lines st subtree ≡ []
      fitting subtree none = open_excess subtree (fits subtree) (fit st asked subtree (fits subtree) none)
