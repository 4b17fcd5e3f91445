-- What is found to be changed, as the definitions say it.
use Rattle.std.proofs.Common.{◌≡◌, ℕ, length, Option, Some, None, Bool, true, false, not, cond, ◌&&◌, List, [], ◌∷◌, ◌++◌, map, refl, sym, ap, ◌∙◌}
use Rattle.std.specs.List.{flat_map}
use Rattle.std.proofs.lemmas.Bool.{not-true}
use Rattle.cg_cgroup.specs.Paths.{Names, same_path}
use Rattle.cg_cgroup.specs.declared.files.Limit.TheVariants.{At}
use Rattle.cg_cgroup.specs.declared.files.LimitFile.{LimitFile}
use Rattle.cg_model.specs.Clauses.{unless}
use Rattle.cg_model.specs.declared.mend.Mend.TheVariants.{Set}
use Rattle.cg_model.specs.States.{State}
use Rattle.cg_model.specs.Once.{once}
use Rattle.cg_model.specs.Limits.{fits_descendants, fits_depth}
use Rattle.cg_model.specs.Mends.{Pair as Named, Entrant as Entering, entrants, same_place, met, descendants_of, depth_of, limit_mends}
use Rattle.cg_model.specs.declared.mend.Mend.{Mend}
use Rattle.cg_model.proofs.OnceLaws.{all-once}
use Rattle.cg_advice.specs.Found.{Let, let_gathered, Raised, raised_to, raised_of, parts_of}
use Rattle.cg_advice.specs.Thinned.{IsThinned, key_at, table_path, HaveEntered}
use Rattle.cg_advice.specs.declared.table.Table.{Table}
use Rattle.cg_advice.proofs.Gathering.{lets_same}
use Rattle.cg_advice.proofs.Running.{IsThere, entrants-there}

pub one_each : {A B : Type 0} (g : A → B) (xs : List A) → flat_map (λ x. g x ∷ []) xs ≡ map g xs
one_each g [] = refl
one_each g (x ∷ xs) = ap (λ l. g x ∷ l) (one_each g xs)

-- those who get in by something new tell as much as all
lets_thinned : (found all : List Entering) → IsThinned found all
    → map (let_gathered found) (once same_place found) ≡ map (let_gathered all) (once same_place all)
lets_thinned found all thinned =
    ap (map (let_gathered found)) thinned.thin.first
    ∙ (λ i. map (λ each. (each.subtree, each.at, thinned.ways (key_at each.subtree each.at) i)) (once same_place all))

pub all_found : (st : State) (pairs : List Named) (found : List Entering) (tables : List Table) (lets : List Let) (raised : List Raised)
    → HaveEntered st pairs found tables → lets ≡ map (let_gathered found) (once same_place found)
    → raised ≡ flat_map (raised_of st) (once same_path (map table_path tables)) → (lets, raised) ≡ parts_of st pairs
all_found st pairs found tables lets raised met_all are over =
    let there = entrants-there st pairs in
    let all_lets =
    are ∙ lets_thinned found (entrants st pairs) met_all.thinned
    ∙ lets_same st (entrants st pairs) there (met st pairs) (all-once (IsThere st) same_place (entrants st pairs) there) in
    let all_raised = over ∙ ap (flat_map (raised_of st)) met_all.named.first in
    λ i. (all_lets i, all_raised i)

-- a subtree that is over its limits
pub excess_raised : (subtree : Names) (file : LimitFile) (fits : Bool) (there : ℕ) (excess : Option ℕ)
    → excess ≡ cond fits None (Some there)
    → raised_to subtree file excess ≡ unless fits (Set (length subtree) file (At there))
excess_raised subtree file fits there excess is = ap (raised_to subtree file) is ∙ by_test fits
  where
    by_test : (fits : Bool) → raised_to subtree file (cond fits None (Some there)) ≡ unless fits (Set (length subtree) file (At there))
    by_test true = refl
    by_test false = refl

pub over_is : (st : State) (subtree : Names) (descendants depth : List Mend)
    → not (fits_descendants st subtree && fits_depth st subtree) ≡ true
    → descendants ≡ descendants_of st subtree → depth ≡ depth_of st subtree
    → ◌≡◌ {A = List Raised} ((subtree, descendants ++ depth) ∷ []) (raised_of st subtree)
over_is st subtree descendants depth is_over d h =
    (λ i. (subtree, d i ++ h i) ∷ [])
    ∙ ap (λ fits. cond fits [] ((subtree, limit_mends st subtree) ∷ [])) (sym (not-true _ is_over))
