-- The objects on everybody have no float, and nest less deep than what is read may.
use Rattle.std.proofs.Common.{ℕ, suc, ◌≤◌, Bool, true, false, ◌&&◌, cond, List, [], ◌∷◌, ◌++◌, map, codes, Option, Some, None, arith}
use Rattle.std.specs.List.{flat_map}
use Rattle.std.specs.Option.{option_map}
use Rattle.cg_cgroup.specs.Paths.{Names, path_text, same_path}
use Rattle.cg_model.specs.Clauses.{present}
use Rattle.cg_model.specs.Guards.{Guarded, guarded_entries, standing}
use Rattle.cg_model.specs.GuardNames.{guard_name}
use Rattle.cg_model.specs.Limits.{fits_descendants, fits_depth}
use Rattle.cg_model.specs.Once.{once}
use Rattle.cg_model.specs.States.{State, row_at}
use Rattle.cg_model.specs.declared.guard.Guard.TheVariants.{AlreadyOver}
use Rattle.cg_model.specs.declared.guard.GuardedEntry.{GuardedEntry}
use Rattle.cg_advice.specs.Found.{raised_of}
use Rattle.cg_advice.specs.WayLines.{Spot}
use Rattle.serde_json.specs.Data.{Data, array, object, Members, no_members}
use Rattle.serde_json.specs.View.{items_of}
use Rattle.cg_json.specs.Members.{each_value, numbers_value}
use Rattle.cg_json.specs.Entries.{at_guard, classes_value}
use Rattle.cg_json.proofs.Plain.{IsPlain, ArePlain, put_plain, text_more, number_more, none_plain, object_plain, list_plain, numbers_plain, deeper}
use Rattle.cg_json.proofs.PlainAdvice.{guard_plain, at_plain, classes_plain, failing_plain}
use Rattle.cg_explain.specs.Counted.{counts_of}
use Rattle.cg_explain.specs.FirstRow.{is_told_of}
use Rattle.cg_explain.specs.Objects.{told_value, limits_values}
use Rattle.cg_explain.proofs.PlainObjects.{AllArePlain, all_plain, each_plain, told_plain, counts_plain}
use Rattle.machine_everybody.specs.Everybody.{Everybody, lets_anybody_in}
use Rattle.cg_everybody.specs.Advice.{ways_into, spots_met, let_into}
use Rattle.cg_everybody.specs.Everybody.{classes_in, entrances}
use Rattle.cg_everybody.specs.Objects.{group_value, put_premises, found_answer, found_members, subtree_value, entrance_value, excess_values, found_values, headed_values, subtree_audited, audited_members, by_class, entry_values, guarded_values, guards_values, subtree_explained_value, explained_members, changes_members, or_contained, advised_members}

-- ---- lists

one_list : (n : ℕ) (values others : List Data) → AllArePlain n values → AllArePlain n others → AllArePlain n (values ++ others)
one_list n [] others all more = more
one_list n (value ∷ values) others all more = (all.0, one_list n values others all.1 more)

many_lists : {A : Type 0} (values : A → List Data) (n : ℕ) → ((x : A) → AllArePlain n (values x)) → (xs : List A)
    → AllArePlain n (flat_map values xs)
many_lists values n every [] = tt
many_lists values n every (x ∷ xs) = one_list n (values x) (flat_map values xs) (every x) (many_lists values n every xs)

-- ---- what an answer stands on

group_plain : (group : ℕ × List ℕ) → IsPlain (group_value group) 2
group_plain group =
    object_plain _ 1 (put_plain (codes "uids") (numbers_value group.1) _ 1 (numbers_plain group.1)
    (number_more (codes "gid") group.0 no_members 1 (none_plain 1)))

premises_more : (asked : Everybody) (ms : Members) (n : ℕ) → 3 ≤ n → ArePlain ms n → ArePlain (put_premises asked ms) n
premises_more asked ms n room p =
    put_plain (codes "groups") (each_value group_value asked.groups) _ n
    (deeper (each_value group_value asked.groups) 3 n room (list_plain group_value 2 asked.groups group_plain))
    (put_plain (codes "but") (numbers_value asked.but) ms n
    (deeper (numbers_value asked.but) 1 n (omega (arith, room)) (numbers_plain asked.but)) p)

-- ---- subtrees

answer_plain : (found : Bool) (n : ℕ) → ArePlain (found_answer found) n
answer_plain false n = text_more (codes "answer") (codes "contained") no_members n (none_plain n)
answer_plain true n = text_more (codes "answer") (codes "fails") no_members n (none_plain n)

found_members_plain : (asked : Everybody) (found : Bool) (subtrees : List Data) (n : ℕ) → 2 ≤ n → AllArePlain n subtrees
    → ArePlain (found_members asked found subtrees) (suc n)
found_members_plain asked found subtrees n room all =
    premises_more asked _ (suc n) (omega (arith, room))
    (put_plain (codes "subtrees") (array (items_of subtrees)) _ (suc n) (all_plain n subtrees all) (answer_plain found (suc n)))

subtree_plain : (name : List ℕ) (subtree : Names) (values : List Data) (n : ℕ) → AllArePlain n values
    → IsPlain (subtree_value name subtree values) (suc (suc n))
subtree_plain name subtree values n all =
    object_plain _ (suc n) (put_plain name (array (items_of values)) _ (suc n) (all_plain n values all)
    (text_more (codes "subtree") (path_text subtree) no_members (suc n) (none_plain (suc n))))

-- ---- whom a subtree is broken by

entrance_plain : (asked : Everybody) (spot : Spot) → IsPlain (entrance_value asked spot) 3
entrance_plain asked spot =
    let ways = ways_into asked spot.1.entry in
    object_plain _ 2 (put_plain (codes "classes") (classes_value ways) _ 2 (classes_plain ways) (at_plain spot.0 spot.1 2))

over_plain : (subtree : Names) (fits : Bool)
    → AllArePlain 3 (cond fits [] (object (at_guard (guard_name AlreadyOver) (path_text subtree)) ∷ []))
over_plain subtree true = tt
over_plain subtree false = (object_plain _ 2 (guard_plain (guard_name AlreadyOver) (path_text subtree) 2), tt)

found_plain : (st : State) (asked : Everybody) (subtree : Names) → AllArePlain 3 (found_values st asked subtree)
found_plain st asked subtree =
    one_list 3 (map (entrance_value asked) (entrances st asked subtree)) (excess_values st subtree)
    (each_plain (entrance_value asked) 3 (entrance_plain asked) (entrances st asked subtree))
    (over_plain subtree (fits_descendants st subtree && fits_depth st subtree))

headed_plain : (subtree : Names) (values : List Data) → AllArePlain 3 values → AllArePlain 5 (headed_values subtree values)
headed_plain subtree [] all = tt
headed_plain subtree (value ∷ values) all = (subtree_plain (codes "fails") subtree (value ∷ values) 3 all, tt)

pub audited_plain : (st : State) (asked : Everybody) (subtrees : List Names) (found : Bool)
    → ArePlain (audited_members st asked subtrees found) 6
audited_plain st asked subtrees found =
    found_members_plain asked found (flat_map (subtree_audited st asked) subtrees) 5 (omega arith)
    (many_lists (subtree_audited st asked) 5
    (λ subtree. headed_plain subtree (found_values st asked subtree) (found_plain st asked subtree)) subtrees)

-- ---- whom each guarded entry lets in

entry_told_plain : (subtree : Names) (at : GuardedEntry) (asked : Everybody) (is_open is_told : Bool)
    → AllArePlain 1 (cond is_open (map (by_class subtree at) (classes_in asked at.entry))
    (cond is_told (told_value subtree (record { at = at; by = None }) ∷ []) []))
entry_told_plain subtree at asked true is_told =
    each_plain (by_class subtree at) 1 (λ class. told_plain subtree (record { at = at; by = Some class })) (classes_in asked at.entry)
entry_told_plain subtree at asked false true = (told_plain subtree (record { at = at; by = None }), tt)
entry_told_plain subtree at asked false false = tt

standing_plain : (st : State) (asked : Everybody) (subtree : Names) (here : Option GuardedEntry)
    → AllArePlain 1 (present here (entry_values st asked subtree))
standing_plain st asked subtree None = tt
standing_plain st asked subtree (Some at) =
    entry_told_plain subtree at asked (lets_anybody_in asked at.entry) (is_told_of st subtree at.name)

guards_plain : (st : State) (asked : Everybody) (subtree : Names) → AllArePlain 1 (guards_values st asked subtree)
guards_plain st asked subtree =
    one_list 1 (flat_map (guarded_values st asked subtree) (guarded_entries subtree)) (limits_values st subtree)
    (many_lists (guarded_values st asked subtree) 1
    (λ (guarded : Guarded). standing_plain st asked subtree (standing st subtree guarded)) (guarded_entries subtree))
    (counts_plain subtree (option_map (counts_of st subtree) (row_at st subtree)))

pub explained_plain : (st : State) (asked : Everybody) (subtrees : List Names) (found : Bool)
    → ArePlain (explained_members st asked subtrees found) 4
explained_plain st asked subtrees found =
    found_members_plain asked found (map (subtree_explained_value st asked) subtrees) 3 (omega arith)
    (each_plain (subtree_explained_value st asked) 3
    (λ subtree. subtree_plain (codes "guards") subtree (guards_values st asked subtree) 1 (guards_plain st asked subtree)) subtrees)

-- ---- what to change

contained_plain : (found : Bool) (ms : Members) → ArePlain ms 4 → ArePlain (or_contained found ms) 4
contained_plain false ms p = text_more (codes "answer") (codes "contained") no_members 4 (none_plain 4)
contained_plain true ms p = p

pub advised_plain : (st : State) (asked : Everybody) (subtrees : List Names) (found : Bool)
    → ArePlain (advised_members st asked subtrees found) 4
advised_plain st asked subtrees found =
    premises_more asked _ 4 (omega arith) (contained_plain found (changes_members st asked subtrees)
    (failing_plain (map (let_into asked) (spots_met st asked subtrees)) (flat_map (raised_of st) (once same_path subtrees))))
