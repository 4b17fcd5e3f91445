-- What the report of an audit says of the machine that a text tells of.
use Rattle.std.proofs.Common.{◌≡◌, ℕ, suc, Bool, true, false, cond, get_or, List, [], ◌∷◌, map, Some, None, unwrap_or, Result, Ok, Err, refl, sym, ap, ◌∙◌, subst, arith}
use Rattle.std.specs.List.{All, AllByRecursion, flat_map, list_any}
use Rattle.std.proofs.lemmas.List.Elements.{All-from_recursion, All-contains, Contains-get_or}
use Rattle.cg_cgroup.specs.Paths.{Names, same_path, path_at}
use Rattle.cg_cgroup.proofs.PathOrder.{same_path-is}
use Rattle.cg_cgroup.specs.Identity.{Identity}
use Rattle.cg_cgroup.specs.Users.{user_of}
use Rattle.cg_model.specs.States.{State}
use Rattle.cg_model.specs.Clauses.{first}
use Rattle.cg_model.specs.Guards.{GuardsHold, IsSubtree}
use Rattle.cg_model.specs.Strangers.{GuardsHoldForAll}
use Rattle.cg_model.specs.Answers.{answer}
use Rattle.cg_model.specs.AllAnswers.{pair_unless_contained, pairs_of, pairs_from, all_answers}
use Rattle.cg_model.specs.Checks.{subtree_faults, unless_fault, all_checked}
use Rattle.cg_model.specs.Listed.{Listed, listed_unless_contained, listed_of, listed}
use Rattle.cg_model.specs.Once.{once}
use Rattle.cg_model.specs.declared.answer.Answer.{Answer}
use Rattle.cg_model.specs.declared.answer.Answer.TheVariants.{Contained, Escapes, Unsettled}
use Rattle.cg_model.specs.declared.answer.AllAnswer.{AllAnswer}
use Rattle.cg_model.specs.declared.answer.AllAnswer.TheVariants as all
use Rattle.cg_model.proofs.ClauseLaws.{none_of_first, no_parts}
use Rattle.cg_check.proofs.Checking.{no_fault, answer-guarded}
use Rattle.cg_format.specs.Readings.{Reading, IsReading}
use Rattle.cg_format.specs.TextOf.{IsTextOf}
use Rattle.cg_cli.specs.AllPairs.{is_escape, pairs_status, read_then, pairs_found, all_report}
use Rattle.cg_cli.specs.Arguments.{user_read, path_read}
use Rattle.cg_cli.specs.Audits.{read_before, users_read, paths_read, audit_status, audit_answer_report, pairs_report, audit_report}
use Rattle.cg_cli.specs.Containment.{in_call}
use Rattle.cg_cli.specs.May.{tree_read}
use Rattle.cg_cli.specs.Reports.{report_on}
use Rattle.cg_cli.specs.Once.{same_user}
use Rattle.cg_cli.proofs.AuditOnce.{all_once, same_user-is}
use Rattle.cg_cli.proofs.AuditStatus.{IsNamed, named, status_is_contained}
use Rattle.cg_faults.specs.declared.fault.CliFault.{CliFault}
use Rattle.cg_escapes.proofs.EscapeReplays.{report_ok, found_is, status_is, unfaulted}
use Rattle.machine_view.specs.Views.{view}
use Rattle.machine_view.proofs.Seen.{contained-together, has-row}
use Rattle.machine_text.proofs.Rows.{names_as}
use Rattle.machine_text.proofs.Told.{tells}
use Rattle.machine_answers.specs.Contained.{of_ids, IsHeldIn, AreContainedIn}
use Rattle.machine_answers.proofs.GuardedLaws.{user_named, path_named, state_read}
use Rattle.machine_answers.proofs.MachineLaws.{user_is}

-- ---- lists that were read

read_both : {A : Type 0} (one : Result A CliFault) (rest : Result (List A) CliFault) (whole : List A) → read_before one rest ≡ Ok whole
    → (x : A) × (xs : List A) × (one ≡ Ok x) × (rest ≡ Ok xs) × (whole ≡ x ∷ xs)
read_both (Ok x) (Ok xs) whole is = (x, xs, refl, refl, same_ok (x ∷ xs) whole is)
  where
    same_ok : {B : Type 0} (x y : B) → ◌≡◌ {A = Result B CliFault} (Ok x) (Ok y) → y ≡ x
    same_ok x y h = cc
read_both (Ok x) (Err fault) whole is = let never : ⊥ = cc in absurd never
read_both (Err fault) rest whole is = let never : ⊥ = cc in absurd never

users_are : (given : List (ℕ × List ℕ)) (users : List Identity) → users_read given ≡ Ok users → users ≡ map of_ids given
users_are [] users is = let same : users ≡ [] = cc in same
users_are (ids ∷ given) users is =
    let both = read_both (user_read ids.0 ids.1) (users_read given) users is in
    let user = user_is ids.0 ids.1 both.0 (user_named _ (user_of ids.0 ids.1) both.0 both.2) in
    both.4 ∙ (λ i. user i ∷ users_are given both.1 both.3 i)

pub paths_held : (Q : Names → Type 0) (P : List ℕ → Type 0)
    → ((word : List ℕ) (subtree : Names) → path_at word ≡ Some subtree → Q subtree → P word)
    → (words : List (List ℕ)) (subtrees : List Names) → paths_read words ≡ Ok subtrees → AllByRecursion Q subtrees → AllByRecursion P words
paths_held Q P holds [] subtrees is each = tt
paths_held Q P holds (word ∷ words) subtrees is each =
    let both = read_both (path_read word) (paths_read words) subtrees is in
    let parts : AllByRecursion Q (both.0 ∷ both.1) = subst (AllByRecursion Q) both.4 each in (
      holds word both.0 (path_named (path_at word) both.0 both.2) parts.0,
      paths_held Q P holds words both.1 both.3 parts.1,
    )

-- ---- no pair is left

no_pair : (place from : ℕ) (found : Answer) → pair_unless_contained place from found ≡ [] → found ≡ Contained
no_pair place from Contained h = refl
no_pair place from (Escapes ops) h = cc
no_pair place from (Unsettled failed) h = cc

none_of_user : (st : State) (place : ℕ) (user : Identity) (from : ℕ) (subtrees : List Names) → pairs_of st place user from subtrees ≡ []
    → AllByRecursion (GuardsHold st user) subtrees
none_of_user st place user from [] none = tt
none_of_user st place user from (subtree ∷ subtrees) none =
    let parts = no_parts (pair_unless_contained place from (answer st user subtree)) _ none in (
      answer-guarded st user subtree (no_pair place from (answer st user subtree) parts.0),
      none_of_user st place user (suc from) subtrees parts.1,
    )

none_of_users : (st : State) (from : ℕ) (users : List Identity) (subtrees : List Names) → pairs_from st from users subtrees ≡ []
    → AllByRecursion (λ user. AllByRecursion (GuardsHold st user) subtrees) users
none_of_users st from [] subtrees none = tt
none_of_users st from (user ∷ users) subtrees none =
    let parts = no_parts (pairs_of st from user 0 subtrees) _ none in
    (none_of_user st from user 0 subtrees parts.0, none_of_users st (suc from) users subtrees parts.1)

first_none : (pairs : List AllAnswer) → AllByRecursion IsNamed pairs → unwrap_or (first pairs) all.Contained ≡ all.Contained
    → first pairs ≡ None
first_none [] each none = refl
first_none (pair ∷ pairs) each none = absurd (each.0 (ap audit_status none))

-- the guards of each subtree, for all users
abbrev IsClear : State → List Identity → Names → Type 0
IsClear st users subtree = IsSubtree st subtree × GuardsHoldForAll st users subtree

all_clear : (st : State) (users : List Identity) (subtrees : List Names)
    → first (flat_map (subtree_faults st) subtrees) ≡ None
    → AllByRecursion (λ user. AllByRecursion (GuardsHold st user) subtrees) users → AllByRecursion (IsClear st users) subtrees
all_clear st users [] none each = tt
all_clear st users (subtree ∷ subtrees) none each =
    let parts = no_parts (subtree_faults st subtree) (flat_map (subtree_faults st) subtrees) (none_of_first _ none) in (
      (
        no_fault st subtree (sym (ap first parts.0)),
        λ user among.
            All-contains (GuardsHold₁ subtree) users user (All-from_recursion _ users (firsts users each)) among,
      ),
      all_clear st users subtrees (ap first parts.1) (rests users each),
    )
  where
    GuardsHold₁ : Names → Identity → Type 0
    GuardsHold₁ subtree user = GuardsHold st user subtree

    firsts : (users : List Identity) → AllByRecursion (λ user. AllByRecursion (GuardsHold st user) (subtree ∷ subtrees)) users
        → AllByRecursion (λ user. GuardsHold st user subtree) users
    firsts [] each = tt
    firsts (user ∷ users) each = (each.0.0, firsts users each.1)

    rests : (users : List Identity) → AllByRecursion (λ user. AllByRecursion (GuardsHold st user) (subtree ∷ subtrees)) users
        → AllByRecursion (λ user. AllByRecursion (GuardsHold st user) subtrees) users
    rests [] each = tt
    rests (user ∷ users) each = (each.0.1, rests users each.1)

-- ---- what the machine holds

held_in : (text : List ℕ) (st : State) (of : IsTextOf st text) (users : List Identity) (word : List ℕ) (subtree : Names)
    → path_at word ≡ Some subtree → IsClear st users subtree → IsHeldIn (view st) users word
held_in text st of users word subtree path clear = record {
  subtree = subtree;
  named = names_as word subtree path;
  below = clear.0.1;
  there = has-row st subtree ∙ clear.0.0;
  contained = contained-together st users subtree of.says.formed clear.0 clear.1;
}

pub clear_in : (text : List ℕ) (st : State) → IsTextOf st text → (given : List (ℕ × List ℕ)) (words : List (List ℕ)) (users : List Identity)
    (subtrees : List Names) → users_read given ≡ Ok users → paths_read words ≡ Ok subtrees → AllByRecursion (IsClear st users) subtrees
    → AreContainedIn text (map of_ids given) words
clear_in text st of given words users subtrees of_users of_paths clear =
    subst (λ (users : List Identity). AreContainedIn text users words) (users_are given users of_users) (record {
      machine = view st;
      told = tells text st of;
      each = λ word among.
          All-contains (IsHeldIn (view st) users) words word
          (All-from_recursion _ words (paths_held (IsClear st users) (IsHeldIn (view st) users) (held_in text st of users) words subtrees
          of_paths clear)) among;
    })

pub audited_in : (text : List ℕ) (tree : Reading) (given : List (ℕ × List ℕ)) (words : List (List ℕ)) → IsReading text tree
    → (audit_report tree given words).ending ≡ Ok 0 → AreContainedIn text (map of_ids given) words
audited_in text tree given words reading is =
    let users =
    report_ok (users_read given) (λ users. report_on (paths_read words) (λ subtrees.
    report_on (tree_read tree) (λ st. pairs_report st users subtrees))) 0 is in
    let paths =
    report_ok (paths_read words) (λ subtrees. report_on (tree_read tree) (λ st. pairs_report st users.0 subtrees)) 0 users.2 in
    let state = report_ok (tree_read tree) (λ st. pairs_report st users.0 paths.0) 0 paths.2 in
    let st = state.0 in
    let one = report_ok (in_call (all_checked st users.0 paths.0)) (audit_answer_report users.0 paths.0) 0 state.2 in
    let found = found_is (all_checked st users.0 paths.0) one.0 one.1 in
    let contained = status_is_contained st users.0 paths.0 one.0 found (status_is (audit_status one.0) 0 one.2) in
    let stated =
    unfaulted (first (flat_map (subtree_faults st) paths.0)) (all_answers st users.0 paths.0) all.Contained (found ∙ ap Ok contained) in
    let clear = first_none (pairs_from st 0 users.0 paths.0) (named st 0 users.0 paths.0) stated.1 in
    clear_in text st (subst (IsReading text) (state_read tree st state.1) reading) given words users.0 paths.0 users.1 paths.1
    (all_clear st users.0 paths.0 stated.0 (none_of_users st 0 users.0 paths.0 (none_of_first _ clear)))

-- ---- where no pair is listed

unlisted_is : (user : Identity) (subtree : Names) (found : Answer) → listed_unless_contained user subtree found ≡ [] → found ≡ Contained
unlisted_is user subtree Contained none = refl
unlisted_is user subtree (Escapes ops) none = let never : ⊥ = cc in absurd never
unlisted_is user subtree (Unsettled failed) none = let never : ⊥ = cc in absurd never

unlisted_of : (st : State) (user : Identity) (subtrees : List Names) → listed_of st subtrees user ≡ []
    → AllByRecursion (GuardsHold st user) subtrees
unlisted_of st user [] none = tt
unlisted_of st user (subtree ∷ subtrees) none =
    let parts = no_parts (listed_unless_contained user subtree (answer st user subtree)) (listed_of st subtrees user) none in
    (answer-guarded st user subtree (unlisted_is user subtree (answer st user subtree) parts.0), unlisted_of st user subtrees parts.1)

unlisted_all : (st : State) (users : List Identity) (subtrees : List Names) → listed st users subtrees ≡ []
    → AllByRecursion (λ user. AllByRecursion (GuardsHold st user) subtrees) users
unlisted_all st [] subtrees none = tt
unlisted_all st (user ∷ users) subtrees none =
    let parts = no_parts (listed_of st subtrees user) (listed st users subtrees) none in
    (unlisted_of st user subtrees parts.0, unlisted_all st users subtrees parts.1)

none_status : (pairs : List Listed) → pairs_status pairs ≡ 0 → pairs ≡ []
none_status [] none = refl
none_status (pair ∷ pairs) none = by_escape (list_any (λ (each : Listed). is_escape each.found) (pair ∷ pairs)) none
  where
    by_escape : {P : Type 0} (b : Bool) → ◌≡◌ {A = ℕ} (cond b 1 2) 0 → P
    by_escape true h = let never : ⊥ = cc in absurd never
    by_escape false h = let never : ⊥ = cc in absurd never

pub one_by_one : {A : Type 0} (P : A → Type 0) (xs : List A) → All P xs → AllByRecursion P xs
one_by_one P [] all = tt
one_by_one P (x ∷ xs) all = (all 0 x (omega arith), one_by_one P xs (λ k d within. all (suc k) d (omega (arith, within))))

-- what is clear of lists in which each counts once is clear of all
clear_again : (st : State) (users : List Identity) (subtrees : List Names)
    → AllByRecursion (IsClear st (once same_user users)) (once same_path subtrees) → AllByRecursion (IsClear st users) subtrees
clear_again st users subtrees clear =
    one_by_one (IsClear st users) subtrees (all_once same_path same_path-is (IsClear st users) subtrees
    (λ k d within. for_users (get_or (once same_path subtrees) k d)
    (All-from_recursion (IsClear st (once same_user users)) (once same_path subtrees) clear k d within)))
  where
    for_users : (subtree : Names) → IsClear st (once same_user users) subtree → IsClear st users subtree
    for_users subtree clear = (
      clear.0,
      λ user among.
          All-contains (λ (user : Identity). GuardsHold st user subtree) users user
          (all_once same_user same_user-is (λ (user : Identity). GuardsHold st user subtree) users
          (λ k d within. clear.1 (get_or (once same_user users) k d) (Contains-get_or (once same_user users) k d within))) among,
    )

then_ok : {A B : Type 0} (one : Result A CliFault) (next : A → Result B CliFault) (found : B) → read_then one next ≡ Ok found
    → (x : A) × (one ≡ Ok x) × (next x ≡ Ok found)
then_ok (Ok x) next found is = (x, refl, is)
then_ok (Err fault) next found is = let never : ⊥ = cc in absurd never

pub all_audited_in : (text : List ℕ) (tree : Reading) (given : List (ℕ × List ℕ)) (words : List (List ℕ)) (pairs : List Listed)
    → IsReading text tree → all_report tree given words ≡ Ok pairs → pairs_status pairs ≡ 0
    → AreContainedIn text (map of_ids given) words
all_audited_in text tree given words pairs reading is none =
    let users = then_ok (users_read given) (λ users. read_then (paths_read words) (λ subtrees.
    read_then (tree_read tree) (λ st. pairs_found st (once same_user users) (once same_path subtrees)))) pairs is in
    let paths = then_ok (paths_read words) (λ subtrees.
    read_then (tree_read tree) (λ st. pairs_found st (once same_user users.0) (once same_path subtrees))) pairs users.2 in
    let state = then_ok (tree_read tree) (λ st. pairs_found st (once same_user users.0) (once same_path paths.0)) pairs paths.2 in
    let st = state.0 in
    let few : List Identity = once same_user users.0 in
    let tops : List Names = once same_path paths.0 in
    let stated =
    unfaulted (first (flat_map (subtree_faults st) tops)) (listed st few tops) pairs
    (found_is (unless_fault (first (flat_map (subtree_faults st) tops)) (listed st few tops)) pairs state.2) in
    let unlisted : listed st few tops ≡ [] = stated.1 ∙ none_status pairs none in
    clear_in text st (subst (IsReading text) (state_read tree st state.1) reading) given words users.0 paths.0 users.1 paths.1
    (clear_again st users.0 paths.0 (all_clear st few tops stated.0 (unlisted_all st few tops unlisted)))
