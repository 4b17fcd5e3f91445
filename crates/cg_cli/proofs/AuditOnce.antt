-- An audit of lists without what is named again says what one of the whole lists says.
use Rattle.std.proofs.Common.{◌≡◌, ◌≢◌, ℕ, zero, suc, ◌<◌, Bool, true, false, not, ◌&&◌, cond, nat_eq, List, [], ◌∷◌, ◌++◌, length, get_or, Option, Some, None, Result, Ok, Err, refl, sym, ap, ◌∙◌, subst, arith, codes}
use Rattle.std.specs.Prelude.{slice_get, unwrap_or}
use Rattle.std.specs.List.{All, AllByRecursion, Contains, filter, flat_map}
use Rattle.std.specs.Cmp.Lexicographic.{pointwise, bytes_decides}
use Rattle.std.proofs.lemmas.Bool.{eqb-true}
use Rattle.std.proofs.lemmas.List.{get_or-map}
use Rattle.std.proofs.lemmas.List.Elements.{All-contains, All-weaker, Contains-get_or}
use Rattle.std.proofs.lemmas.Option.{slice_get-get_or}
use Rattle.cg_cgroup.specs.Paths.{Names, same_path}
use Rattle.cg_cgroup.specs.Identity.{Identity}
use Rattle.cg_cgroup.proofs.PathOrder.{same_path-is}
use Rattle.cg_model.specs.States.{State}
use Rattle.cg_model.specs.Clauses.{first, present}
use Rattle.cg_model.specs.Steps.{after, after_all, Deed}
use Rattle.cg_model.proofs.ClauseLaws.{first_some}
use Rattle.cg_model.specs.Held.{IsHeld, AreBy}
use Rattle.cg_model.specs.Strangers.{OnlyTheseOpen, IsOfStranger}
use Rattle.cg_model.specs.Verdicts.{verdict}
use Rattle.cg_model.specs.declared.fault.CheckFault.{CheckFault}
use Rattle.cg_model.specs.declared.verdict.Clause.{Clause}
use Rattle.cg_model.specs.declared.verdict.Verdict.TheVariants.{Broken}
use Rattle.cg_model.specs.Answers.{answer}
use Rattle.cg_model.specs.AllAnswers.{pairs_from, all_answers}
use Rattle.cg_model.specs.Checks.{subtree_faults, unless_fault, all_checked}
use Rattle.cg_model.specs.Listed.{Listed, listed_unless_contained, listed_of, listed}
use Rattle.cg_check.specs.Listed.{listed_at}
use Rattle.cg_model.specs.Several.{AreContained}
use Rattle.cg_model.specs.declared.answer.AllAnswer.{AllAnswer}
use Rattle.cg_model.specs.declared.answer.AllAnswer.TheVariants.{Contained, Pair}
use Rattle.cg_check.proofs.ListedPairs.{pairs-listed}
use Rattle.cg_model.proofs.Lists.{all-each}
use Rattle.cg_report.specs.AnswerLines.{answer_text}
use Rattle.cg_report.specs.AuditLines.{subtree_at, pair_line, IsPairShown}
use Rattle.cg_report.proofs.ShownPairs.{audits_are_shown}
use Rattle.cg_cli.specs.Audits.{audit_status, audit_answer_report, pairs_report}
use Rattle.cg_cli.specs.Containment.{in_call, answer_status}
use Rattle.cg_model.specs.Once.{once}
use Rattle.cg_cli.specs.Once.{same_user}
use Rattle.cg_cli.specs.Reports.{Report, report_on}
use Rattle.cg_faults.specs.declared.fault.CliFault.{CliFault}
use Rattle.cg_cli.proofs.AuditStatus.{IsNamed, named, status_is_contained}

-- ---- the first of several lists

same_first : {R : Type 0} (here xs ys : List R) → first xs ≡ first ys → first (here ++ xs) ≡ first (here ++ ys)
same_first [] xs ys same = same
same_first (r ∷ rs) xs ys same = refl

joined_first : {R : Type 0} (here there xs ys : List R) → first here ≡ first there → first xs ≡ first ys
    → first (here ++ xs) ≡ first (there ++ ys)
joined_first [] [] xs ys same rest = rest
joined_first [] (r ∷ rs) xs ys same rest = let never : ⊥ = cc in absurd never
joined_first (r ∷ rs) [] xs ys same rest = let never : ⊥ = cc in absurd never
joined_first (r ∷ rs) (s ∷ ss) xs ys same rest = same

first_each : {A R : Type 0} (f g : A → List R) → ((x : A) → first (f x) ≡ first (g x)) → (xs : List A)
    → first (flat_map f xs) ≡ first (flat_map g xs)
first_each f g each [] = refl
first_each f g each (x ∷ xs) = joined_first (f x) (g x) (flat_map f xs) (flat_map g xs) (each x) (first_each f g each xs)

-- ---- what is named again

module _ {A : Type 0} (same : A → A → Bool) (means : (x y : A) → same x y ≡ true → x ≡ y) where
  -- those like one of whom there is nothing may be left out
  first_left : {R : Type 0} (f : A → List R) (x : A) (xs : List A) → f x ≡ []
      → first (flat_map f (filter (λ y. not (same x y)) xs)) ≡ first (flat_map f xs)
  first_left f x [] none = refl
  first_left f x (y ∷ ys) none =
      elim (same x y) as (λ b. same x y ≡ b → first
      (flat_map f (cond (not b) (y ∷ filter (λ z. not (same x z)) ys) (filter (λ z. not (same x z)) ys)))
      ≡ first (f y ++ flat_map f ys)) [
        | true ↦ λ is. first_left f x ys none ∙ sym (ap (λ here. first (here ++ flat_map f ys)) (sym (ap f (means x y is)) ∙ none))
        | false ↦ λ is. same_first (f y) _ _ (first_left f x ys none)
      ] refl

  first_once : {R : Type 0} (f : A → List R) (xs : List A) → first (flat_map f (once same xs)) ≡ first (flat_map f xs)
  first_once {R} f [] = refl
  first_once {R} f (x ∷ xs) = by_here (f x) refl (first_once f xs)
    where
      left : List A
      left = filter (λ y. not (same x y)) (once same xs)

      by_here : (here : List R) → f x ≡ here → first (flat_map f (once same xs)) ≡ first (flat_map f xs)
          → first (f x ++ flat_map f left) ≡ first (f x ++ flat_map f xs)
      by_here [] is rest = same_first (f x) _ _ (first_left f x (once same xs) is ∙ rest)
      by_here (r ∷ rs) is rest = first_some (f x) _ r (ap first is) ∙ sym (first_some (f x) _ r (ap first is))

  behind : (x y : A) (xs : List A) → Contains xs y → Contains (x ∷ xs) y
  behind x y xs at = (suc at.0, omega (arith, at.1), at.2)

  among_left : (x y : A) (xs : List A) (k : ℕ) → k < length xs → get_or xs k y ≡ y → same x y ≡ false
      → Contains (filter (λ z. not (same x z)) xs) y
  among_left x y [] k within is other = absurd (omega (arith, within))
  among_left x y (z ∷ xs) zero within is other =
      let e : same x z ≡ false = ap (same x) is ∙ other in
      subst (λ b. Contains (cond (not b) (z ∷ filter (λ w. not (same x w)) xs) (filter (λ w. not (same x w)) xs)) y) (sym e)
      (0, omega arith, is)
  among_left x y (z ∷ xs) (suc k) within is other =
      let rest = among_left x y xs k (omega (arith, within)) is other in
      elim (same x z) as (λ b. Contains (cond (not b) (z ∷ filter (λ w. not (same x w)) xs) (filter (λ w. not (same x w)) xs)) y) [
        | true ↦ rest
        | false ↦ behind z y (filter (λ w. not (same x w)) xs) rest
      ]

  among_at : (xs : List A) (y : A) (k : ℕ) → k < length xs → get_or xs k y ≡ y → Contains (once same xs) y
  among_at [] y k within is = absurd (omega (arith, within))
  among_at (x ∷ xs) y zero within is = (0, omega arith, is)
  among_at (x ∷ xs) y (suc k) within is =
      elim (same x y) as (λ b. same x y ≡ b → Contains (x ∷ filter (λ z. not (same x z)) (once same xs)) y) [
        | true ↦ λ e. (0, omega arith, means x y e)
        | false ↦ λ e. let rest = among_at xs y k (omega (arith, within)) is in
            behind x y (filter (λ z. not (same x z)) (once same xs)) (among_left x y (once same xs) rest.0 rest.1 rest.2 e)
      ] refl

  among_once : (xs : List A) (y : A) → Contains xs y → Contains (once same xs) y
  among_once xs y at = among_at xs y at.0 at.1 at.2

  pub all_once : (P : A → Type 0) (xs : List A) → All P (once same xs) → All P xs
  all_once P xs all k d within =
      All-contains P (once same xs) (get_or xs k d) all (among_once xs (get_or xs k d) (Contains-get_or xs k d within))

  pub some_once : (xs : List A) → xs ≢ [] → once same xs ≢ []
  some_once [] some none = some refl
  some_once (x ∷ xs) some none = cc

pub same_user-is : (user other : Identity) → same_user user other ≡ true → user ≡ other
same_user-is user other is =
    λ i. record { uid = eqb-true user.uid other.uid parts.0 i; gids = (bytes_decides user.gids other.gids).0 parts.1 i }
  where
    both_true : (a b : Bool) → a && b ≡ true → (a ≡ true) × (b ≡ true)
    both_true true b h = (refl, h)
    both_true false b h = let never : ⊥ = cc in absurd never

    parts : (nat_eq user.uid other.uid ≡ true) × (pointwise nat_eq user.gids other.gids ≡ true)
    parts = both_true (nat_eq user.uid other.uid) (pointwise nat_eq user.gids other.gids) is

-- ---- the report of the first pair

abbrev said : Option Listed → Report
said None = record { text = codes "contained\n"; ending = Ok 0 }
said (Some pair) =
    record { text = pair_line pair.user.uid pair.subtree ++ answer_text pair.subtree pair.found; ending = Ok (answer_status pair.found) }

one_said : (users : List Identity) (subtrees : List Names) (pairs : List AllAnswer) → AllByRecursion IsNamed pairs
    → IsPairShown users subtrees (unwrap_or (first pairs) Contained)
    → audit_answer_report users subtrees (unwrap_or (first pairs) Contained) ≡ said (first (flat_map (listed_at users subtrees) pairs))
one_said users subtrees [] names shown = refl
one_said users subtrees (Contained ∷ pairs) names shown = absurd (names.0 refl)
one_said users subtrees (Pair user subtree found ∷ pairs) names shown =
    ap of_uid (get_or-map (λ (who : Identity). who.uid) users user nobody 0 shown.0)
    ∙ sym (λ i. said (first (present (at_user i)
    (λ who. present (at_subtree i) (λ path. record { user = who; subtree = path; found = found } ∷ []))
    ++ flat_map (listed_at users subtrees) pairs)))
  where
    nobody : Identity
    nobody = record { uid = 0; gids = [] }

    of_uid : ℕ → Report
    of_uid uid =
        record {
          text = pair_line uid (subtree_at subtrees subtree) ++ answer_text (subtree_at subtrees subtree) found;
          ending = Ok (answer_status found);
        }

    at_user : slice_get users user ≡ Some (get_or users user nobody)
    at_user = slice_get-get_or users user nobody shown.0

    at_subtree : slice_get subtrees subtree ≡ Some (get_or subtrees subtree [])
    at_subtree = slice_get-get_or subtrees subtree [] shown.1

module _ (st : State) (users : List Identity) (subtrees : List Names) where
  by_fault : (fault : Option CheckFault) → first (flat_map (subtree_faults st) subtrees) ≡ fault
      → report_on (in_call (unless_fault fault (all_answers st users subtrees))) (audit_answer_report users subtrees)
      ≡ report_on (in_call (unless_fault fault (first (listed st users subtrees)))) said
  by_fault (Some fault) is = refl
  by_fault None is =
      one_said users subtrees (pairs_from st 0 users subtrees) (named st 0 users subtrees)
      (audits_are_shown st users subtrees (all_answers st users subtrees)
      (ap (λ fault. unless_fault fault (all_answers st users subtrees)) is))
      ∙ ap (λ pairs. said (first pairs)) (sym (pairs-listed st users subtrees))

  said_first : pairs_report st users subtrees
      ≡ report_on (in_call (unless_fault (first (flat_map (subtree_faults st) subtrees)) (first (listed st users subtrees)))) said
  said_first = by_fault (first (flat_map (subtree_faults st) subtrees)) refl

  first_listed : first (listed st (once same_user users) (once same_path subtrees)) ≡ first (listed st users subtrees)
  first_listed =
      first_once same_user same_user-is (listed_of st (once same_path subtrees)) users
      ∙ first_each (listed_of st (once same_path subtrees)) (listed_of st subtrees)
      (λ user. first_once same_path same_path-is (λ subtree. listed_unless_contained user subtree (answer st user subtree)) subtrees) users

-- of the first pair alone
pub said_once : (st : State) (users : List Identity) (subtrees : List Names)
    → pairs_report st (once same_user users) (once same_path subtrees) ≡ pairs_report st users subtrees
said_once st users subtrees =
    said_first st (once same_user users) (once same_path subtrees)
    ∙ (λ i. report_on
    (in_call (unless_fault (first_once same_path same_path-is (subtree_faults st) subtrees i) (first_listed st users subtrees i))) said)
    ∙ sym (said_first st users subtrees)

-- ---- what it means that all is contained

pub same_Ok : {A : Type 0} (x y : A) → let r : Result A CliFault = Ok x in let s : Result A CliFault = Ok y in r ≡ s → x ≡ y
same_Ok x y same = cc

module _ (users : List Identity) (subtrees : List Names) where
  ends_contained : (found : Result AllAnswer CheckFault) → ((one : AllAnswer) → found ≡ Ok one → audit_status one ≡ 0 → one ≡ Contained)
      → (report_on (in_call found) (audit_answer_report users subtrees)).ending ≡ Ok 0 → found ≡ Ok Contained
  ends_contained (Ok one) of_one is = ap Ok (of_one one refl (same_Ok (audit_status one) 0 is))
  ends_contained (Err fault) of_one is = let never : ⊥ = cc in absurd never

  still_all : (st : State) → all_checked st (once same_user users) (once same_path subtrees) ≡ Ok Contained
      → all_checked st users subtrees ≡ Ok Contained
  still_all st is =
      ends_contained (all_checked st users subtrees) (status_is_contained st users subtrees)
      (ap (λ (r : Report). r.ending) (sym (said_once st users subtrees))
      ∙ ap (λ (found : Result AllAnswer CheckFault).
      (report_on (in_call found) (audit_answer_report (once same_user users) (once same_path subtrees))).ending) is)

  pub by_once : (deeds : List Deed) → AreBy users deeds → AreBy (once same_user users) deeds
  by_once deeds by =
      all-each (λ deed. Contains users deed.0) (λ deed. Contains (once same_user users) deed.0)
      (λ deed at. among_once same_user same_user-is users deed.0 at) deeds by

  open_once : (st : State) (deeds : List Deed) (subtree : Names) → OnlyTheseOpen users st deeds subtree
      → OnlyTheseOpen (once same_user users) st deeds subtree
  open_once st [] subtree only = tt
  open_once st (deed ∷ deeds) subtree only =
      ((λ opens. among_once same_user same_user-is users deed.0 (only.0 opens)), open_once (after st deed.0 deed.1) deeds subtree only.1)

  stranger_of_all : (deeds : List Deed) (steps : ℕ) → IsOfStranger (once same_user users) deeds steps → IsOfStranger users deeds steps
  stranger_of_all deeds steps is = (is.0, is.1, is.2, is.3, λ among. is.4 (among_once same_user same_user-is users is.1.0 among))

  pub contained_once : (st : State) → AreContained st (once same_user users) (once same_path subtrees) → AreContained st users subtrees
  contained_once st are = record {
    held = λ deeds by. all_once same_path same_path-is (IsHeld st deeds) subtrees (are.held deeds (by_once deeds by));
    still = λ deeds by. still_all (after_all st deeds) (are.still deeds (by_once deeds by));
    strangers = λ deeds.
        all_once same_path same_path-is
        (λ subtree. OnlyTheseOpen users st deeds subtree → (steps : ℕ) (clause : Clause) → verdict st deeds subtree ≡ Broken steps clause
        → IsOfStranger users deeds steps) subtrees
        (All-weaker
        (λ subtree. OnlyTheseOpen (once same_user users) st deeds subtree → (steps : ℕ) (clause : Clause)
        → verdict st deeds subtree ≡ Broken steps clause → IsOfStranger (once same_user users) deeds steps)
        (λ subtree. OnlyTheseOpen users st deeds subtree → (steps : ℕ) (clause : Clause) → verdict st deeds subtree ≡ Broken steps clause
        → IsOfStranger users deeds steps)
        (λ subtree law only steps clause broken. stranger_of_all deeds steps (law (open_once st deeds subtree only) steps clause broken))
        (once same_path subtrees) (are.strangers deeds));
  }
