-- What the status of an answer on everybody says of the subtrees, and what the advice leaves of them.
use Rattle.std.proofs.Common.{◌≡◌, ◌≢◌, ℕ, List, [], ◌∷◌, ◌++◌, cond, is_some, None, Result, Ok, refl, ap, sym, ◌∙◌}
use Rattle.std.specs.Prelude.{◌↔◌}
use Rattle.std.specs.List.{All, AllByRecursion, flat_map}
use Rattle.std.proofs.lemmas.List.Elements.{All-from_recursion, recursion_from_All, All-contains}
use Rattle.cg_cgroup.specs.Paths.{Names, same_path}
use Rattle.cg_cgroup.proofs.PathOrder.{same_path-is}
use Rattle.cg_cgroup.specs.Identity.{Identity}
use Rattle.cg_cgroup.specs.declared.files.EntryName.TheVariants.{Dir}
use Rattle.cg_model.specs.Advised.{AreCountable}
use Rattle.cg_model.specs.States.{State, entry_at}
use Rattle.cg_model.specs.WellFormed.{IsWellFormed, has_row}
use Rattle.cg_model.specs.Clauses.{first}
use Rattle.cg_model.specs.Checks.{subtree_faults}
use Rattle.cg_model.specs.Guards.{IsSubtree}
use Rattle.cg_model.specs.Once.{once}
use Rattle.cg_model.specs.Several.{AreContained}
use Rattle.cg_model.proofs.OnceLaws.{all-once}
use Rattle.cg_check.proofs.AllContained.{guarded-are-contained}
use Rattle.cg_everybody.specs.Advice.{taken_back, lets_in_at, everybody_advice, everybody_advised}
use Rattle.cg_everybody.specs.Everybody.{everybody_lines, GuardsHoldForEverybody}
use Rattle.cg_everybody.specs.Premises.{premise_lines}
use Rattle.cg_everybody.proofs.Changed.{mends-everybody, formed-everybody}
use Rattle.cg_everybody.proofs.Changing.{entry_at-taken}
use Rattle.cg_everybody.proofs.Held.{each_holds, none_of_each}
use Rattle.machine_everybody.specs.Everybody.{Everybody, IsAsked}
use Rattle.cg_cli.specs.Audits.{paths_read}
use Rattle.cg_cli.specs.Containment.{in_call}
use Rattle.cg_cli.specs.Everybody.{found_report, everybody_found, everybody_said, everybody_report}
use Rattle.cg_cli.specs.Reports.{Report, report_on}
use Rattle.cg_cli.specs.declared.everybody.Wanted.{Wanted}
use Rattle.cg_cli.specs.declared.everybody.Wanted.TheVariants.{Advise}
use Rattle.cg_cli.proofs.AdvisedTrees.{row-directory, still_some}
use Rattle.cg_cli.proofs.AuditOnce.{all_once}
use Rattle.cg_escapes.proofs.EscapeReplays.{report_ok, found_is, unfaulted}
use Rattle.cg_faults.specs.declared.fault.CliFault.{CliFault}
use Rattle.theorems.proofs.StatusLaws.{all_there}

status_of : (wanted : Wanted) (whom : Everybody) (st : State) (subtrees : List Names) (lines : List ℕ) (status : ℕ)
    → (found_report wanted whom st subtrees lines).ending ≡ Ok status → (status ≡ 0) ↔ (lines ≡ [])
status_of wanted whom st subtrees [] status is = ((λ zero. refl), (λ none. let same : status ≡ 0 = cc in same))
status_of wanted whom st subtrees (byte ∷ bytes) status is =
    ((λ zero. let never : ⊥ = cc in absurd never), (λ none. let never : ⊥ = cc in absurd never))

-- where all guards hold for everybody all is contained against whomever it is asked about
against_all : (st : State) (whom : Everybody) (subtrees : List Names) → (subtrees ≢ [] → IsWellFormed st) → All (IsSubtree st) subtrees
    → All (GuardsHoldForEverybody st whom) subtrees → (users : List Identity) → AllByRecursion (IsAsked whom) users → users ≢ []
    → AreContained st users subtrees
against_all st whom subtrees formed subs hold users real some =
    guarded-are-contained st users subtrees formed subs
    (λ user among k d within. hold k d within user (All-contains (IsAsked whom) users user (All-from_recursion (IsAsked whom) users
    real) among)) some

module _ (st : State) (wanted : Wanted) (whom : Everybody) (words : List (List ℕ)) (subtrees : List Names) (status : ℕ)
    (of_paths : paths_read words ≡ Ok subtrees) (is : (everybody_report wanted whom (Ok st) words).ending ≡ Ok status) where
  abbrev asked : List Names
  asked = once same_path subtrees

  said : (everybody_said wanted whom st asked).ending ≡ Ok status
  said =
      ap (λ (found : Result (List Names) CliFault).
      (report_on found (λ subtrees. everybody_said wanted whom st (once same_path subtrees))).ending)
      (sym of_paths) ∙ is

  found : (lines : List ℕ) × (first (flat_map (subtree_faults st) asked) ≡ None) × (everybody_lines st whom asked ≡ lines)
      × ((found_report wanted whom st asked lines).ending ≡ Ok status)
  found =
      let one = report_ok (in_call (everybody_found st whom asked)) (found_report wanted whom st asked) status said in
      let stated =
      unfaulted (first (flat_map (subtree_faults st) asked)) (everybody_lines st whom asked) one.0
      (found_is (everybody_found st whom asked) one.0 one.1) in
      (one.0, stated.0, stated.1, one.2)

  pub are_there : All (IsSubtree st) subtrees
  are_there = all_once same_path same_path-is (IsSubtree st) subtrees (all_there st asked found.1)

  pub all_hold : (status ≡ 0) ↔ All (GuardsHoldForEverybody st whom) subtrees
  all_hold =
      let of_status = status_of wanted whom st asked found.0 status found.3 in (
        λ zero.
            all_once same_path same_path-is (GuardsHoldForEverybody st whom) subtrees
            (All-from_recursion (GuardsHoldForEverybody st whom) asked (each_holds st whom asked (found.2 ∙ of_status.0 zero))),
        λ all.
            of_status.1 (sym found.2 ∙ none_of_each st whom asked
            (all-once (GuardsHoldForEverybody st whom) same_path subtrees (recursion_from_All (GuardsHoldForEverybody st whom) subtrees
            all))),
      )

  pub all_contained : IsWellFormed st → status ≡ 0 → (users : List Identity) → AllByRecursion (IsAsked whom) users → users ≢ []
      → AreContained st users subtrees
  all_contained formed zero = against_all st whom subtrees (λ some. formed) are_there (all_hold.0 zero)

-- ---- with the changes of the advice

still_there : (st : State) (whom : Everybody) (subtrees : List Names) (path : Names)
    → has_row (everybody_advised st whom subtrees) path ≡ has_row st path
still_there st whom subtrees path =
    row-directory (everybody_advised st whom subtrees) path
    ∙ ap is_some (entry_at-taken st whom subtrees path Dir)
    ∙ still_some (λ entry. cond (lets_in_at st whom subtrees path Dir) (taken_back whom entry) entry) (entry_at st path Dir)
    ∙ sym (row-directory st path)

pub advised_are_contained : (st : State) (whom : Everybody) (users : List Identity) (subtrees : List Names) → IsWellFormed st
    → All (IsSubtree st) subtrees → All (AreCountable st) subtrees → AllByRecursion (IsAsked whom) users → users ≢ []
    → AreContained (everybody_advised st whom subtrees) users subtrees
advised_are_contained st whom users subtrees formed subs few =
    against_all (everybody_advised st whom subtrees) whom subtrees (λ some. formed-everybody st whom subtrees formed few)
    (λ k d within. (still_there st whom subtrees _ ∙ (subs k d within).0, (subs k d within).1)) (mends-everybody st whom subtrees) users

module _ (st : State) (whom : Everybody) (words : List (List ℕ)) (subtrees : List Names) (of_paths : paths_read words ≡ Ok subtrees) where
  abbrev each_once : List Names
  each_once = once same_path subtrees

  text_of : (lines : List ℕ) → (found_report Advise whom st each_once lines).ending ≡ Ok 1
      → (found_report Advise whom st each_once lines).text ≡ everybody_advice st whom each_once ++ premise_lines whom
  text_of [] is = let never : ⊥ = cc in absurd never
  text_of (byte ∷ bytes) is = refl

  pub changes_are_said : (everybody_report Advise whom (Ok st) words).ending ≡ Ok 1
      → ((everybody_report Advise whom (Ok st) words).text ≡ everybody_advice st whom each_once ++ premise_lines whom)
      × All (GuardsHoldForEverybody (everybody_advised st whom each_once) whom) subtrees
  changes_are_said is =
      let whole : everybody_report Advise whom (Ok st) words ≡ everybody_said Advise whom st each_once =
      ap (λ (found : Result (List Names) CliFault). report_on found (λ paths. everybody_said Advise whom st (once same_path paths)))
      of_paths in
      let one =
      report_ok (in_call (everybody_found st whom each_once)) (found_report Advise whom st each_once) 1
      (sym (ap (λ (r : Report). r.ending) whole) ∙ is) in (
        ap (λ (r : Report). r.text) whole
            ∙ ap (λ (found : Result (List ℕ) CliFault). (report_on found (found_report Advise whom st each_once)).text) one.1
            ∙ text_of one.0 one.2,
        all_once same_path same_path-is (GuardsHoldForEverybody (everybody_advised st whom each_once) whom) subtrees
            (mends-everybody st whom each_once),
      )
