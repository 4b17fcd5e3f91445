-- What is listed where the second row of guards is asked, and lists are planned, is no less than may be listed.
use Rattle.std.proofs.Common.{◌≡◌, ℕ, ◌<◌, Bool, true, false, List, length, get_or, Option, Some, None, Result, Ok, Err, refl, sym, ap, ◌∙◌, subst}
use Rattle.std.specs.List.{flat_map}
use Rattle.cg_cgroup.specs.Paths.{Names, same_path}
use Rattle.cg_cgroup.specs.Identity.{Identity}
use Rattle.cg_model.specs.States.{State}
use Rattle.cg_model.specs.WellFormed.{IsWellFormed}
use Rattle.cg_model.specs.Clauses.{first}
use Rattle.cg_model.specs.Guards.{IsSubtree}
use Rattle.cg_model.specs.Held.{IsHeld, by_user, IsContained}
use Rattle.cg_model.specs.Once.{once}
use Rattle.cg_model.specs.Answers.{answer}
use Rattle.cg_model.specs.Checks.{subtree_faults}
use Rattle.cg_model.specs.Listed.{Listed}
use Rattle.cg_model.specs.declared.answer.Answer.{Answer}
use Rattle.cg_model.specs.declared.answer.Answer.TheVariants.{Contained, Escapes, Unsettled}
use Rattle.cg_model.specs.declared.fault.CheckFault.{CheckFault}
use Rattle.cg_model.specs.declared.operation.Op.{Op}
use Rattle.cg_model.specs.declared.verdict.Verdict.TheVariants.{Kept, Broken}
use Rattle.cg_second.specs.Judged.{second_row}
use Rattle.cg_plans.specs.Breaking.{Breaks}
use Rattle.cg_lines.specs.OperationLines.{HaveLines}
use Rattle.cg_check.proofs.Checking.{no_fault}
use Rattle.cg_check.proofs.Pairs.{none-element}
use Rattle.cg_format.specs.Readings.{Reading, IsReading, OnText}
use Rattle.cg_format.specs.TextOf.{IsTextOf}
use Rattle.cg_cli.specs.Audited.{has_list, without_list, IsKnownFrom, AreKnownWithEach}
use Rattle.cg_cli.specs.Audits.{users_read, paths_read}
use Rattle.cg_cli.specs.Asking.{read_in_turn}
use Rattle.cg_cli.specs.FurtherPairs.{AreFurther, MayList, ListsOn, ListsFurther, ReportsFurther}
use Rattle.cg_cli.specs.May.{tree_read}
use Rattle.cg_cli.specs.Once.{same_user}
use Rattle.cg_cli.specs.SettledPairs.{MayBeFound, MayFollow, MayReport, ReportsSettled}
use Rattle.cg_cli.specs.Settling.{IsFurther}
use Rattle.cg_cli.proofs.Knowing.{one-contained, unlisted-settled}
use Rattle.cg_faults.specs.declared.fault.CliFault.{CliFault}
use Rattle.cg_cgroup.specs.Files.{vocabulary_of}

-- ---- of one user with one subtree

breaks_held : (st : State) (user : Identity) (subtree : Names) (ops : List Op) → Breaks st user subtree ops
    → HaveLines (vocabulary_of st.controllers) ops × ¬ (IsHeld st (by_user user ops) subtree)
breaks_held st user subtree ops breaks = (
  breaks.lines,
  λ held. let same : Broken (length ops) breaks.broken.0 ≡ Kept = sym breaks.broken.1 ∙ held in let never : ⊥ = cc in absurd never,
)

known_further : (st : State) (user : Identity) (subtree : Names) (together : Bool) (given found : Answer)
    → (has_list found ≡ false → together ≡ true → IsContained st user subtree) → IsKnownFrom st user subtree together given found
    → IsFurther st user subtree given found
known_further st user subtree together Contained found held known = known
known_further st user subtree together (Escapes ops) found held known = known
known_further st user subtree together (Unsettled failed) Contained held known = held refl known
known_further st user subtree together (Unsettled failed) (Escapes ops) held known = breaks_held st user subtree ops known
known_further st user subtree together (Unsettled failed) (Unsettled other) held known = ap Unsettled known.1

-- ---- of several with several

module _ (st : State) (users : List Identity) (subtrees : List Names) (found : ℕ → ℕ → Answer) (formed : IsWellFormed st)
    (none : first (flat_map (subtree_faults st) subtrees) ≡ None) (known : AreKnownWithEach st users subtrees found) where
  sub_at : (place : ℕ) (e : Names) → place < length subtrees → IsSubtree st (get_or subtrees place e)
  sub_at place e within =
      no_fault st (get_or subtrees place e) (sym (none-element (subtree_faults st) subtrees place e within none))

  pub are_further : AreFurther st users subtrees found
  are_further = record {
    each = λ user place d e low within.
        known_further st (get_or users user d) (get_or subtrees place e)
        (second_row st (without_list (λ at. found at place) users) (get_or subtrees place e))
        (answer st (get_or users user d) (get_or subtrees place e)) (found user place)
        (one-contained st users (get_or subtrees place e) (λ at. found at place) formed (sub_at place e within) (known place e within)
        user d low)
        (known place e within user d low);
    together = λ place e within some.
        (unlisted-settled st users (get_or subtrees place e) (λ at. found at place) formed (sub_at place e within) (known place e within)
        some).held;
  }

-- ---- of what was read

may_list : (st : State) (users : List Identity) (subtrees : List Names) → IsWellFormed st → (fault : Option CheckFault)
    → first (flat_map (subtree_faults st) subtrees) ≡ fault → (report : Result (List Listed) CliFault)
    → MayBeFound st users subtrees fault report → MayList st users subtrees fault report
may_list st users subtrees formed (Some fault) is report may = may
may_list st users subtrees formed None is report may =
    (may.1.0, are_further st users subtrees may.1.0 formed is may.1.1, may.2 ∙ ap Ok may.1.2)

module _ (tree : Reading) (given : List (ℕ × List ℕ)) (texts : List (List ℕ)) (report : Result (List Listed) CliFault)
    (formed : (st : State) → tree ≡ Ok st → IsWellFormed st) where
  by_read : (users : Result (List Identity) CliFault) (paths : Result (List Names) CliFault) (read : Reading) → tree ≡ read
      → MayFollow (read_in_turn users paths (tree_read read)) report
      → ListsOn users (λ us.
      ListsOn paths (λ ss.
      ListsOn (tree_read read) (λ st.
      MayList st (once same_user us) (once same_path ss) (first (flat_map (subtree_faults st) (once same_path ss)))))) report
  by_read (Err fault) paths read of_tree said = said
  by_read (Ok us) (Err fault) read of_tree said = said
  by_read (Ok us) (Ok ss) (Err fault) of_tree said = said
  by_read (Ok us) (Ok ss) (Ok st) of_tree said =
      may_list st (once same_user us) (once same_path ss) (formed st of_tree)
      (first (flat_map (subtree_faults st) (once same_path ss))) refl report said

  lists_further : MayReport tree given texts report → ListsFurther tree given texts report
  lists_further said = by_read (users_read given) (paths_read texts) tree refl said

-- of the bytes of a text
pub further_on : (says : Result (List Listed) CliFault → Option (List ℕ) → Option (List ℕ) → Result ℕ CliFault → Type 0) (bytes : List ℕ)
    (given : List (ℕ × List ℕ)) (texts : List (List ℕ)) (old new : Option (List ℕ)) (result : Result ℕ CliFault)
    → OnText bytes (λ read. ReportsSettled says read given texts old new result)
    → OnText bytes (λ read. ReportsFurther says read given texts old new result)
further_on says bytes given texts old new result said =
    (said.0, said.1, (said.2.0, lists_further said.0 given texts said.2.0 formed said.2.1, said.2.2))
  where
    formed : (st : State) → said.0 ≡ Ok st → IsWellFormed st
    formed st is = let of_text : IsTextOf st bytes = subst (IsReading bytes) is said.1 in of_text.says.formed
