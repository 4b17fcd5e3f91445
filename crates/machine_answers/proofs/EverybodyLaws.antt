-- What the report on everybody says of the machine that a text tells of.
use Rattle.std.proofs.Common.{◌≡◌, ℕ, List, [], ◌∷◌, Some, None, Ok, sym, ap, ◌∙◌, subst}
use Rattle.std.specs.List.{AllByRecursion, flat_map}
use Rattle.std.proofs.lemmas.List.Elements.{All-from_recursion, All-contains}
use Rattle.cg_cgroup.specs.Paths.{Names, same_path, path_at}
use Rattle.cg_cgroup.proofs.PathOrder.{same_path-is}
use Rattle.cg_model.specs.States.{State}
use Rattle.cg_model.specs.Clauses.{first}
use Rattle.cg_model.specs.Guards.{IsSubtree}
use Rattle.cg_model.specs.Checks.{subtree_faults}
use Rattle.cg_model.specs.Once.{once}
use Rattle.cg_model.proofs.ClauseLaws.{none_of_first, no_parts}
use Rattle.cg_check.proofs.Checking.{no_fault}
use Rattle.cg_everybody.specs.Everybody.{everybody_lines, GuardsHoldForEverybody}
use Rattle.cg_everybody.proofs.Held.{each_holds}
use Rattle.cg_format.specs.Readings.{Reading, IsReading}
use Rattle.cg_format.specs.TextOf.{IsTextOf}
use Rattle.cg_cli.specs.Audits.{paths_read}
use Rattle.cg_cli.specs.Containment.{in_call}
use Rattle.cg_cli.specs.Everybody.{found_report, everybody_found, everybody_said, everybody_report}
use Rattle.cg_cli.specs.May.{tree_read}
use Rattle.cg_cli.specs.Reports.{report_on}
use Rattle.cg_cli.specs.declared.everybody.Wanted.{Wanted}
use Rattle.cg_cli.proofs.AuditOnce.{all_once}
use Rattle.cg_escapes.proofs.EscapeReplays.{report_ok, found_is, unfaulted}
use Rattle.machine.specs.Machines.{IsPresent}
use Rattle.machine_everybody.specs.Everybody.{Everybody, IsGuardedAgainstEverybody}
use Rattle.machine_everybody.proofs.Guarding.{held, again, guarded_by_all}
use Rattle.machine_view.specs.Views.{view}
use Rattle.machine_view.proofs.Seen.{guarded, has-row, present}
use Rattle.machine_text.proofs.Rows.{names_as}
use Rattle.machine_text.proofs.Told.{tells}
use Rattle.machine_answers.specs.Contained.{IsHeldAgainstEverybody, AreHeldAgainstEverybody}
use Rattle.machine_answers.proofs.AuditedLaws.{one_by_one, paths_held}
use Rattle.machine_answers.proofs.GuardedLaws.{state_read}

-- a subtree that is there, and the guards of which hold
abbrev IsClear : State → Everybody → Names → Type 0
IsClear st asked subtree = IsSubtree st subtree × GuardsHoldForEverybody st asked subtree

nothing_found : (wanted : Wanted) (asked : Everybody) (st : State) (subtrees : List Names) (lines : List ℕ)
    → (found_report wanted asked st subtrees lines).ending ≡ Ok 0 → lines ≡ []
nothing_found wanted asked st subtrees [] is = λ i. []
nothing_found wanted asked st subtrees (byte ∷ bytes) is = let never : ⊥ = cc in absurd never

all_clear : (st : State) (asked : Everybody) (subtrees : List Names) → first (flat_map (subtree_faults st) subtrees) ≡ None
    → AllByRecursion (GuardsHoldForEverybody st asked) subtrees → AllByRecursion (IsClear st asked) subtrees
all_clear st asked [] none each = tt
all_clear st asked (subtree ∷ subtrees) none each =
    let parts = no_parts (subtree_faults st subtree) (flat_map (subtree_faults st) subtrees) (none_of_first _ none) in
    ((no_fault st subtree (sym (ap first parts.0)), each.0), all_clear st asked subtrees (ap first parts.1) each.1)

held_in : (text : List ℕ) (st : State) (of : IsTextOf st text) (asked : Everybody) (word : List ℕ) (subtree : Names) → path_at word ≡
    Some subtree
    → IsClear st asked subtree → IsHeldAgainstEverybody (view st) asked word
held_in text st of asked word subtree path clear =
    let there : IsPresent (view st) subtree = present st of.says.formed subtree clear.0.0 in
    let shut : IsGuardedAgainstEverybody (view st) asked subtree =
    guarded_by_all (view st) asked subtree (λ user real. guarded st user subtree (clear.1 user real)) in record {
      subtree = subtree;
      named = names_as word subtree path;
      below = clear.0.1;
      there = has-row st subtree ∙ clear.0.0;
      contained = λ users real. held (view st) asked users subtree there shut real;
      again = λ users turns real all. again (view st) asked users subtree there shut real turns all;
    }

pub held_against_everybody : (text : List ℕ) (tree : Reading) (wanted : Wanted) (asked : Everybody) (words : List (List ℕ))
    → IsReading text tree → (everybody_report wanted asked tree words).ending ≡ Ok 0 → AreHeldAgainstEverybody text asked words
held_against_everybody text tree wanted asked words reading is =
    let paths =
    report_ok (paths_read words)
    (λ subtrees. report_on (tree_read tree) (λ st. everybody_said wanted asked st (once same_path subtrees))) 0 is in
    let subtrees = once same_path paths.0 in
    let state = report_ok (tree_read tree) (λ st. everybody_said wanted asked st subtrees) 0 paths.2 in
    let st = state.0 in
    let one = report_ok (in_call (everybody_found st asked subtrees)) (found_report wanted asked st subtrees) 0 state.2 in
    let stated =
    unfaulted (first (flat_map (subtree_faults st) subtrees)) (everybody_lines st asked subtrees) []
    (found_is (everybody_found st asked subtrees) one.0 one.1 ∙ ap Ok (nothing_found wanted asked st subtrees one.0 one.2)) in
    let clear = all_clear st asked subtrees stated.0 (each_holds st asked subtrees stated.1) in
    let of : IsTextOf st text = subst (IsReading text) (state_read tree st state.1) reading in record {
      machine = view st;
      told = tells text st of;
      each = λ word among.
          All-contains (IsHeldAgainstEverybody (view st) asked) words word
          (All-from_recursion _ words (paths_held (IsClear st asked) (IsHeldAgainstEverybody (view st) asked) (held_in text st of asked)
          words paths.0
          paths.1 (one_by_one (IsClear st asked) paths.0 (all_once same_path same_path-is (IsClear st asked) paths.0
          (All-from_recursion (IsClear st asked) subtrees clear))))) among;
    }
