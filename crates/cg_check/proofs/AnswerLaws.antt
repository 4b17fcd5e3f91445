-- What an answer says of the tries, and when it is no escape.
use Rattle.std.proofs.Common.{◌≡◌, suc, Bool, true, false, cond, not, ◌&&◌, List, [], ◌∷◌, find, refl, sym, ap, ◌∙◌, Option, Some, None, true≢false, arith}
use Rattle.std.specs.List.{Contains}
use Rattle.cg_cgroup.specs.Paths.{Names}
use Rattle.cg_cgroup.specs.Identity.{Identity}
use Rattle.cg_model.specs.States.{State}
use Rattle.cg_model.proofs.ClauseLaws.{no_parts, no_unless}
use Rattle.cg_model.specs.declared.operation.Op.{Op}
use Rattle.cg_model.specs.Limits.{fits_descendants, fits_depth}
use Rattle.cg_model.specs.Guards.{failures}
use Rattle.cg_model.specs.declared.guard.Failed.{Failed}
use Rattle.cg_model.specs.Held.{IsHeld, by_user}
use Rattle.cg_model.specs.Tries.{tries}
use Rattle.cg_model.specs.Escapes.{is_kept, breaks, first_escape}
use Rattle.cg_model.specs.Answers.{answer_from, answer}
use Rattle.cg_model.specs.declared.answer.Answer.TheVariants.{Escapes}
use Rattle.cg_model.proofs.Lists.{find-passes}
use Rattle.cg_check.proofs.Escaping.{escape-over}

pub found-escape : (failed : List Failed) (found : Option (List Op)) (ops : List Op) → answer_from failed found ≡ Escapes ops
    → found ≡ Some ops
found-escape [] found ops is = cc
found-escape (one ∷ others) None ops is = cc
found-escape (one ∷ others) (Some tried) ops is = let same : tried ≡ ops = cc in ap Some same

find-contains : {A : Type 0} (p : A → Bool) (xs : List A) (x : A) → find p xs ≡ Some x → Contains xs x
find-contains p [] x is = cc
find-contains p (y ∷ ys) x is =
    elim (p y) as (λ b. cond b (Some y) (find p ys) ≡ Some x → Contains (y ∷ ys) x) [
      | true ↦ λ found. let same : y ≡ x = cc in (0, omega arith, same)
      | false ↦ λ found. let later = find-contains p ys x found in (suc later.0, omega (arith, later.1), later.2)
    ] is

module _ (st : State) (user : Identity) (subtree : Names) (ops : List Op) (is : answer st user subtree ≡ Escapes ops) where
  found : first_escape st user subtree ≡ Some ops
  found = found-escape (failures st user subtree) (first_escape st user subtree) ops is

  pub escape-tried : Contains (tries st user subtree) ops
  escape-tried = find-contains (breaks st user subtree) (tries st user subtree) ops found

  pub escape-broken : IsHeld st (by_user user ops) subtree → ⊥
  escape-broken held =
      true≢false (sym (find-passes (breaks st user subtree) (tries st user subtree) ops found) ∙ ap (λ verdict. not (is_kept verdict)) held)

-- where a guard fails and a try is found, it is the answer
pub escape-answer : (failed : List Failed) (found : Option (List Op)) (ops : List Op) → (failed ≡ [] → ⊥) → found ≡ Some ops
    → answer_from failed found ≡ Escapes ops
escape-answer [] found ops some is = absurd (some refl)
escape-answer (one ∷ others) found ops some is = ap (answer_from (one ∷ others)) is

over-fails : (st : State) (user : Identity) (subtree : Names) → (fits_descendants st subtree && fits_depth st subtree) ≡ false
    → failures st user subtree ≡ [] → ⊥
over-fails st user subtree over none = true≢false (sym (no_unless _ _ (no_parts _ _ none).1) ∙ over)

pub over-escapes : (st : State) (user : Identity) (subtree : Names) → (fits_descendants st subtree && fits_depth st subtree) ≡ false
    → answer st user subtree ≡ Escapes []
over-escapes st user subtree over =
    escape-answer (failures st user subtree) (first_escape st user subtree) [] (over-fails st user subtree over)
    (escape-over st user subtree (ap not over))
