-- The object of a pair that is named by its places in lists.
use Rattle.std.proofs.Common.{◌≡◌, ℕ, zero, suc, ◌<◌, List, [], ◌∷◌, length, get_or, refl, sym, ap, subst, ◌∙◌, arith}
use Rattle.cg_cgroup.specs.Paths.{Names}
use Rattle.cg_cgroup.specs.Identity.{Identity}
use Rattle.cg_model.specs.declared.answer.Answer.{Answer}
use Rattle.cg_model.specs.declared.answer.AllAnswer.{AllAnswer}
use Rattle.cg_model.specs.declared.answer.AllAnswer.TheVariants.{Pair}
use Rattle.cg_report.specs.AuditLines.{IsPairShown}
use Rattle.cg_json.specs.Audits.{pair_value, listed_user, audit_value}

other_default : {A : Type 0} (xs : List A) (i : ℕ) (d e : A) → i < length xs → get_or xs i d ≡ get_or xs i e
other_default [] i d e within = absurd (omega (arith, within))
other_default (x ∷ xs) zero d e within = refl
other_default (x ∷ xs) (suc i) d e within = other_default xs i d e (omega (arith, within))

pub named_by_places : (users : List Identity) (subtrees : List Names) (all : AllAnswer) (place at : ℕ) (found : Answer)
    (user : Identity) (subtree : Names) → all ≡ Pair place at found → IsPairShown users subtrees all
    → user ≡ get_or users place user → subtree ≡ get_or subtrees at subtree
    → pair_value (record { user = user; subtree = subtree; found = found }) ≡ audit_value users subtrees all
named_by_places users subtrees all place at found user subtree is shown user_is subtree_is =
    let within = subst (IsPairShown users subtrees) is shown in
    ap (λ (who : Identity). pair_value (record { user = who; subtree = subtree; found = found }))
    (user_is ∙ other_default users place user (record { uid = 0; gids = [] }) within.0)
    ∙ ap (λ (path : Names). pair_value (record { user = listed_user users place; subtree = path; found = found }))
    (subtree_is ∙ other_default subtrees at subtree [] within.1)
    ∙ ap (audit_value users subtrees) (sym is)
