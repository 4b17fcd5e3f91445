use Rattle.std.proofs.Common.{◌≡◌, ℕ, List, [], ◌∷◌, ◌++◌, ◌∙◌, append_assoc, codes}
use Rattle.std.proofs.lemmas.Result.{IfOk-weaker}
use Rattle.cg_advice.specs.AdviceLines.{line}
use Rattle.cg_explain.proofs.text.holds_line.Goals as goal

held : (guard place entry owner mode : List ℕ)
    → codes "holds " ++ (guard ++ (32 ∷ (place ++ (32 ∷ (entry ++ (32 ∷ (owner ++ (32 ∷ (mode ++ (10 ∷ []))))))))))
    ≡ line (codes "holds" ∷ guard ∷ place ∷ entry ∷ owner ∷ mode ∷ [])
held guard place entry owner mode = simp append_assoc

pub returns : goal.returns
returns c =
    IfOk-weaker c.format.result _ _
    (λ text is. is ∙ held _ _ _ _ _
    ∙ (λ i. line (codes "holds" ∷ c.name-guard.ensures i ∷ c.prefix-place.ensures.text i ∷ c.name-name.ensures i
    ∷ c.in_ok-owner.ensures i ∷ c.in_ok-mode.ensures i ∷ [])))
    c.format.ensures.ok
