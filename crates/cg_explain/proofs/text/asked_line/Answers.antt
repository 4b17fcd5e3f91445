use Rattle.std.proofs.Common.{◌≡◌, ℕ, List, [], ◌∷◌, ◌++◌, ◌∙◌, ap, sym, append_assoc, codes, take_all, arith}
use Rattle.std.proofs.lemmas.Result.{IfOk-weaker}
use Rattle.cg_cgroup.specs.Paths.{path_text}
use Rattle.cg_model.proofs.Prefixes.{take_parent}
use Rattle.cg_advice.specs.AdviceLines.{line}
use Rattle.cg_explain.specs.SecondRow.{is_met}
use Rattle.cg_explain.specs.ExplainLines.{verdict_word, asked_words}
use Rattle.cg_explain.proofs.text.asked_line.Goals as goal

of_three : (verdict kind place last : List ℕ)
    → verdict ++ (32 ∷ (kind ++ (32 ∷ (place ++ (32 ∷ (last ++ (10 ∷ [])))))))
    ≡ line (verdict ∷ kind ∷ place ∷ last ∷ [])
of_three verdict kind place last = simp append_assoc

of_four : (verdict kind place third last : List ℕ)
    → verdict ++ (32 ∷ (kind ++ (32 ∷ (place ++ (32 ∷ (third ++ (32 ∷ (last ++ (10 ∷ [])))))))))
    ≡ line (verdict ∷ kind ∷ place ∷ third ∷ last ∷ [])
of_four verdict kind place third last = simp append_assoc

pub returns-in-Stays : goal.returns-in-Stays
returns-in-Stays c =
    IfOk-weaker c.format.result _ _
    (λ text is. is ∙ of_three _ (codes "stays") _ _
    ∙ (λ i. line ((c.verdict_word-verdict.ensures ∙ ap verdict_word c.is_met.ensures) i ∷ codes "stays"
    ∷ (c.prefix-at.ensures.text ∙ ap path_text (take_all c.depth.result c.args.subtree.now (omega (arith, c.depth.ensures.depth)))) i
    ∷ c.staying_word.ensures i ∷ []))
    ∙ ap (λ asked. line (verdict_word (is_met c.args.asked.now) ∷ asked_words c.args.subtree.now asked)) (sym c.in-Stays.is))
    c.format.ensures.ok

pub returns-in-Control : goal.returns-in-Control
returns-in-Control c =
    IfOk-weaker c.format-in-Control.result _ _
    (λ text is. is ∙ of_four _ (codes "control") _ _ _
    ∙ (λ i. line ((c.verdict_word-verdict.ensures ∙ ap verdict_word c.is_met.ensures) i ∷ codes "control"
    ∷ (c.prefix-at-in-Control.ensures.text
    ∙ ap path_text (take_parent c.args.subtree.now c.parent_len.result c.parent_len.ensures)) i
    ∷ c.name-name.ensures i ∷ c.switch_word.ensures i ∷ []))
    ∙ ap (λ asked. line (verdict_word (is_met c.args.asked.now) ∷ asked_words c.args.subtree.now asked)) (sym c.in-Control.is))
    c.format-in-Control.ensures.ok

pub returns-in-Files : goal.returns-in-Files
returns-in-Files c =
    IfOk-weaker c.format-in-Files.result _ _
    (λ text is. is ∙ of_three _ (codes "files") _ _
    ∙ (λ i. line ((c.verdict_word-verdict.ensures ∙ ap verdict_word c.is_met.ensures) i ∷ codes "files"
    ∷ (c.prefix-at.ensures.text ∙ ap path_text (take_all c.depth.result c.args.subtree.now (omega (arith, c.depth.ensures.depth)))) i
    ∷ c.files_word.ensures i ∷ []))
    ∙ ap (λ asked. line (verdict_word (is_met c.args.asked.now) ∷ asked_words c.args.subtree.now asked)) (sym c.in-Files.is))
    c.format-in-Files.ensures.ok

pub returns-in-Shut : goal.returns-in-Shut
returns-in-Shut c =
    IfOk-weaker c.format-in-Shut.result _ _
    (λ text is. is ∙ of_four _ (codes "shut") _ _ _
    ∙ (λ i. line ((c.verdict_word-verdict.ensures ∙ ap verdict_word c.is_met.ensures) i ∷ codes "shut"
    ∷ (c.prefix-at-in-Shut.ensures.text
    ∙ ap path_text (take_all c.depth-in-Shut.result c.in-Shut.place.path (omega (arith, c.depth-in-Shut.ensures.depth)))) i
    ∷ c.taking_word-takes.ensures i ∷ c.growing_word-grows.ensures i ∷ []))
    ∙ ap (λ asked. line (verdict_word (is_met c.args.asked.now) ∷ asked_words c.args.subtree.now asked)) (sym c.in-Shut.is))
    c.format-in-Shut.ensures.ok
