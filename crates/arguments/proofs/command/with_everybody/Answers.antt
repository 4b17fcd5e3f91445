use Rattle.std.proofs.Common.{◌≡◌, List, [], ◌∷◌, ◌++◌, ap, refl, subst}
use Rattle.std.specs.Prelude.{codes}
use Rattle.std.proofs.lemmas.Result.{IfOk-weaker}
use Rattle.arguments.specs.Building.{IsCommand}
use Rattle.arguments.specs.CommandLine.{flag, number_option, repeated, word_option}
use Rattle.arguments.proofs.CommandLaws.{option_added}
use Rattle.arguments.proofs.command.with_everybody.Goals as goal

joined : {A : Type 0} (xs : List A) (a b c d : A)
    → (((xs ++ a ∷ []) ++ b ∷ []) ++ c ∷ []) ++ d ∷ [] ≡ xs ++ a ∷ b ∷ c ∷ d ∷ []
joined [] a b c d = refl
joined (x ∷ xs) a b c d = ap (λ l. x ∷ l) (joined xs a b c d)

pub returns : goal.returns
returns c =
    IfOk-weaker c.arg-4.result _ _ (λ new added shape is.
    let of_everybody = option_added _ _ _ _ _ is c.everybody_argument.ensures c.in_ok-arg.ensures in
    let of_subtrees = option_added _ _ _ _ _ of_everybody c.subtrees_argument.ensures c.in_ok-arg-2.ensures in
    let of_but = option_added _ _ _ _ _ of_subtrees c.but_argument.ensures c.in_ok-arg-3.ensures in
    subst (λ rules. IsCommand (record shape { rules = rules }) new)
    (joined shape.rules (flag (codes "everybody")) (word_option (codes "subtrees")) (repeated (number_option (codes "but")))
    (repeated (word_option (codes "group"))))
    (option_added _ _ _ _ _ of_but c.group_argument.ensures added)) c.arg-4.ensures
