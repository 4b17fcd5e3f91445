-- The lines of the answer for several users and several subtrees. Own.
use Rattle.std.specs.Prelude.{ℕ, ◌<◌, List, [], ◌++◌, length, map, get_or, codes}
use Rattle.std.specs.Fmt.{decimal}
use Rattle.cg_cgroup.specs.Paths.{Names, path_text}
use Rattle.cg_cgroup.specs.Identity.{Identity}
use Rattle.cg_model.specs.declared.answer.AllAnswer.{AllAnswer}
use Rattle.cg_model.specs.declared.answer.AllAnswer.TheVariants.{Contained, Pair}
use Rattle.cg_report.specs.AnswerLines.{answer_text, IsShown}

-- the uid of the user at a place of a list, and the subtree at one
abbrev pub uid_at : List Identity → ℕ → ℕ
uid_at users place = get_or (map (λ user. user.uid) users) place 0

abbrev pub subtree_at : List Names → ℕ → Names
subtree_at subtrees place = get_or subtrees place []

-- The line of a pair names the uid alone.
abbrev pub pair_line : ℕ → Names → List ℕ
pair_line uid subtree = codes "pair " ++ decimal uid ++ codes " " ++ path_text subtree ++ codes "\n"

-- contained, or the line of the pair that isn't, and then its answer
abbrev pub audit_text : List Identity → List Names → AllAnswer → List ℕ
audit_text users subtrees Contained = codes "contained\n"
audit_text users subtrees (Pair user subtree answer) =
    pair_line (uid_at users user) (subtree_at subtrees subtree) ++ answer_text (subtree_at subtrees subtree) answer

-- the pair is one of the lists, and its answer can be shown
abbrev pub IsPairShown : List Identity → List Names → AllAnswer → Type 0
IsPairShown users subtrees Contained = Unit {0}
IsPairShown users subtrees (Pair user subtree answer) =
    (user < length users) × (subtree < length subtrees) × IsShown (subtree_at subtrees subtree) answer
