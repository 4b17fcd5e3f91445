-- All that is told of a user and a subtree. Own.
use Rattle.std.specs.Prelude.{ℕ, cond, List, [], ◌∷◌, ◌++◌, Some, None, codes}
use Rattle.std.specs.List.{flat_map}
use Rattle.std.specs.Option.{option_map}
use Rattle.cg_cgroup.specs.Paths.{Names}
use Rattle.cg_cgroup.specs.Identity.{Identity}
use Rattle.cg_model.specs.States.{State, row_at}
use Rattle.cg_model.specs.Guards.{is_guarded}
use Rattle.cg_model.specs.Listed.{Listed}
use Rattle.cg_model.specs.declared.answer.Answer.{Answer}
use Rattle.cg_model.specs.declared.answer.Answer.TheVariants.{Contained, Escapes, Unsettled}
use Rattle.cg_report.specs.AnswerLines.{failed_text}
use Rattle.cg_report.specs.PairLines.{user_line}
use Rattle.cg_explain.specs.FirstRow.{first_row}
use Rattle.cg_explain.specs.Counted.{counts_of}
use Rattle.cg_explain.specs.SecondRow.{second_row_asked}
use Rattle.cg_explain.specs.ExplainLines.{told_line, counts_lines, asked_line}

-- each guarded entry, in the order of the guards
abbrev pub first_lines : State → Identity → Names → List ℕ
first_lines st user subtree = flat_map (told_line subtree) (first_row st user subtree)

-- what the second row asks, where a guard fails
abbrev pub second_lines : State → Identity → Names → List ℕ
second_lines st user subtree =
    cond (is_guarded st subtree user) [] (flat_map (asked_line subtree) (second_row_asked st (user ∷ []) subtree))

-- what the two limits of the subtree count, where it is there
abbrev pub limits_lines : State → Names → List ℕ
limits_lines st subtree =
    elim (option_map (counts_of st subtree) (row_at st subtree)) [ None ↦ [] | Some counts ↦ counts_lines subtree counts ]

-- which answer it is: the first line of its report
abbrev pub answer_line : Names → Answer → List ℕ
answer_line subtree Contained = codes "contained\n"
answer_line subtree (Escapes ops) = codes "escapes\n"
answer_line subtree (Unsettled failed) = codes "unsettled " ++ failed_text subtree failed ++ codes "\n"

-- The line that names a pair, what is told of it, and its answer.
abbrev pub pair_lines : State → Listed → List ℕ
pair_lines st pair =
    user_line pair.user pair.subtree ++ first_lines st pair.user pair.subtree ++ second_lines st pair.user pair.subtree
    ++ limits_lines st pair.subtree ++ answer_line pair.subtree pair.found
