-- The JSON object of all that is told of a user and a subtree, with the words of its lines. Own.
use Rattle.std.specs.Prelude.{ℕ, Bool, true, false, cond, List, [], ◌∷◌, ◌++◌, map, Option, Some, None, codes}
use Rattle.std.specs.Option.{option_map}
use Rattle.cg_cgroup.specs.Paths.{Names, path_text, parent}
use Rattle.cg_cgroup.specs.Identity.{Identity}
use Rattle.cg_cgroup.specs.Files.{file_name, controller_name}
use Rattle.cg_cgroup.specs.declared.files.LimitFile.{LimitFile}
use Rattle.cg_cgroup.specs.declared.files.LimitFile.TheVariants.{MaxDescendants, MaxDepth}
use Rattle.cg_model.specs.States.{State, row_at}
use Rattle.cg_model.specs.Guards.{is_guarded}
use Rattle.cg_model.specs.GuardNames.{guard_name}
use Rattle.cg_model.specs.Listed.{Listed}
use Rattle.cg_model.specs.declared.guard.Guard.TheVariants.{AlreadyOver}
use Rattle.cg_model.specs.declared.answer.Answer.{Answer}
use Rattle.cg_model.specs.declared.answer.Answer.TheVariants.{Contained, Escapes, Unsettled}
use Rattle.cg_model.specs.declared.mend.Class.{Class}
use Rattle.cg_advice.specs.AdviceLines.{class_name}
use Rattle.serde_json.specs.Data.{Data, boolean, array, object, Members, no_members, put}
use Rattle.serde_json.specs.View.{items_of}
use Rattle.cg_json.specs.Members.{put_text, put_number}
use Rattle.cg_json.specs.Operations.{limit_value}
use Rattle.cg_json.specs.Entries.{at_guard, entry_members}
use Rattle.cg_json.specs.Answers.{contained_members, failed_members}
use Rattle.cg_json.specs.Audits.{put_pair}
use Rattle.cg_explain.specs.FirstRow.{first_row}
use Rattle.cg_explain.specs.Counted.{is_in_limit, counts_of}
use Rattle.cg_explain.specs.SecondRow.{is_met, second_row_asked}
use Rattle.cg_explain.specs.ExplainLines.{staying_word, switch_word, taking_word, growing_word, files_word}
use Rattle.cg_explain.specs.declared.counted.Counted.{Counted}
use Rattle.cg_explain.specs.declared.counted.Counts.{Counts}
use Rattle.cg_explain.specs.declared.first.Told.{Told}
use Rattle.cg_explain.specs.declared.second.Asked.{Asked}
use Rattle.cg_explain.specs.declared.second.Asked.TheVariants.{Stays, Control, Files, Shut}

abbrev pub put_holds : Bool → Members → Members
put_holds holds members = put (codes "holds") (boolean holds) members

-- that it holds where the user reaches the entry by no class, and else by which
abbrev pub put_class : Option Class → Members → Members
put_class None members = put_holds true members
put_class (Some class) members = put_holds false (put_text (codes "class") (class_name class) members)

-- the entry with its owner, group and mode
abbrev pub told_value : Names → Told → Data
told_value subtree told = object (put_class told.by (entry_members subtree told.at))

-- how many there are, and the limit
abbrev pub counted_members : Names → LimitFile → Counted → Members
counted_members subtree file counted =
    put_holds (is_in_limit counted) (put (codes "limit") (limit_value counted.limit) (put_number (codes "count") counted.count
    (put_text (codes "entry") (file_name file) (at_guard (guard_name AlreadyOver) (path_text subtree)))))

abbrev pub counted_value : Names → LimitFile → Counted → Data
counted_value subtree file counted = object (counted_members subtree file counted)

abbrev pub put_by : List ℕ → Members → Members
put_by word members = put_text (codes "by") word members

-- what the second row asks, and by what it is so
abbrev pub why_members : Names → Asked → Members
why_members subtree (Stays why) = put_by (staying_word why) (at_guard (codes "stays") (path_text subtree))
why_members subtree (Control controller how) =
    put_by (switch_word how) (put_text (codes "controller") (controller_name controller)
    (at_guard (codes "control") (path_text (parent subtree))))
why_members subtree (Files spared) = put_by (files_word spared) (at_guard (codes "files") (path_text subtree))
why_members subtree (Shut place) =
    put_text (codes "grows") (growing_word place.grows_none) (put_text (codes "takes") (taking_word place.takes_none)
    (at_guard (codes "shut") (path_text place.path)))

abbrev pub asked_members : Names → Asked → Members
asked_members subtree asked = put_holds (is_met asked) (why_members subtree asked)

abbrev pub asked_value : Names → Asked → Data
asked_value subtree asked = object (asked_members subtree asked)

-- where a guard fails
abbrev pub second_values : State → Identity → Names → List Data
second_values st user subtree =
    cond (is_guarded st subtree user) [] (map (asked_value subtree) (second_row_asked st (user ∷ []) subtree))

-- where the subtree is there
abbrev pub counted_values : Names → Option Counts → List Data
counted_values subtree None = []
counted_values subtree (Some counts) =
    counted_value subtree MaxDescendants counts.descendants ∷ counted_value subtree MaxDepth counts.depth ∷ []

abbrev pub limits_values : State → Names → List Data
limits_values st subtree = counted_values subtree (option_map (counts_of st subtree) (row_at st subtree))

abbrev pub guards_value : State → Identity → Names → Data
guards_value st user subtree =
    array (items_of (map (told_value subtree) (first_row st user subtree) ++ second_values st user subtree ++ limits_values st subtree))

-- which answer it is
abbrev pub which_members : Names → Answer → Members
which_members subtree Contained = contained_members
which_members subtree (Escapes ops) = put_text (codes "answer") (codes "escapes") no_members
which_members subtree (Unsettled failed) = failed_members subtree failed

abbrev pub explained_members : State → Listed → Members
explained_members st pair =
    put (codes "guards") (guards_value st pair.user pair.subtree) (put_pair pair.user pair.subtree (which_members pair.subtree pair.found))

-- the pair, what is told of it, and its answer
abbrev pub explained_value : State → Listed → Data
explained_value st pair = object (explained_members st pair)
