-- The object of what is told of a pair has no float, and nests less deep than what is read may.
use Rattle.std.proofs.Common.{ℕ, suc, Bool, true, false, cond, List, [], ◌∷◌, ◌++◌, map, codes, Option, Some, None, refl, arith}
use Rattle.std.specs.List.{AllByRecursion}
use Rattle.std.specs.Option.{option_map}
use Rattle.std.proofs.ByRecursion.{All-append}
use Rattle.cg_cgroup.specs.Paths.{Names, path_text, parent}
use Rattle.cg_cgroup.specs.Identity.{Identity}
use Rattle.cg_cgroup.specs.Files.{file_name, controller_name}
use Rattle.cg_cgroup.specs.declared.files.LimitFile.{LimitFile}
use Rattle.cg_cgroup.specs.declared.files.LimitFile.TheVariants.{MaxDescendants, MaxDepth}
use Rattle.cg_model.specs.States.{State, row_at}
use Rattle.cg_model.specs.Guards.{is_guarded}
use Rattle.cg_model.specs.GuardNames.{guard_name}
use Rattle.cg_model.specs.Listed.{Listed}
use Rattle.cg_model.specs.declared.guard.Guard.TheVariants.{AlreadyOver}
use Rattle.cg_model.specs.declared.mend.Class.{Class}
use Rattle.cg_model.specs.declared.answer.Answer.{Answer}
use Rattle.cg_model.specs.declared.answer.Answer.TheVariants.{Contained, Escapes, Unsettled}
use Rattle.cg_advice.specs.AdviceLines.{class_name}
use Rattle.serde_json.specs.Data.{Data, boolean, array, Members, no_members}
use Rattle.serde_json.specs.View.{items_of}
use Rattle.cg_json.specs.Entries.{entry_members}
use Rattle.cg_json.specs.Operations.{limit_value}
use Rattle.cg_json.proofs.Plain.{IsPlain, ArePlain, both, put_plain, text_more, number_more, none_plain, object_plain, limit_plain, failed_plain, pair_plain, deeper}
use Rattle.cg_json.proofs.PlainAdvice.{guard_plain, at_plain}
use Rattle.cg_explain.specs.FirstRow.{first_row}
use Rattle.cg_explain.specs.Counted.{is_in_limit, counts_of}
use Rattle.cg_explain.specs.SecondRow.{is_met, second_row_asked}
use Rattle.cg_explain.specs.ExplainLines.{staying_word, switch_word, taking_word, growing_word, files_word}
use Rattle.cg_explain.specs.Objects.{put_holds, put_class, told_value, counted_value, why_members, asked_value, second_values, counted_values, limits_values, guards_value, which_members, explained_members}
use Rattle.cg_explain.specs.declared.counted.Counted.{Counted}
use Rattle.cg_explain.specs.declared.counted.Counts.{Counts}
use Rattle.cg_explain.specs.declared.first.Told.{Told}
use Rattle.cg_explain.specs.declared.second.Asked.{Asked}
use Rattle.cg_explain.specs.declared.second.Asked.TheVariants.{Stays, Control, Files, Shut}

abbrev pub AllArePlain : ℕ → List Data → Type 0
AllArePlain n values = AllByRecursion (λ value. IsPlain value n) values

pub all_plain : (n : ℕ) (values : List Data) → AllArePlain n values → IsPlain (array (items_of values)) (suc n)
all_plain n [] all = record { exact = refl; within = omega arith }
all_plain n (value ∷ values) all =
    let rest = all_plain n values all.1 in
    let first = all.0 in
    record { exact = both _ _ first.exact rest.exact; within = omega (arith, first.within, rest.within) }

pub each_plain : {A : Type 0} (value : A → Data) (n : ℕ) → ((x : A) → IsPlain (value x) n) → (xs : List A) → AllArePlain n (map value xs)
each_plain value n every [] = tt
each_plain value n every (x ∷ xs) = (every x, each_plain value n every xs)

holds_more : (holds : Bool) (ms : Members) (n : ℕ) → ArePlain ms n → ArePlain (put_holds holds ms) n
holds_more holds ms n p = put_plain (codes "holds") (boolean holds) ms n (record { exact = refl; within = omega arith }) p

class_more : (by : Option Class) (ms : Members) (n : ℕ) → ArePlain ms n → ArePlain (put_class by ms) n
class_more None ms n p = holds_more true ms n p
class_more (Some class) ms n p = holds_more false _ n (text_more (codes "class") (class_name class) ms n p)

pub told_plain : (subtree : Names) (told : Told) → IsPlain (told_value subtree told) 1
told_plain subtree told =
    object_plain _ 0 (class_more told.by (entry_members subtree told.at) 0 (at_plain subtree told.at 0))

counted_plain : (subtree : Names) (file : LimitFile) (counted : Counted) → IsPlain (counted_value subtree file counted) 1
counted_plain subtree file counted =
    let entry = text_more (codes "entry") (file_name file) _ 0 (guard_plain (guard_name AlreadyOver) (path_text subtree) 0) in
    let count = number_more (codes "count") counted.count _ 0 entry in
    object_plain _ 0 (holds_more (is_in_limit counted) _ 0
    (put_plain (codes "limit") (limit_value counted.limit) _ 0 (limit_plain counted.limit 0) count))

why_plain : (subtree : Names) (asked : Asked) → ArePlain (why_members subtree asked) 0
why_plain subtree (Stays why) = text_more (codes "by") (staying_word why) _ 0 (guard_plain (codes "stays") (path_text subtree) 0)
why_plain subtree (Control controller how) =
    text_more (codes "by") (switch_word how) _ 0 (text_more (codes "controller") (controller_name controller) _ 0
    (guard_plain (codes "control") (path_text (parent subtree)) 0))
why_plain subtree (Files spared) = text_more (codes "by") (files_word spared) _ 0 (guard_plain (codes "files") (path_text subtree) 0)
why_plain subtree (Shut place) =
    text_more (codes "grows") (growing_word place.grows_none) _ 0 (text_more (codes "takes") (taking_word place.takes_none) _ 0
    (guard_plain (codes "shut") (path_text place.path) 0))

asked_plain : (subtree : Names) (asked : Asked) → IsPlain (asked_value subtree asked) 1
asked_plain subtree asked = object_plain _ 0 (holds_more (is_met asked) (why_members subtree asked) 0 (why_plain subtree asked))

second_plain : (subtree : Names) (guarded : Bool) (asked : List Asked) → AllArePlain 1 (cond guarded [] (map (asked_value subtree) asked))
second_plain subtree true asked = tt
second_plain subtree false asked = each_plain (asked_value subtree) 1 (asked_plain subtree) asked

pub counts_plain : (subtree : Names) (counts : Option Counts) → AllArePlain 1 (counted_values subtree counts)
counts_plain subtree None = tt
counts_plain subtree (Some counts) =
    (counted_plain subtree MaxDescendants counts.descendants, (counted_plain subtree MaxDepth counts.depth, tt))

guards_plain : (st : State) (user : Identity) (subtree : Names) → IsPlain (guards_value st user subtree) 2
guards_plain st user subtree =
    let first = map (told_value subtree) (first_row st user subtree) in
    let second = second_values st user subtree in
    all_plain 1 ((first ++ second) ++ limits_values st subtree) (All-append _ (first ++ second) (limits_values st subtree)
    (All-append _ first second (each_plain (told_value subtree) 1 (told_plain subtree) (first_row st user subtree))
    (second_plain subtree (is_guarded st subtree user) (second_row_asked st (user ∷ []) subtree)))
    (counts_plain subtree (option_map (counts_of st subtree) (row_at st subtree))))

which_plain : (subtree : Names) (found : Answer) → ArePlain (which_members subtree found) 3
which_plain subtree Contained = text_more (codes "answer") (codes "contained") no_members 3 (none_plain 3)
which_plain subtree (Escapes ops) = text_more (codes "answer") (codes "escapes") no_members 3 (none_plain 3)
which_plain subtree (Unsettled failed) = failed_plain subtree failed

pub explained_plain : (st : State) (pair : Listed) → ArePlain (explained_members st pair) 3
explained_plain st pair =
    put_plain (codes "guards") (guards_value st pair.user pair.subtree) _ 3
    (deeper (guards_value st pair.user pair.subtree) 2 3 (omega arith) (guards_plain st pair.user pair.subtree))
    (pair_plain pair.user pair.subtree _ (which_plain pair.subtree pair.found))
