-- The same of the objects of advice.
use Rattle.std.proofs.Common.{ℕ, List, [], ◌∷◌, take, codes}
use Rattle.std.specs.List.{filter}
use Rattle.cg_cgroup.specs.Paths.{Names, path_text}
use Rattle.cg_cgroup.specs.Files.{entry_text}
use Rattle.cg_model.specs.GuardNames.{guard_name}
use Rattle.cg_model.specs.declared.guard.Guard.TheVariants.{AlreadyOver}
use Rattle.cg_model.specs.declared.guard.GuardedEntry.{GuardedEntry}
use Rattle.cg_model.specs.declared.mend.Class.TheVariants.{Owner, Group, Others}
use Rattle.cg_model.specs.declared.mend.Mend.{Mend}
use Rattle.cg_model.specs.declared.mend.Mend.TheVariants.{Chown, Chmod, Set}
use Rattle.cg_lines.specs.OperationLines.{mode_word}
use Rattle.cg_advice.specs.AdviceLines.{class_name}
use Rattle.cg_advice.specs.WayLines.{has_way}
use Rattle.cg_advice.specs.Found.{Let, Raised}
use Rattle.cg_advice.specs.declared.ways.Ways.{Ways}
use Rattle.serde_json.specs.Data.{string, Members, no_members}
use Rattle.cg_json.specs.Entries.{put_owner, at_guard, entry_members, classes_value, mend_members, mend_value, changes_by, changes_value}
use Rattle.cg_json.specs.Advice.{stand_value, over_value, fails_value, failing_members}
use Rattle.cg_json.proofs.Plain.{IsPlain, ArePlain, put_plain, text_plain, text_more, number_more, none_plain, object_plain, list_plain, entry_plain, set_plain, chmod_plain, lists_plain}

owner_more : (uid gid : ℕ) (ms : Members) (n : ℕ) → ArePlain ms n → ArePlain (put_owner uid gid ms) n
owner_more uid gid ms n p = number_more (codes "gid") gid _ n (number_more (codes "uid") uid ms n p)

pub guard_plain : (guard place : List ℕ) (n : ℕ) → ArePlain (at_guard guard place) n
guard_plain guard place n = text_more (codes "path") place _ n (text_more (codes "guard") guard no_members n (none_plain n))

pub at_plain : (subtree : Names) (at : GuardedEntry) (n : ℕ) → ArePlain (entry_members subtree at) n
at_plain subtree at n =
    let guard = guard_plain (guard_name at.guard) (path_text (take at.len subtree)) n in
    let entry = text_more (codes "entry") (entry_text at.name) _ n guard in
    text_more (codes "mode") (mode_word at.entry.mode) _ n (owner_more at.entry.uid at.entry.gid _ n entry)

mend_plain : (subtree : Names) (mend : Mend) (n : ℕ) → ArePlain (mend_members subtree mend) n
mend_plain subtree (Chown len name uid gid) n =
    owner_more uid gid _ n (entry_plain (codes "chown") (path_text (take len subtree)) (entry_text name) n)
mend_plain subtree (Chmod len name mode) n = chmod_plain (path_text (take len subtree)) name mode n
mend_plain subtree (Set len file value) n = set_plain (path_text (take len subtree)) file value n

changes_plain : (subtree : Names) (mends : List Mend) → IsPlain (changes_value subtree mends) 2
changes_plain subtree mends =
    list_plain (mend_value subtree) 1 mends (λ mend. object_plain (mend_members subtree mend) 0 (mend_plain subtree mend 0))

pub classes_plain : (ways : Ways) → IsPlain (classes_value ways) 2
classes_plain ways =
    list_plain (λ class. string (class_name class)) 1 (filter (has_way ways) (Owner ∷ Group ∷ Others ∷ []))
    (λ class. text_plain (class_name class) 1)

stand_plain : (stand : Let) → IsPlain (stand_value stand) 3
stand_plain (subtree, at, ways) =
    let mends = changes_by ways at in
    let entry = at_plain subtree at 2 in
    let classes = put_plain (codes "classes") (classes_value ways) _ 2 (classes_plain ways) entry in
    object_plain _ 2 (put_plain (codes "changes") (changes_value subtree mends) _ 2 (changes_plain subtree mends) classes)

over_plain : (over : Raised) → IsPlain (over_value over) 3
over_plain (subtree, mends) =
    object_plain _ 2 (put_plain (codes "changes") (changes_value subtree mends) _ 2 (changes_plain subtree mends)
    (guard_plain (guard_name AlreadyOver) (path_text subtree) 2))

fails_plain : (stands : List Let) (overs : List Raised) → IsPlain (fails_value stands overs) 4
fails_plain stands overs = lists_plain stand_value over_value 3 stands overs stand_plain over_plain

pub failing_plain : (stands : List Let) (overs : List Raised) → ArePlain (failing_members stands overs) 4
failing_plain stands overs =
    put_plain (codes "fails") (fails_value stands overs) _ 4 (fails_plain stands overs)
    (text_more (codes "answer") (codes "fails") no_members 4 (none_plain 4))
