-- The JSON object of an answer, with the words of its lines. Own.
use Rattle.std.specs.Prelude.{List, take, codes}
use Rattle.cg_cgroup.specs.Paths.{Names, path_text}
use Rattle.cg_cgroup.specs.Files.{entry_text}
use Rattle.cg_model.specs.GuardNames.{guard_name}
use Rattle.cg_model.specs.declared.operation.Op.{Op}
use Rattle.cg_model.specs.declared.guard.Guard.{Guard}
use Rattle.cg_model.specs.declared.guard.Guard.TheVariants.{CommonAncestor, LimitFile, ParentControl, ParentDir, AlreadyOver}
use Rattle.cg_model.specs.declared.guard.Failed.{Failed}
use Rattle.cg_model.specs.declared.answer.Answer.{Answer}
use Rattle.cg_model.specs.declared.answer.Answer.TheVariants.{Contained, Escapes, Unsettled}
use Rattle.serde_json.specs.Data.{Data, object, Members, no_members, put}
use Rattle.cg_json.specs.Members.{put_text}
use Rattle.cg_json.specs.Operations.{ops_value}

-- one more member where a guard is a limit file's
abbrev pub put_limit_file : Guard → Members → Members
put_limit_file CommonAncestor members = members
put_limit_file (LimitFile entry) members = put_text (codes "entry") (entry_text entry) members
put_limit_file ParentControl members = members
put_limit_file ParentDir members = members
put_limit_file AlreadyOver members = members

abbrev pub contained_members : Members
contained_members = put_text (codes "answer") (codes "contained") no_members

abbrev pub escape_members : List Op → Members
escape_members ops = put (codes "operations") (ops_value ops) (put_text (codes "answer") (codes "escapes") no_members)

-- the guard that fails, and the cgroup at which it does
abbrev pub failed_members : Names → Failed → Members
failed_members subtree failed =
    put_limit_file failed.guard (put_text (codes "path") (path_text (take failed.len subtree))
    (put_text (codes "guard") (guard_name failed.guard) (put_text (codes "answer") (codes "unsettled") no_members)))

abbrev pub answer_members : Names → Answer → Members
answer_members subtree Contained = contained_members
answer_members subtree (Escapes ops) = escape_members ops
answer_members subtree (Unsettled failed) = failed_members subtree failed

abbrev pub answer_value : Names → Answer → Data
answer_value subtree answer = object (answer_members subtree answer)
