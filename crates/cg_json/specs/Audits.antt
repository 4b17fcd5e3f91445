-- The JSON objects of pairs, and of the answer for several users and several subtrees. Own.
use Rattle.std.specs.Prelude.{ℕ, List, [], get_or, codes}
use Rattle.cg_cgroup.specs.Paths.{Names, path_text}
use Rattle.cg_cgroup.specs.Identity.{Identity}
use Rattle.cg_model.specs.Listed.{Listed}
use Rattle.cg_model.specs.declared.answer.AllAnswer.{AllAnswer}
use Rattle.cg_model.specs.declared.answer.AllAnswer.TheVariants.{Contained, Pair}
use Rattle.cg_report.specs.AuditLines.{subtree_at}
use Rattle.serde_json.specs.Data.{Data, object, Members, put}
use Rattle.cg_json.specs.Members.{put_text, put_number, numbers_value}
use Rattle.cg_json.specs.Answers.{contained_members, answer_members}

abbrev pub contained_value : Data
contained_value = object contained_members

-- a user with all their groups, and a subtree
abbrev pub put_pair : Identity → Names → Members → Members
put_pair user subtree members =
    put_text (codes "subtree") (path_text subtree)
    (put (codes "gids") (numbers_value user.gids) (put_number (codes "uid") user.uid members))

abbrev pub pair_value : Listed → Data
pair_value pair = object (put_pair pair.user pair.subtree (answer_members pair.subtree pair.found))

-- the user at a place of a list
abbrev pub listed_user : List Identity → ℕ → Identity
listed_user users place = get_or users place (record { uid = 0; gids = [] })

-- contained, or the pair that isn't
abbrev pub audit_value : List Identity → List Names → AllAnswer → Data
audit_value users subtrees Contained = contained_value
audit_value users subtrees (Pair user subtree answer) =
    pair_value (record { user = listed_user users user; subtree = subtree_at subtrees subtree; found = answer })
