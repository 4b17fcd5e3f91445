-- The JSON objects of an operation's outcome, and of the answer for a move, with the words of their lines. Own.
use Rattle.std.specs.Prelude.{List, ℕ, take, codes, Option, Some, None}
use Rattle.cg_cgroup.specs.Paths.{Names, path_text}
use Rattle.cg_cgroup.specs.Files.{controller_name, file_name, entry_text}
use Rattle.cg_lines.specs.Outcomes.{path_of}
use Rattle.cg_model.specs.declared.operation.Op.{Op}
use Rattle.cg_model.specs.declared.outcome.Refusal.{Refusal}
use Rattle.cg_model.specs.declared.outcome.Refusal.TheVariants.{NoSuchCgroup, NoAccess, NoSuchProcess, InternalProcess, NotAvailable, ChildUses, Exists, DescendantLimit, DepthLimit, RootCgroup, HasChildren, HasProcesses, NoSuchFile, BadValue, NotYours, PidUsed, NotOwner}
use Rattle.cg_model.specs.declared.outcome.Outcome.{Outcome}
use Rattle.cg_model.specs.declared.outcome.Outcome.TheVariants.{Done, Refused}
use Rattle.serde_json.specs.Data.{Data, object, Members, no_members}
use Rattle.cg_json.specs.Members.{put_text, put_number}

abbrev pub refusal_word : Refusal → List ℕ
refusal_word (NoSuchCgroup len) = codes "no-such-cgroup"
refusal_word (NoAccess len entry) = codes "no-access"
refusal_word (NoSuchProcess pid) = codes "no-such-process"
refusal_word (InternalProcess len) = codes "internal-process"
refusal_word (NotAvailable controller) = codes "not-available"
refusal_word (ChildUses controller) = codes "child-uses"
refusal_word Exists = codes "exists"
refusal_word (DescendantLimit len) = codes "descendant-limit"
refusal_word (DepthLimit len) = codes "depth-limit"
refusal_word RootCgroup = codes "root-cgroup"
refusal_word HasChildren = codes "has-children"
refusal_word HasProcesses = codes "has-processes"
refusal_word (NoSuchFile entry) = codes "no-such-file"
refusal_word (BadValue file) = codes "bad-value"
refusal_word (NotYours pid) = codes "not-yours"
refusal_word (PidUsed pid) = codes "pid-used"
refusal_word (NotOwner entry) = codes "not-owner"

abbrev pub put_place : List ℕ → Members → Members
put_place place members = put_text (codes "path") place members

abbrev pub put_entry : List ℕ → List ℕ → Members → Members
put_entry place entry members = put_text (codes "entry") entry (put_place place members)

-- what a refusal names, of an operation that names a path
abbrev pub put_named : Names → Refusal → Members → Members
put_named path (NoSuchCgroup len) members = put_place (path_text (take len path)) members
put_named path (NoAccess len entry) members = put_entry (path_text (take len path)) (entry_text entry) members
put_named path (NoSuchProcess pid) members = put_number (codes "pid") pid members
put_named path (InternalProcess len) members = put_place (path_text (take len path)) members
put_named path (NotAvailable controller) members = put_text (codes "controller") (controller_name controller) members
put_named path (ChildUses controller) members = put_text (codes "controller") (controller_name controller) members
put_named path Exists members = put_place (path_text path) members
put_named path (DescendantLimit len) members = put_place (path_text (take len path)) members
put_named path (DepthLimit len) members = put_place (path_text (take len path)) members
put_named path RootCgroup members = members
put_named path HasChildren members = put_place (path_text path) members
put_named path HasProcesses members = put_place (path_text path) members
put_named path (NoSuchFile entry) members = put_entry (path_text path) (entry_text entry) members
put_named path (BadValue file) members = put_text (codes "entry") (file_name file) members
put_named path (NotYours pid) members = put_number (codes "pid") pid members
put_named path (PidUsed pid) members = put_number (codes "pid") pid members
put_named path (NotOwner entry) members = put_entry (path_text path) (entry_text entry) members

abbrev pub refused_members : Names → Refusal → Members
refused_members path refusal =
    put_named path refusal (put_text (codes "refusal") (refusal_word refusal) (put_text (codes "answer") (codes "refused") no_members))

abbrev pub outcome_members : Op → Outcome → Members
outcome_members op Done = put_text (codes "answer") (codes "ok") no_members
outcome_members op (Refused refusal) = refused_members (path_of op) refusal

abbrev pub outcome_value : Op → Outcome → Data
outcome_value op outcome = object (outcome_members op outcome)

-- granted, or refused for the first thing that bars the operation
abbrev pub permission_members : Op → Option Refusal → Members
permission_members op None = put_text (codes "answer") (codes "granted") no_members
permission_members op (Some bar) = refused_members (path_of op) bar

abbrev pub permission_value : Op → Option Refusal → Data
permission_value op bar = object (permission_members op bar)
