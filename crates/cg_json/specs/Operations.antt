-- The JSON objects of operations: the word of each, and what it names. Own.
use Rattle.std.specs.Prelude.{ℕ, List, codes}
use Rattle.cg_cgroup.specs.Paths.{path_text}
use Rattle.cg_cgroup.specs.Files.{file_name, other_name, entry_text}
use Rattle.cg_cgroup.specs.declared.files.LimitFile.{LimitFile}
use Rattle.cg_cgroup.specs.declared.files.EntryName.{EntryName}
use Rattle.cg_cgroup.specs.declared.files.Limit.{Limit}
use Rattle.cg_cgroup.specs.declared.files.Limit.TheVariants.{Max, At}
use Rattle.cg_model.specs.declared.changes.Change.{Change}
use Rattle.cg_model.specs.declared.operation.Op.{Op}
use Rattle.cg_model.specs.declared.operation.Op.TheVariants.{Move, Control, Mkdir, Rmdir, Set, SetOther, Fork, Exit, Chmod}
use Rattle.cg_lines.specs.OperationLines.{change_word, mode_word}
use Rattle.serde_json.specs.Data.{Data, string, number, object, unsigned, Members, no_members, put}
use Rattle.cg_json.specs.Members.{put_text, put_number, each_value}

-- a number, or max
abbrev pub limit_value : Limit → Data
limit_value Max = string (codes "max")
limit_value (At value) = number (unsigned value)

abbrev pub words_value : List Change → Data
words_value changes = each_value (λ change. string (change_word change)) changes

abbrev pub of_path : List ℕ → List ℕ → Members
of_path word place = put_text (codes "path") place (put_text (codes "operation") word no_members)

abbrev pub of_process : List ℕ → ℕ → Members
of_process word pid = put_number (codes "pid") pid (put_text (codes "operation") word no_members)

abbrev pub of_entry : List ℕ → List ℕ → List ℕ → Members
of_entry word place entry = put_text (codes "entry") entry (of_path word place)

abbrev pub put_mode : ℕ → Members → Members
put_mode mode members = put_text (codes "mode") (mode_word mode) members

abbrev pub control_members : List ℕ → List Change → Members
control_members place changes = put (codes "changes") (words_value changes) (of_path (codes "control") place)

abbrev pub set_members : List ℕ → LimitFile → Limit → Members
set_members place file value = put (codes "value") (limit_value value) (of_entry (codes "set") place (file_name file))

abbrev pub chmod_members : List ℕ → EntryName → ℕ → Members
chmod_members place entry mode = put_mode mode (of_entry (codes "chmod") place (entry_text entry))

abbrev pub op_members : Op → Members
op_members (Move pid to) = put_text (codes "path") (path_text to) (of_process (codes "move") pid)
op_members (Control at changes) = control_members (path_text at) changes
op_members (Mkdir path) = of_path (codes "mkdir") (path_text path)
op_members (Rmdir path) = of_path (codes "rmdir") (path_text path)
op_members (Set at file value) = set_members (path_text at) file value
op_members (SetOther at file value) = put_text (codes "value") value (of_entry (codes "set") (path_text at) (other_name file))
op_members (Fork parent child) = put_number (codes "child") child (of_process (codes "fork") parent)
op_members (Exit pid) = of_process (codes "exit") pid
op_members (Chmod at entry mode) = chmod_members (path_text at) entry mode

abbrev pub op_value : Op → Data
op_value op = object (op_members op)

abbrev pub ops_value : List Op → Data
ops_value ops = each_value op_value ops
