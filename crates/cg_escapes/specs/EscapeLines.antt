-- What laws beside the theorems speak of: nobody has to believe it.
-- What names a state needs so that the lines of its escapes can be read again. Own.
use Rattle.std.specs.Prelude.{◌≡◌, ℕ, true, is_some, Some}
use Rattle.cg_cgroup.specs.Paths.{Names, IsPath}
use Rattle.cg_cgroup.specs.Identity.{Identity}
use Rattle.cg_cgroup.specs.Numbers.{is_pid}
use Rattle.cg_cgroup.specs.Users.{reaches}
use Rattle.cg_cgroup.specs.Files.{is_of}
use Rattle.cg_cgroup.specs.declared.files.EntryName.{EntryName}
use Rattle.cg_cgroup.specs.declared.files.Vocabulary.{Vocabulary}
use Rattle.cg_cgroup.specs.declared.user.Entry.{Entry}
use Rattle.cg_model.specs.States.{State, process_at, entry_at}
use Rattle.cg_model.specs.WellFormed.{has_row}
use Rattle.cg_lines.specs.OperationLines.{is_entry_of}

-- each cgroup stands at a path, and each live process has a PID
pub record IsNamed (st : State) : Type 0 where
  pub paths : (path : Names) → has_row st path ≡ true → IsPath path
  pub pids : (pid : ℕ) → is_some (process_at st pid) ≡ true → is_pid pid ≡ true

-- lines of the vocabulary name each controller that the root has, and each entry that the user reaches
pub record IsWorded (vocabulary : Vocabulary) (st : State) (user : Identity) : Type 0 where
  pub controllers : is_of vocabulary st.controllers ≡ true
  pub entries : (path : Names) (name : EntryName) (entry : Entry) → entry_at st path name ≡ Some entry → reaches user entry ≡ true
      → is_entry_of vocabulary name ≡ true
