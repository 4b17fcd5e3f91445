-- What a text tells is one thing.
use Rattle.std.proofs.Common.{◌≡◌, ℕ, List, [], Some, sym, ap, ◌∙◌}
use Rattle.std.specs.Prelude.{codes, count_by, find, nat_eq}
use Rattle.std.specs.Option.{option_map}
use Rattle.cg_cgroup.specs.Paths.{Names, same_path}
use Rattle.cg_cgroup.proofs.Options.{same_some}
use Rattle.machine.specs.Machines.{Machine, File}
use Rattle.machine_text.specs.Telling.{TextTells, at_key, array_as, Row, row_as, Live, live_as, file_said_at}

module _ (text : List ℕ) (one other : Machine) (is : TextTells text one) (also : TextTells text other) where
  same_document : is.document ≡ also.document
  same_document = same_some is.document also.document (sym is.parsed ∙ also.parsed)

  same_rows : is.rows ≡ also.rows
  same_rows =
      same_some is.rows also.rows (sym is.cgroups
      ∙ ap (at_key (Some []) (array_as row_as) (codes "cgroup")) same_document ∙ also.cgroups)

  same_lives : is.lives ≡ also.lives
  same_lives =
      same_some is.lives also.lives (sym is.processes
      ∙ ap (at_key (Some []) (array_as live_as) (codes "process")) same_document ∙ also.processes)

  pub same_paths : (path : Names) → count_by (same_path path) one.paths ≡ count_by (same_path path) other.paths
  same_paths path =
      is.paths path ∙ ap (count_by (λ (row : Row). same_path path row.path)) same_rows ∙ sym (also.paths path)

  pub same_files : (path : Names) (file : File) → one.inode path file ≡ other.inode path file
  same_files path file =
      same_some (one.inode path file) (other.inode path file)
      (sym (is.files path file) ∙ ap (λ (rows : List Row). file_said_at rows path file) same_rows ∙ also.files path file)

  pub same_places : (pid : ℕ) → one.cgroup pid ≡ other.cgroup pid
  same_places pid =
      is.places pid
      ∙ ap (λ (lives : List Live). option_map (λ (live : Live). live.place) (find (λ (live : Live). nat_eq pid live.pid) lives)) same_lives
      ∙ sym (also.places pid)
