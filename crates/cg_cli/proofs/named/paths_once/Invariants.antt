use Rattle.std.proofs.Common.{map, take}
use Rattle.std.specs.BTreeSet.{contains}
use Rattle.cg_cgroup.specs.Paths.{path_cmp, same_path}
use Rattle.cg_cli.specs.Audits.{paths_read}
use Rattle.cg_cli.proofs.Once.{ReadOnce}
use Rattle.cg_cli.proofs.named.paths_once.Given as goal

abbrev pub invariant-loop-text : goal.invariant-loop-text
invariant-loop-text l =
    ReadOnce same_path same_path (paths_read (map (λ text. text.now) (take l.text-index l.texts))) l.read.items (contains path_cmp l.seen)
