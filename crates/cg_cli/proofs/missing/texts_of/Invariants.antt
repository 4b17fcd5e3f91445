use Rattle.std.proofs.Common.{◌≡◌, map, take}
use Rattle.cg_cgroup.specs.Paths.{path_text}
use Rattle.cg_cli.proofs.missing.texts_of.Given as goal

abbrev pub invariant-loop-path : goal.invariant-loop-path
invariant-loop-path l = map (λ text. text.now) l.texts.items ≡ map (λ row. path_text row.0) (take l.path-index l.cgroups)
