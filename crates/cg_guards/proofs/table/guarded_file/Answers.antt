use Rattle.cg_guards.proofs.TableWalk.{usual_file, other_file}
use Rattle.cg_guards.proofs.table.guarded_file.Goals as goal

pub returns-then-place-files : goal.returns-then-place-files
returns-then-place-files c = usual_file c.args.place _ c.if-place-files.true

pub returns-else-place-files : goal.returns-else-place-files
returns-else-place-files c = other_file c.args.place _ c.if-place-files.false c.requires
