use Rattle.std.proofs.Common.{◌∙◌}
use Rattle.cg_guards.proofs.TableWalk.{ancestor_at, file_at, parent_at}
use Rattle.cg_guards.proofs.table.spot_at.Goals as goal

pub returns-then-place-depth-clause-entry : goal.returns-then-place-depth-clause-entry
returns-then-place-depth-clause-entry c =
    ancestor_at c.args.subtree.now c.args.place c.depth-depth.result c.depth-depth.ensures.depth c.if-place-depth.true

pub returns-then-below-files-clause-entry : goal.returns-then-below-files-clause-entry
returns-then-below-files-clause-entry c =
    file_at c.args.subtree.now c.args.place c.depth-depth.result c.depth-depth.ensures.depth c.guarded_file-name.result
    c.if-place-depth.false c.if-below-files.true c.guarded_file-name.ensures

pub returns-clause-entry : goal.returns-clause-entry
returns-clause-entry c =
    c.parent_spot.ensures.entry
    ∙ parent_at c.args.subtree.now c.args.place c.depth-depth.result c.depth-depth.ensures.depth c.if-place-depth.false
    c.if-below-files.false
