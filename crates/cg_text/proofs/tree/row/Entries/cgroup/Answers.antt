-- An owner that isn't so is the first fault, a value that isn't so the second; else the cgroup has what was read.
use Rattle.std.proofs.Common.{refl, sym, ◌∙◌}
use Rattle.cg_cgroup.specs.declared.files.LimitFile.TheVariants.{MaxDescendants, MaxDepth}
use Rattle.cg_cgroup.specs.declared.files.EntryName.TheVariants.{Dir, Procs, SubtreeControl, File}
use Rattle.cg_text.proofs.RowLaws.{no_owner, no_value, has_file, has_each, each_owned, none_owned, none_valued, cgroup_read}
use Rattle.cg_text.proofs.tree.row.Entries.cgroup.Goals as goal

pub returns-in_err-dir : goal.returns-in_err-dir
returns-in_err-dir c = no_owner c.args.self Dir refl _ _ _ c.from_residual.ensures c.in_err-dir.ensures

pub returns-in_err-procs : goal.returns-in_err-procs
returns-in_err-procs c = no_owner c.args.self Procs refl _ _ _ c.from_residual-in_err-procs.ensures c.in_err-procs.ensures

pub returns-in_err-subtree_control : goal.returns-in_err-subtree_control
returns-in_err-subtree_control c =
    no_owner c.args.self SubtreeControl refl _ _ _ c.from_residual-in_err-subtree_control.ensures c.in_err-subtree_control.ensures

pub returns-in_err-max_descendants : goal.returns-in_err-max_descendants
returns-in_err-max_descendants c =
    no_owner c.args.self (File MaxDescendants) refl _ _ _ c.from_residual-in_err-max_descendants.ensures c.in_err-max_descendants.ensures

pub returns-in_err-max_depth : goal.returns-in_err-max_depth
returns-in_err-max_depth c =
    no_owner c.args.self (File MaxDepth) refl _ _ _ c.from_residual-in_err-max_depth.ensures c.in_err-max_depth.ensures

pub returns-then-not-are_owned : goal.returns-then-not-are_owned
returns-then-not-are_owned c = λ _. none_owned c.args.self (sym c.are_owned.ensures ∙ c.if-not-are_owned.true)

pub returns-in_err-max_descendants-2 : goal.returns-in_err-max_descendants-2
returns-in_err-max_descendants-2 c =
    no_value c.args.self
    (each_owned c.args.self _ _ _ _ _ c.in_ok-dir.ensures c.in_ok-procs.ensures c.in_ok-subtree_control.ensures
    c.in_ok-max_descendants.ensures c.in_ok-max_depth.ensures (sym c.are_owned.ensures ∙ c.if-not-are_owned.false))
    MaxDescendants _ _ _ _ c.from_residual-in_err-max_descendants-2.ensures c.in_err-max_descendants-2.ensures

pub returns-in_err-max_depth-2 : goal.returns-in_err-max_depth-2
returns-in_err-max_depth-2 c =
    no_value c.args.self
    (each_owned c.args.self _ _ _ _ _ c.in_ok-dir.ensures c.in_ok-procs.ensures c.in_ok-subtree_control.ensures
    c.in_ok-max_descendants.ensures c.in_ok-max_depth.ensures (sym c.are_owned.ensures ∙ c.if-not-are_owned.false))
    MaxDepth _ _ _ _ c.from_residual-in_err-max_depth-2.ensures c.in_err-max_depth-2.ensures

pub returns-then-not-are_there : goal.returns-then-not-are_there
returns-then-not-are_there c = λ _.
    none_valued c.args.self
    (each_owned c.args.self _ _ _ _ _ c.in_ok-dir.ensures c.in_ok-procs.ensures c.in_ok-subtree_control.ensures
    c.in_ok-max_descendants.ensures c.in_ok-max_depth.ensures (sym c.are_owned.ensures ∙ c.if-not-are_owned.false))
    _ c.brought-files.ensures (sym c.are_there.ensures ∙ c.if-not-are_there.true)

pub returns : goal.returns
returns c =
    cgroup_read c.args.self c.args.enabled c.args.freeze _ refl refl c.in_ok-dir.ensures c.in_ok-procs.ensures
    c.in_ok-subtree_control.ensures
    (has_each c.args.self _ c.brought-files.ensures (sym c.are_there.ensures ∙ c.if-not-are_there.false)
    (has_file c.args.self _ MaxDescendants _ _ refl c.in_ok-max_descendants.ensures c.in_ok-max_descendants-2.ensures)
    (has_file c.args.self _ MaxDepth _ _ refl c.in_ok-max_depth.ensures c.in_ok-max_depth-2.ensures))
