use Rattle.std.proofs.Common.{◌≡◌, true, false, cond, take, take_all, arith, sym, ap, ◌∙◌}
use Rattle.cg_cgroup.specs.Paths.{same_path, is_child}
use Rattle.cg_cgroup.specs.Cgroups.{with_files_of}
use Rattle.cg_cgroup.specs.declared.cgroup.Cgroup.{Cgroup}
use Rattle.cg_model.specs.States.{enabling_these}
use Rattle.cg_rows.proofs.tables.path_table.enable.enable_one.Goals as goal

pub returns-then-is_child : goal.returns-then-is_child
returns-then-is_child c =
    let row : Cgroup = c.args.row.now in
    let own : Cgroup = enabling_these c.args.enabled row in
    let refitted : Cgroup = with_files_of c.args.enabled c.args.user.now row in
    let other : same_path c.args.path.now c.args.other.now ≡ false = sym c.eq.ensures ∙ c.if-eq.false in
    let whole : take c.depth.result c.args.path.now ≡ c.args.path.now =
    take_all c.depth.result c.args.path.now (omega (arith, c.depth.ensures.depth)) in
    let child : is_child c.args.path.now c.args.other.now ≡ true =
    ap (λ path. is_child path c.args.other.now) (sym whole) ∙ sym c.is_child.ensures ∙ c.if-is_child.true in
    c.refit.ensures
    ∙ sym (ap (λ b. cond b own (cond (is_child c.args.path.now c.args.other.now) refitted row)) other ∙ ap (λ b. cond b refitted row) child)
