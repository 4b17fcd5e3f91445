use Rattle.std.proofs.Common.{◌≡◌, true, cond, take, take_all, arith, sym, ap, ◌∙◌}
use Rattle.cg_cgroup.specs.Paths.{is_child}
use Rattle.cg_cgroup.specs.Told.{told_under}
use Rattle.cg_rows.proofs.tables.path_table.tell.keep_one.Goals as goal

pub returns-then-is_child : goal.returns-then-is_child
returns-then-is_child c =
    let whole : take c.depth.result c.args.path.now ≡ c.args.path.now =
    take_all c.depth.result c.args.path.now (omega (arith, c.depth.ensures.depth)) in
    let child : is_child c.args.path.now c.args.other.now ≡ true =
    ap (λ path. is_child path c.args.other.now) (sym whole) ∙ sym c.is_child.ensures ∙ c.if-is_child.true in
    c.keep.ensures ∙ sym (ap (λ b. cond b (told_under c.args.enabled c.args.files.now) c.args.files.now) child)
