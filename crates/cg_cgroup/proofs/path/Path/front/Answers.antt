use Rattle.std.proofs.Common.{◌∙◌, arith}
use Rattle.cg_cgroup.proofs.PathEnds.{kept_path, kept_text, cut_anywhere, end_le, prefix_names}
use Rattle.cg_cgroup.proofs.path.Path.front.Goals as goal

pub range-requires-clause-end_boundary : goal.range-requires-clause-end_boundary
range-requires-clause-end_boundary c =
    let path = c.args.self.now in
    rw c.as_str.ensures.value (cut_anywhere path _ _ (kept_path _ _ path c.self.invariant c.self.view_is)
    (kept_text _ _ path c.self.invariant c.self.view_is) (omega (arith, end_le path c.args.len)))

pub returns-clause-text : goal.returns-clause-text
returns-clause-text c =
    let path = c.args.self.now in
    c.range.ensures.value
    ∙ rw c.as_str.ensures.value (prefix_names path _ c.args.len _ (kept_text _ _ path c.self.invariant c.self.view_is) c.end.ensures)
