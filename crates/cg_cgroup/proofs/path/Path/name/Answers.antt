use Rattle.std.proofs.Common.{arith, ◌∙◌, ◌+◌}
use Rattle.cg_cgroup.proofs.PathEnds.{kept_path, kept_text, cut_anywhere, end_le, path_bytes, length_more, name_text, depth_le}
use Rattle.cg_cgroup.proofs.path.Path.name.Goals as goal

pub overflow_add-end : goal.overflow_add-end
overflow_add-end c =
    let b = path_bytes c.args.self.now (kept_path _ _ c.args.self.now c.self.invariant c.self.view_is) in
    let l = end_le c.args.self.now c.args.i in
    grind (arith)

pub overflow_add-i : goal.overflow_add-i
overflow_add-i c =
    let b = path_bytes c.args.self.now (kept_path _ _ c.args.self.now c.self.invariant c.self.view_is) in
    let l = depth_le c.args.self.now in
    grind (arith)

pub range-requires-clause-start_le_end : goal.range-requires-clause-start_le_end
range-requires-clause-start_le_end c =
    let l = length_more c.args.self.now c.args.i c.requires in
    omega arith

pub range-requires-clause-start_boundary : goal.range-requires-clause-start_boundary
range-requires-clause-start_boundary c =
    let path = c.args.self.now in
    λ h. rw c.as_str.ensures.value (cut_anywhere path _ _ (kept_path _ _ path c.self.invariant c.self.view_is)
    (kept_text _ _ path c.self.invariant c.self.view_is)
    (omega (arith, length_more path c.args.i c.requires, end_le path (c.args.i + 1))))

pub range-requires-clause-end_boundary : goal.range-requires-clause-end_boundary
range-requires-clause-end_boundary c =
    let path = c.args.self.now in
    rw c.as_str.ensures.value (cut_anywhere path _ _ (kept_path _ _ path c.self.invariant c.self.view_is)
    (kept_text _ _ path c.self.invariant c.self.view_is) (omega (arith, end_le path (c.args.i + 1))))

pub returns : goal.returns
returns c =
    let path = c.args.self.now in
    c.range.ensures.value ∙ rw c.as_str.ensures.value
    (name_text path _ c.args.i _ _ (kept_text _ _ path c.self.invariant c.self.view_is) c.requires c.end.ensures c.end-2.ensures)
