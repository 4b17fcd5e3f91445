use Rattle.std.proofs.Common.{take, ◌∙◌}
use Rattle.cg_cgroup.proofs.PathEnds.{kept_front}
use Rattle.cg_cgroup.proofs.PathNames.{IsPath-take, IsKept-at, names_of-at, first_ends}
use Rattle.cg_cgroup.proofs.path.Path.try_prefix.Goals as goal

pub slice_bounds-from_slice-end : goal.slice_bounds-from_slice-end
slice_bounds-from_slice-end c =
    rw c.as_slice.ensures.value (kept_front _ _ c.args.self.now c.args.len c.self.invariant c.self.view_is c.requires)

pub invariant_of-result : goal.invariant_of-result
invariant_of-result c =
    let path = c.args.self.now in
    let ends = c.in_ok-ends.ensures.items ∙ first_ends _ _ _ path c.args.len c.self.invariant c.self.view_is c.as_slice.ensures.value in
    IsKept-at _ _ (take c.args.len path) (IsPath-take path c.args.len c.front.ensures.path) (c.in_ok-text.ensures.ok ∙ c.front.ensures.text)
    ends

pub returns : goal.returns
returns c =
    let path = c.args.self.now in
    names_of-at _ (take c.args.len path) (IsPath-take path c.args.len c.front.ensures.path) (c.in_ok-text.ensures.ok ∙ c.front.ensures.text)
