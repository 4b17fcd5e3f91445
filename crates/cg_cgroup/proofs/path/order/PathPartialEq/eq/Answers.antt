use Rattle.cg_cgroup.proofs.PathEnds.{kept_path, kept_text, path_names}
use Rattle.cg_cgroup.proofs.PathSteps.{same_text_path}
use Rattle.cg_cgroup.proofs.path.order.PathPartialEq.eq.Goals as goal

pub returns : goal.returns
returns c =
    let p = c.args.self.now in
    let q = c.args.other.now in
    same_text_path p q _ _ (path_names p (kept_path _ _ p c.self.invariant c.self.view_is))
    (path_names q (kept_path _ _ q c.other.invariant c.other.view_is)) (kept_text _ _ p c.self.invariant c.self.view_is)
    (kept_text _ _ q c.other.invariant c.other.view_is) _ c.eq.ensures
