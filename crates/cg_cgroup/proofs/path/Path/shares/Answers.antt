use Rattle.std.proofs.Common.{take, sym}
use Rattle.cg_cgroup.proofs.PathEnds.{path_names}
use Rattle.cg_cgroup.proofs.PathNames.{IsPath-take}
use Rattle.cg_cgroup.proofs.PathSteps.{same_text_path}
use Rattle.cg_cgroup.proofs.path.Path.shares.Goals as goal

pub returns : goal.returns
returns c =
    let p = c.args.self.now in
    let q = c.args.other.now in
    let len = c.args.len in
    same_text_path (take len p) (take len q) _ _ (path_names (take len p) (IsPath-take p len c.front.ensures.path))
    (path_names (take len q) (IsPath-take q len c.front-2.ensures.path)) (sym c.front.ensures.text) (sym c.front-2.ensures.text) _
    c.eq.ensures
