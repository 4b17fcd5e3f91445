use Rattle.std.proofs.Common.{ap, ◌∙◌}
use Rattle.cg_cgroup.specs.Cgroups.{with_held, with_file_mode_of}
use Rattle.cg_cgroup.proofs.CgroupLaws.{with_file-brought}
use Rattle.cg_cgroup.proofs.cgroup.Cgroup.set_file_mode.Goals as goal

pub returns-in_default : goal.returns-in_default
returns-in_default c =
    let row = c.args.self.now in
    let place = ap (λ place. with_held place (with_file_mode_of c.args.mode) row.files) c.place.ensures.place in
    ap (λ files. record row { files = files }) (c.set_mode.ensures ∙ place)
    ∙ with_file-brought c.args.file (with_file_mode_of c.args.mode) row c.in_default.not-MaxDescendants c.in_default.not-MaxDepth
