use Rattle.std.proofs.Common.{ap, sym, ◌∙◌, ◌≡◌, take, cond, length}
use Rattle.cg_cgroup.specs.Paths.{common}
use Rattle.cg_cgroup.specs.declared.files.EntryName.TheVariants.{Procs}
use Rattle.cg_cgroup.proofs.PathLaws.{common_comm}
use Rattle.cg_second.specs.Lasting.{is_reached}
use Rattle.cg_model.proofs.Prefixes.{take_common}
use Rattle.cg_second.specs.Exposed.{is_passed_to}
use Rattle.cg_second.proofs.closed.is_exposed.Goals as goal

pub returns : goal.returns
returns g c =
    let s = c.args.survey.now in
    let st = g.H.Hierarchy.state s.tree.now in
    let subtree = c.args.subtree.now in
    let path = c.args.path.now in
    let at : take c.common_len.result subtree ≡ common subtree path =
    ap (λ n. take n subtree) c.common_len.ensures ∙ take_common path subtree ∙ common_comm path subtree in
    c.is_reached.ensures ∙ ap (λ p. is_reached st s.users.now p Procs) at
    ∙ ap (λ b. cond b (is_passed_to st s.users.now subtree (length subtree)) (is_reached st s.users.now (common subtree path) Procs))
    (sym c.if-is_prefix_of.false ∙ c.is_prefix_of.ensures)
