use Rattle.std.proofs.Common.{ap, sym, ◌∙◌}
use Rattle.std.specs.Cmp.{nat_cmp_total}
use Rattle.std.specs.FinSet as set
use Rattle.cg_rows.proofs.processes.Processes.is_used.Goals as goal

pub returns : goal.returns
returns c =
    c.contains.ensures ∙ sym (set.contains-from_list nat_cmp_total c.self.inside.used.keys c.args.pid)
    ∙ ap (λ s. set.contains s.used c.args.pid) c.self.view_is
