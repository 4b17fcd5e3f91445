use Rattle.std.proofs.Common.{ap, sym, ◌∙◌, Ok}
use Rattle.cg_everybody.specs.Everybody.{everybody_of}
use Rattle.cg_cli.specs.Everybody.{found_status, wanted_text}
use Rattle.cg_cli.specs.Reports.{Report}
use Rattle.cg_cli.proofs.everybody.said.Goals as goal

pub returns : goal.returns
returns g c =
    let st = g.H.Hierarchy.state c.args.tree.now in
    let asked = everybody_of c.args.asked.now in
    let text = c.in_ok-text.ensures ∙ ap (wanted_text c.args.format c.args.wanted asked st c.args.subtrees.now) c.in_ok-found.ensures in
    let status = c.found_status-status.ensures ∙ ap found_status (c.as_slice.ensures.value ∙ c.in_ok-found.ensures) in
    λ i. let it : Report = record { text = sym text i; ending = Ok (sym status i) } in it
