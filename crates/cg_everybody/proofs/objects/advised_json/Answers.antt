use Rattle.std.proofs.Common.{◌≡◌, ◌<◌, false, sym, subst, arith}
use Rattle.serde_json.specs.Data.{members_depth}
use Rattle.serde_json.specs.Read.{max_depth}
use Rattle.serde_json.specs.Written.{members_have_float}
use Rattle.cg_json.proofs.Plain.{shallow}
use Rattle.cg_everybody.specs.Everybody.{everybody_of}
use Rattle.cg_everybody.proofs.PlainObjects.{advised_plain}
use Rattle.cg_everybody.proofs.objects.advised_json.Goals as goal

pub line_of-requires-clause-exact : goal.line_of-requires-clause-exact
line_of-requires-clause-exact g c =
    subst (λ ms. members_have_float ms ≡ false) (sym c.in_ok-members.ensures)
    (advised_plain (g.H.Hierarchy.state c.args.tree.now) (everybody_of c.args.asked.now) c.args.subtrees.now c.args.found).exact

pub line_of-requires-clause-within : goal.line_of-requires-clause-within
line_of-requires-clause-within g c =
    subst (λ ms. members_depth ms < max_depth) (sym c.in_ok-members.ensures)
    (shallow _ 4 (omega arith)
    (advised_plain (g.H.Hierarchy.state c.args.tree.now) (everybody_of c.args.asked.now) c.args.subtrees.now c.args.found))
