use Rattle.std.proofs.Common.{◌≡◌, ◌<◌, false, ap, sym, subst, ◌∙◌, arith}
use Rattle.serde_json.specs.Data.{members_depth}
use Rattle.serde_json.specs.Read.{max_depth}
use Rattle.serde_json.specs.Written.{members_have_float}
use Rattle.cg_json.proofs.Plain.{shallow}
use Rattle.cg_everybody.specs.Everybody.{everybody_of}
use Rattle.cg_everybody.specs.Objects.{found_members}
use Rattle.cg_everybody.proofs.PlainObjects.{explained_plain}
use Rattle.cg_everybody.proofs.objects.explained_json.Goals as goal

pub line_of-requires-clause-exact : goal.line_of-requires-clause-exact
line_of-requires-clause-exact g c =
    let asked = everybody_of c.args.asked.now in
    subst (λ ms. members_have_float ms ≡ false)
    (sym (c.in_ok-members.ensures ∙ ap (found_members asked c.args.found) c.in_ok-values.ensures))
    (explained_plain (g.H.Hierarchy.state c.args.tree.now) asked c.args.subtrees.now c.args.found).exact

pub line_of-requires-clause-within : goal.line_of-requires-clause-within
line_of-requires-clause-within g c =
    let asked = everybody_of c.args.asked.now in
    subst (λ ms. members_depth ms < max_depth)
    (sym (c.in_ok-members.ensures ∙ ap (found_members asked c.args.found) c.in_ok-values.ensures))
    (shallow _ 4 (omega arith) (explained_plain (g.H.Hierarchy.state c.args.tree.now) asked c.args.subtrees.now c.args.found))
