use Rattle.std.proofs.Common.{◌≡◌, ◌<◌, false, codes, ap, sym, subst, ◌∙◌, arith}
use Rattle.serde_json.specs.Data.{put, members_depth}
use Rattle.serde_json.specs.Read.{max_depth}
use Rattle.serde_json.specs.Written.{members_have_float}
use Rattle.cg_model.specs.Listed.{Listed}
use Rattle.cg_json.specs.Audits.{put_pair}
use Rattle.cg_json.proofs.Plain.{shallow}
use Rattle.cg_explain.specs.Objects.{which_members}
use Rattle.cg_explain.proofs.PlainObjects.{explained_plain}
use Rattle.cg_explain.proofs.objects.explained_json.Goals as goal

pub line_of-requires-clause-exact : goal.line_of-requires-clause-exact
line_of-requires-clause-exact g c =
    let pair : Listed = record { user = c.args.user.now; subtree = c.args.subtree.now; found = c.args.answer.now } in
    subst (λ ms. members_have_float ms ≡ false)
    (sym (c.in_ok-members.ensures
    ∙ ap (λ guards. put (codes "guards") guards (put_pair pair.user pair.subtree (which_members pair.subtree pair.found)))
    c.in_ok-guards.ensures))
    (explained_plain (g.H.Hierarchy.state c.args.tree.now) pair).exact

pub line_of-requires-clause-within : goal.line_of-requires-clause-within
line_of-requires-clause-within g c =
    let pair : Listed = record { user = c.args.user.now; subtree = c.args.subtree.now; found = c.args.answer.now } in
    subst (λ ms. members_depth ms < max_depth)
    (sym (c.in_ok-members.ensures
    ∙ ap (λ guards. put (codes "guards") guards (put_pair pair.user pair.subtree (which_members pair.subtree pair.found)))
    c.in_ok-guards.ensures))
    (shallow _ 3 (omega arith) (explained_plain (g.H.Hierarchy.state c.args.tree.now) pair))
