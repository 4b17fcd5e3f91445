use Rattle.std.proofs.Common.{◌≡◌, ◌<◌, false, ap, sym, subst, ◌∙◌, arith}
use Rattle.serde_json.specs.Data.{members_depth}
use Rattle.serde_json.specs.Read.{max_depth}
use Rattle.serde_json.specs.Written.{members_have_float}
use Rattle.cg_json.specs.Audits.{put_pair}
use Rattle.cg_json.proofs.Plain.{answer_plain, pair_plain, shallow}
use Rattle.cg_json.proofs.audit.pair_json.Goals as goal

pub line_of-requires-clause-exact : goal.line_of-requires-clause-exact
line_of-requires-clause-exact c =
    subst (λ ms. members_have_float ms ≡ false)
    (sym (c.in_ok-put_pair.ensures ∙ ap (put_pair c.args.user.now c.args.subtree.now) c.in_ok-members.ensures))
    (pair_plain c.args.user.now c.args.subtree.now _ (answer_plain c.args.subtree.now c.args.answer.now)).exact

pub line_of-requires-clause-within : goal.line_of-requires-clause-within
line_of-requires-clause-within c =
    subst (λ ms. members_depth ms < max_depth)
    (sym (c.in_ok-put_pair.ensures ∙ ap (put_pair c.args.user.now c.args.subtree.now) c.in_ok-members.ensures))
    (shallow _ 3 (omega arith) (pair_plain c.args.user.now c.args.subtree.now _ (answer_plain c.args.subtree.now c.args.answer.now)))
