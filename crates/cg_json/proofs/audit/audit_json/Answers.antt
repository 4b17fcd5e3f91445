use Rattle.std.proofs.Common.{IfOk, subst}
use Rattle.serde_json.specs.Data.{Data}
use Rattle.cg_json.specs.Lines.{IsLineOf}
use Rattle.cg_json.proofs.Audited.{named_by_places}
use Rattle.cg_json.proofs.audit.audit_json.Goals as goal

pub returns-in-Pair : goal.returns-in-Pair
returns-in-Pair c =
    subst (λ (value : Data). IfOk c.pair_json.result (λ text. IsLineOf value text.items))
    (named_by_places c.args.users.now c.args.subtrees.now c.args.answer.now c.in-Pair.user c.in-Pair.subtree c.in-Pair.answer
    c.index-users-user.result c.index-subtrees-subtree.result c.in-Pair.is c.requires c.index-users-user.is c.index-subtrees-subtree.is)
    c.pair_json.ensures
