use Rattle.std.proofs.Common.{ap, sym, true≢false}
use Rattle.std.specs.Option.{ok_or}
use Rattle.cg_format.specs.declared.fault.TreeFault.TheVariants.{NotToml}
use Rattle.cg_text.proofs.TextLaws.{document_is, no_document}
use Rattle.cg_text.proofs.tree.document_of.Goals as goal

pub returns-in-Ok : goal.returns-in-Ok
returns-in-Ok c = ap (λ o. ok_or o NotToml) (document_is c.args.bytes.now _ c.in-Ok.ensures.ok)

pub returns-else-is_memory : goal.returns-else-is_memory
returns-else-is_memory c = λ other.
    ap (λ o. ok_or o NotToml) (no_document c.args.bytes.now (c.in-Err.ensures.refused
    (λ memory. true≢false (sym (c.if-is_memory.ensures.1 memory)))))
