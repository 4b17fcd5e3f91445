use Rattle.std.proofs.Common.{◌∙◌, ap, arith, length, take, string_bytes}
use Rattle.text_places.specs.Shown.{shown}
use Rattle.text_places.proofs.Quotes.{cut}
use Rattle.text_places.proofs.shown.quoted.Goals as goal

pub returns-then-len-ge-LONGEST_QUOTE : goal.returns-then-len-ge-LONGEST_QUOTE
returns-then-len-ge-LONGEST_QUOTE c = cut c.args.text.now (string_bytes c.loop-byte.quote) (string_bytes c.push_str.new.self)
    c.loop-byte.byte-index
    (c.loop-byte.invariant.0 ∙ ap (λ all. shown (take c.loop-byte.byte-index all)) c.as_bytes-byte-items.ensures.value)
    (omega (arith, ap length c.as_bytes-byte-items.ensures.value)) (omega arith) c.loop-byte.invariant.1 c.in_ok-push_str.ensures.bytes
