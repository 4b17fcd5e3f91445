use Rattle.std.proofs.Common.{◌∙◌, ℕ, ap, arith, nat_eq}
use Rattle.text_places.proofs.Lines.{behind_last}
use Rattle.text_places.proofs.position.last_line.Goals as goal

pub returns-then-text-start-eq10 : goal.returns-then-text-start-eq10
returns-then-text-start-eq10 c = c.split_at.ensures.back ∙ behind_last c.args.text.now c.back.start c.back.invariant.0 c.back.invariant.1
    (λ _. ap (λ (byte : ℕ). nat_eq byte 10) c.if-text-start-eq10.true)

pub returns : goal.returns
returns c = behind_last c.args.text.now 0 (omega arith) (λ k from below. c.back.invariant.1 k (omega arith) below)
    (λ some. absurd (omega arith))
