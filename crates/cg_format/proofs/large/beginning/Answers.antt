use Rattle.std.proofs.Common.{sym, arith}
use Rattle.std.proofs.lemmas.List.{take_all}
use Rattle.cg_format.proofs.large.beginning.Goals as goal

pub returns-then-text-lt-BEGINNING : goal.returns-then-text-lt-BEGINNING
returns-then-text-lt-BEGINNING c = sym (take_all 128 c.args.text.now (omega (arith, c.if-text-lt-BEGINNING.true)))
