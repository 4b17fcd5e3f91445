use Rattle.std.proofs.Common.{◌≡◌, ◌≢◌, List, map, sym, subst, Ok, Err}
use Rattle.std.specs.Prelude.{Result, MatchResult}
use Rattle.arguments.specs.Given.{ids_of_pair}
use Rattle.cg_faults.specs.declared.fault.CliFault.{CliFault}
use Rattle.cg_faults.specs.declared.fault.CliFault.TheVariants.{NoMemory}
use Rattle.commands.specs.Lines.{longest_lines}
use Rattle.commands.specs.PairLines.{GivenPair, line_read}
use Rattle.commands.proofs.LineLaws.{length_front, front_fits, long_read, short_read}
use Rattle.commands.proofs.pairs.lines_of.Goals as goal

pub slice_bounds-pairs_of-end : goal.slice_bounds-pairs_of-end
slice_bounds-pairs_of-end c = length_front longest_lines c.args.text.now c.if-text-gt-LONGEST_LINES.true

pub pairs_of-requires : goal.pairs_of-requires
pairs_of-requires c = front_fits longest_lines c.args.text.now

pub returns-then-text-gt-LONGEST_LINES-clause-pairs : goal.returns-then-text-gt-LONGEST_LINES-clause-pairs
returns-then-text-gt-LONGEST_LINES-clause-pairs c =
    subst (λ (read : Result (List GivenPair) CliFault). MatchResult c.pairs_of.result (λ pairs. read ≡ Ok (map ids_of_pair pairs.items))
    (λ fault. fault ≢ NoMemory → read ≡ Err fault))
    (sym (long_read line_read longest_lines c.args.text.now c.if-text-gt-LONGEST_LINES.true)) c.pairs_of.ensures.pairs

pub returns-else-text-gt-LONGEST_LINES-clause-pairs : goal.returns-else-text-gt-LONGEST_LINES-clause-pairs
returns-else-text-gt-LONGEST_LINES-clause-pairs c =
    subst (λ (read : Result (List GivenPair) CliFault). MatchResult c.pairs_of-else-text-gt-LONGEST_LINES.result
    (λ pairs. read ≡ Ok (map ids_of_pair pairs.items)) (λ fault. fault ≢ NoMemory → read ≡ Err fault))
    (sym (short_read line_read longest_lines c.args.text.now c.if-text-gt-LONGEST_LINES.false))
    c.pairs_of-else-text-gt-LONGEST_LINES.ensures.pairs
