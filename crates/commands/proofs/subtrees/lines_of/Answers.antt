use Rattle.std.proofs.Common.{◌≡◌, ◌≢◌, List, ℕ, map, sym, subst, Ok, Err}
use Rattle.std.specs.Prelude.{Result, MatchResult}
use Rattle.cg_faults.specs.declared.fault.CliFault.{CliFault}
use Rattle.cg_faults.specs.declared.fault.CliFault.TheVariants.{NoMemory}
use Rattle.commands.specs.Lines.{longest_lines}
use Rattle.commands.specs.SubtreeLines.{subtree_line_read}
use Rattle.commands.proofs.LineLaws.{length_front, front_fits, long_read, short_read}
use Rattle.commands.proofs.subtrees.lines_of.Goals as goal

pub slice_bounds-subtrees_of-end : goal.slice_bounds-subtrees_of-end
slice_bounds-subtrees_of-end c = length_front longest_lines c.args.text.now c.if-text-gt-LONGEST_LINES.true

pub subtrees_of-requires : goal.subtrees_of-requires
subtrees_of-requires c = front_fits longest_lines c.args.text.now

pub returns-then-text-gt-LONGEST_LINES-clause-subtrees : goal.returns-then-text-gt-LONGEST_LINES-clause-subtrees
returns-then-text-gt-LONGEST_LINES-clause-subtrees c =
    subst (λ (read : Result (List (List ℕ)) CliFault). MatchResult c.subtrees_of.result
    (λ subtrees. read ≡ Ok (map (λ subtree. subtree.now) subtrees.items)) (λ fault. fault ≢ NoMemory → read ≡ Err fault))
    (sym (long_read subtree_line_read longest_lines c.args.text.now c.if-text-gt-LONGEST_LINES.true)) c.subtrees_of.ensures.subtrees

pub returns-else-text-gt-LONGEST_LINES-clause-subtrees : goal.returns-else-text-gt-LONGEST_LINES-clause-subtrees
returns-else-text-gt-LONGEST_LINES-clause-subtrees c =
    subst (λ (read : Result (List (List ℕ)) CliFault). MatchResult c.subtrees_of-else-text-gt-LONGEST_LINES.result
    (λ subtrees. read ≡ Ok (map (λ subtree. subtree.now) subtrees.items)) (λ fault. fault ≢ NoMemory → read ≡ Err fault))
    (sym (short_read subtree_line_read longest_lines c.args.text.now c.if-text-gt-LONGEST_LINES.false))
    c.subtrees_of-else-text-gt-LONGEST_LINES.ensures.subtrees
