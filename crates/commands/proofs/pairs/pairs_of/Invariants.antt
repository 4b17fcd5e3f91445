-- What has been read, and what the rest gives, are what the whole gives. The rest gets shorter.
use Rattle.std.proofs.Common.{◌≡◌, ◌+◌, ◌≤◌, length, map, Ok}
use Rattle.std.specs.List.{slice_split}
use Rattle.arguments.specs.Given.{ids_of_pair}
use Rattle.cg_cli.specs.Replays.{is_newline}
use Rattle.commands.specs.Lines.{followed_by, pieces_read}
use Rattle.commands.specs.PairLines.{line_read}
use Rattle.commands.proofs.pairs.pairs_of.Given as goal

abbrev pub invariant-loop-line : goal.invariant-loop-line
invariant-loop-line l = record {
  read :
      followed_by (Ok (map ids_of_pair l.pairs.items)) (pieces_read line_read l.is_long l.done (slice_split is_newline l.rest))
      ≡ pieces_read line_read l.is_long 0 (slice_split is_newline l.front);
  few : l.done + length l.rest ≤ length l.front;
}

abbrev pub decreases-loop-line : goal.decreases-loop-line
decreases-loop-line l = length l.rest
