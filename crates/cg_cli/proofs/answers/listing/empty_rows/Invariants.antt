use Rattle.std.proofs.Common.{◌≡◌, [], length, List}
use Rattle.std.specs.List.{All}
use Rattle.cg_cli.specs.declared.answers.audited.Found.{Found}
use Rattle.cg_cli.proofs.answers.listing.empty_rows.Given as goal

abbrev pub invariant-loop-user : goal.invariant-loop-user
invariant-loop-user l = record {
  count : length l.rows.items ≡ l._user;
  empty : All (λ (row : List Found). row ≡ []) l.rows.items;
}
