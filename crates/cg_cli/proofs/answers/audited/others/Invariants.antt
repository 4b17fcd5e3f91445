use Rattle.std.proofs.Common.{◌≡◌, not, take}
use Rattle.cg_cli.specs.Audited.{has_list}
use Rattle.cg_cli.specs.FurtherPairs.{picked}
use Rattle.cg_cli.specs.FoundPlaces.{found_at}
use Rattle.cg_cli.proofs.answers.audited.others.Given as goal

-- those of the users before this place
abbrev pub invariant-loop-place : goal.invariant-loop-place
invariant-loop-place l =
    l.others.items ≡ picked (λ place. not (has_list (found_at l.found place))) 0 (take l.place-counter l.users)
