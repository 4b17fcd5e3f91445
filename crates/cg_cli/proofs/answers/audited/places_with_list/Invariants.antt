use Rattle.std.proofs.Common.{◌≡◌, ℕ, take}
use Rattle.std.specs.Ordering.{nat_cmp}
use Rattle.std.specs.BTreeSet.{contains}
use Rattle.cg_cli.specs.FoundPlaces.{is_listed_at}
use Rattle.cg_cli.proofs.answers.audited.places_with_list.Given as goal

abbrev pub invariant-loop-each : goal.invariant-loop-each
invariant-loop-each l = (place : ℕ) → contains nat_cmp l.places place ≡ is_listed_at (take l.each-index l.found) place
