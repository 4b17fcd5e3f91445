use Rattle.std.proofs.Common.{◌≡◌, true, take}
use Rattle.std.specs.List.{list_all}
use Rattle.cg_second.specs.Exposed.{is_shut_or_apart}
use Rattle.cg_second.specs.Room.{IsRoom}
use Rattle.cg_second.proofs.closed.is_closed.Given as goal

-- all that were passed are shut or apart
abbrev pub invariant-loop-at : goal.invariant-loop-at
invariant-loop-at g l = record {
  shut : list_all (is_shut_or_apart (g.H.Hierarchy.state l.survey.tree.now) l.survey.users.now l.subtree) (take l.at l.survey.paths.items)
      ≡ true;
  room : IsRoom (g.H.Hierarchy.state l.survey.tree.now) l.survey.users.now l.survey.paths.items l.at l.room.crowded_until
      l.room.levels.items;
}
