use Rattle.std.proofs.Common.{◌≡◌, ◌++◌, take}
use Rattle.std.specs.List.{flat_map}
use Rattle.cg_second.specs.Room.{IsRoom}
use Rattle.cg_explain.specs.SecondRow.{place_asked}
use Rattle.cg_explain.proofs.second.push_places.Given as goal

-- what was passed is told
abbrev pub invariant-loop-at : goal.invariant-loop-at
invariant-loop-at g l = record {
  told : l.row.items
      ≡ l.fn.row.items
      ++ flat_map (place_asked (g.H.Hierarchy.state l.survey.tree.now) l.survey.users.now l.subtree) (take l.at l.survey.paths.items);
  room : IsRoom (g.H.Hierarchy.state l.survey.tree.now) l.survey.users.now l.survey.paths.items l.at l.room.crowded_until
      l.room.levels.items;
}
