-- How an answer is found: nobody has to believe it.
-- The limit files beyond `LimitFile` of a cgroup of which nothing is told, all that a controller brings at once.
use Rattle.std.specs.Prelude.{Bool, true, not, ◌&&◌, List, Option, Some, None, is_none}
use Rattle.std.specs.List.{list_any, list_all}
use Rattle.std.specs.FinMap as finite
use Rattle.cg_cgroup.specs.Paths.{Names}
use Rattle.cg_cgroup.specs.Identity.{Identity}
use Rattle.cg_cgroup.specs.Users.{reaches}
use Rattle.cg_cgroup.specs.declared.user.Entry.{Entry}
use Rattle.cg_cgroup.specs.declared.cgroup.Cgroup.{Cgroup}
use Rattle.cg_model.specs.States.{State, row_at}

-- none of the users reaches an entry, where it is there
abbrev pub spares_entry : List Identity → Option Entry → Bool
spares_entry users None = true
spares_entry users (Some entry) = not (list_any (λ user. reaches user entry) users)

-- none of them reaches one of those files of a cgroup of which nothing is told
abbrev pub spares_others : List Identity → Cgroup → Bool
spares_others users row = spares_entry users row.freeze && list_all (spares_entry users) row.others.entries

-- nothing is told of those of a cgroup, and none of the users reaches one
abbrev pub spares_untold : State → List Identity → Names → Bool
spares_untold st users path =
    is_none (finite.get st.told path) && elim (row_at st path) [ None ↦ true | Some row ↦ spares_others users row ]
