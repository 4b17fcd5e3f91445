use Rattle.std.proofs.Common.{◌≡◌, ◌+◌, drop, Some}
use Rattle.std.specs.List.{prefix_len}
use Rattle.cg_guards.specs.GuardedUsers.{is_spared}
use Rattle.cg_guards.proofs.users.off_entry.Given as goal

-- those before this place don't reach it
abbrev pub invariant-loop-place : goal.invariant-loop-place
invariant-loop-place l =
    prefix_len (is_spared (Some l.entry)) l.users ≡ l.place + prefix_len (is_spared (Some l.entry)) (drop l.place l.users)
