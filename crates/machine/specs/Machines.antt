-- The premises. Each process runs whole in one cgroup, with all its threads. Nobody holds an entry open from before: who may not
-- write one now doesn't write it. Users aren't root and have no capabilities. Nothing changes but by the acts below, one after
-- another. No write turns a limit file of another cgroup, so what `cpuset.cpus.partition` shows is none here. No such machine has
-- `cgroup.type`, by which a threaded cgroup loses limit files, nor kernel threads, which nobody moves.
--
-- What stands here is the page of what a yes says of states, in the order in which one reads it: a subtree is contained, over a
-- machine that refuses as little as that takes. A section that is named is one of the kernel's
-- Documentation/admin-guide/cgroup-v2.rst; all else is own.
use Rattle.std.specs.Prelude.{◌≡◌, ℕ, zero, suc, ◌+◌, ◌-◌, ◌<◌, ◌≤◌, Bool, true, false, ◌&&◌, not, nat_eq, nat_le, cond, List, [], ◌∷◌, length, take, filter, count_by, Option, Some, None, is_none}
use Rattle.std.specs.List.{list_any}
use Rattle.std.specs.Option.{option_map}
use Rattle.cg_cgroup.specs.Paths.{Names, same_path, inside, below, is_child, parent, common}
use Rattle.cg_cgroup.specs.Identity.{Identity}
use Rattle.cg_cgroup.specs.Users.{owns, writes, reaches}
use Rattle.cg_cgroup.specs.declared.user.Entry.{Entry}

-- ---- a machine

-- What stands in a cgroup: its directory, cgroup.procs, cgroup.subtree_control, and limit files by whatever numbers, of which
-- 0 is cgroup.max.descendants and 1 is cgroup.max.depth.
pub data File : Type 0 where
  Dir : File
  Procs : File
  Control : File
  Limit : ℕ → File

-- What a limit file holds. Unknown: nobody has told.
pub data Value : Type 0 where
  Unknown : Value
  NoLimit : Value
  Number : ℕ → Value
  Text : List ℕ → Value

-- Whose a file is and with which mode, and what it holds. The value of what is no limit file says nothing.
pub record Inode : Type 0 where
  pub entry : Entry
  pub value : Value

-- The cgroups that are there, each once; which files each has; and the cgroup of each live process, by its PID.
pub record Machine : Type 0 where
  pub paths : List Names
  pub inode : Names → File → Option Inode
  pub cgroup : ℕ → Option Names

abbrev pub has : Machine → Names → Bool
has machine path = list_any (same_path path) machine.paths

abbrev pub value_of : Machine → Names → ℕ → Option Value
value_of machine path limit = option_map (λ inode. inode.value) (machine.inode path (Limit limit))

abbrev pub descendants : Machine → Names → ℕ
descendants machine path = count_by (below path) machine.paths

-- Whether a file is there, and its entry passes a test.
abbrev pub entry_is : Machine → Names → File → (Entry → Bool) → Bool
entry_is machine path file test = elim (machine.inode path file) [ None ↦ false | Some inode ↦ test inode.entry ]

-- ---- what a user can do: no more is let through by any kernel

pub data Act : Type 0 where
  Move : ℕ → Names → Act
  -- with whatever stands in what is made
  Mkdir : Names → (File → Option Inode) → Act
  Rmdir : Names → Act
  -- by which all limit files of that cgroup may have other values then, as cpu.weight and cpu.weight.nice do
  Write : Names → ℕ → (ℕ → Value) → Act
  -- to a group and a mode
  Chmod : Names → File → ℕ → ℕ → Act
  -- with whatever limit files the children have then
  Enable : Names → (Names → ℕ → Option Inode) → Act
  -- of a process into a PID; a clone into another cgroup is this and a move
  Fork : ℕ → ℕ → Act
  Exit : ℕ → Act

-- Whether a limit leaves room for so many. What isn't a number does, since then there is no limit, or none that is known.
abbrev pub leaves_room : Option Value → ℕ → Bool
leaves_room (Some (Number most)) count = nat_le count most
leaves_room value count = true

-- Whether the first cgroups on the way to a path, so many, leave room for it: for one more descendant, so many levels down.
abbrev pub has_room_above : Machine → Names → ℕ → Bool
has_room_above machine path zero = true
has_room_above machine path (suc len) =
    leaves_room (value_of machine (take len path) 0) (1 + descendants machine (take len path))
    && leaves_room (value_of machine (take len path) 1) (length path - len)
    && has_room_above machine path len

-- All that a kernel has to refuse, in nine parts.
abbrev pub lets : Machine → Identity → Act → Bool
-- 1. A move where they can't write cgroup.procs of the common ancestor of source and destination: Delegation Containment. What
-- isn't alive isn't moved.
lets machine user (Move pid to) =
    elim (machine.cgroup pid) [ None ↦ false | Some from ↦ entry_is machine (common from to) Procs (writes user) ]
-- 2. A mkdir where something is: own. 3. A mkdir where a limit above leaves no room: Core Interface Files, where cgroup.max.descendants
-- and cgroup.max.depth are.
lets machine user (Mkdir path made) = not (has machine path) && has_room_above machine path (length path)
-- 4. A rmdir where they can't write the parent's directory: own. 5. A rmdir of what has a child: Organizing Processes and Threads.
lets machine user (Rmdir path) = entry_is machine (parent path) Dir (writes user) && not (list_any (is_child path) machine.paths)
-- 6. A write to a limit file that they can't write: Model of Delegation.
lets machine user (Write path limit values) = entry_is machine path (Limit limit) (writes user)
-- 7. A change of mode or group of what they don't own: own.
lets machine user (Chmod path file gid mode) = entry_is machine path file (owns user)
-- 8. An enabling where they can't write cgroup.subtree_control: Enabling and Disabling, Model of Delegation.
lets machine user (Enable path made) = entry_is machine path Control (writes user)
-- 9. A fork into a PID that lives: own.
lets machine user (Fork parent child) = is_none (machine.cgroup child)
lets machine user (Exit pid) = true

abbrev pub is_this_file : File → File → Bool
is_this_file Dir Dir = true
is_this_file Procs Procs = true
is_this_file Control Control = true
is_this_file (Limit limit) (Limit other) = nat_eq limit other
is_this_file file other = false

-- A file with another group and mode, where it is there.
abbrev pub reopened : Names → File → ℕ → ℕ → (Names → File → Option Inode) → Names → File → Option Inode
reopened path file gid mode had at other =
    cond (same_path path at && is_this_file file other)
    (option_map (λ (inode : Inode). record inode { entry = record inode.entry { gid = gid; mode = mode } }) (had at other)) (had at other)

-- The limit files of a cgroup that are there with other values.
abbrev pub rewritten : Names → (ℕ → Value) → (Names → File → Option Inode) → Names → File → Option Inode
rewritten path values had at (Limit limit) =
    cond (same_path path at) (option_map (λ (inode : Inode). record inode { value = values limit }) (had at (Limit limit)))
    (had at (Limit limit))
rewritten path values had at file = had at file

-- All files of a cgroup as new ones.
abbrev pub furnished : Names → (File → Option Inode) → (Names → File → Option Inode) → Names → File → Option Inode
furnished path made had at file = cond (same_path path at) (made file) (had at file)

-- The limit files of a cgroup's children as new ones: Enabling and Disabling.
abbrev pub equipped : Names → (Names → ℕ → Option Inode) → (Names → File → Option Inode) → Names → File → Option Inode
equipped path made had at (Limit limit) = cond (is_child path at) (made at limit) (had at (Limit limit))
equipped path made had at file = had at file

abbrev pub placed : ℕ → Option Names → (ℕ → Option Names) → ℕ → Option Names
placed pid place had other = cond (nat_eq pid other) place (had other)

-- What is, once an act is let through.
abbrev pub done : Machine → Act → Machine
done machine (Move pid to) = record machine { cgroup = placed pid (Some to) machine.cgroup }
done machine (Mkdir path made) =
    record machine { paths = path ∷ machine.paths; inode = furnished path made machine.inode }
done machine (Rmdir path) = record machine {
  paths = filter (λ other. not (same_path path other)) machine.paths;
  inode = furnished path (λ file. None) machine.inode;
}
done machine (Write path limit values) = record machine { inode = rewritten path values machine.inode }
done machine (Chmod path file gid mode) = record machine { inode = reopened path file gid mode machine.inode }
done machine (Enable path made) = record machine { inode = equipped path made machine.inode }
done machine (Fork parent child) = record machine { cgroup = placed child (machine.cgroup parent) machine.cgroup }
done machine (Exit pid) = record machine { cgroup = placed pid None machine.cgroup }

-- What a user's act leaves, let through or refused.
abbrev pub step : Machine → Identity → Act → Machine
step machine user act = cond (lets machine user act) (done machine act) machine

abbrev pub run : Machine → Identity → List Act → Machine
run machine user [] = machine
run machine user (act ∷ acts) = run (step machine user act) user acts

-- ---- what is held

-- A cgroup has no more descendants, and no more levels of them, than it says: Core Interface Files.
pub record Fits (machine : Machine) (path : Names) : Type 0 where
  pub descendants : (most : ℕ) → value_of machine path 0 ≡ Some (Number most) → descendants machine path ≤ most
  pub levels : (most : ℕ) → value_of machine path 1 ≡ Some (Number most)
      → (other : Names) → has machine other ≡ true → inside path other ≡ true → length other ≤ length path + most

-- A subtree is there, with the limits of the start, and within them.
pub record Stands (start now : Machine) (subtree : Names) : Type 0 where
  pub there : has now subtree ≡ true
  pub limits : (limit : ℕ) → value_of now subtree limit ≡ value_of start subtree limit
  pub fits : Fits now subtree

-- No process gets into a subtree or out of it: Delegation Containment.
abbrev pub EdgeHolds : Machine → Machine → Names → Type 0
EdgeHolds before later subtree =
    (pid : ℕ) (from to : Names) → before.cgroup pid ≡ Some from → later.cgroup pid ≡ Some to → inside subtree from ≡ inside subtree to

-- Whatever acts a user makes, one after another, the subtree stands then, and no process crosses its edge by the next.
abbrev pub IsContainedAgainst : Machine → Identity → Names → Type 0
IsContainedAgainst machine user subtree = (acts : List Act) (act : Act)
    → Stands machine (run machine user acts) subtree
    × EdgeHolds (run machine user acts) (step (run machine user acts) user act) subtree

-- ---- what is looked at

-- A subtree and each cgroup above it are there.
abbrev pub IsPresent : Machine → Names → Type 0
IsPresent machine subtree = (len : ℕ) → len ≤ length subtree → has machine (take len subtree) ≡ true

-- What is guarded is out of a user's reach: they neither write nor own it, and whoever owns it may set its mode.
pub record IsClosed (machine : Machine) (user : Identity) (subtree : Names) : Type 0 where
  pub above : (len : ℕ) → len < length subtree → entry_is machine (take len subtree) Procs (reaches user) ≡ false
  pub limits : (limit : ℕ) → entry_is machine subtree (Limit limit) (reaches user) ≡ false
  pub control : entry_is machine (parent subtree) Control (reaches user) ≡ false
  pub dir : entry_is machine (parent subtree) Dir (reaches user) ≡ false

pub record IsGuarded (machine : Machine) (user : Identity) (subtree : Names) : Type 0 where
  pub closed : IsClosed machine user subtree
  pub fits : Fits machine subtree
