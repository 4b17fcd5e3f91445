-- An act of a user to whom a subtree is closed leaves what is guarded as it was.
use Rattle.std.proofs.Common.{◌≡◌, ℕ, suc, ◌-◌, ◌<◌, ◌≤◌, true, false, cond, ◌&&◌, not, length, take, refl, sym, ap, ◌∙◌, subst, true≢false, Option, Some, None, option_map, arith, take_all, ⊎_elim}
use Rattle.std.specs.List.{list_any}
use Rattle.std.proofs.lemmas.Bool.{and_parts, or_right, not-true, false_from_ne_true, cases_lt}
use Rattle.cg_cgroup.specs.Paths.{Names, same_path, is_child, parent}
use Rattle.cg_cgroup.specs.Identity.{Identity}
use Rattle.cg_cgroup.specs.Users.{owns, writes, reaches}
use Rattle.cg_cgroup.proofs.PathOrder.{same_path-is}
use Rattle.cg_cgroup.proofs.PathParents.{parent-is_child}
use Rattle.machine.specs.Machines.{File, Dir, Procs, Control, Limit, Inode, Value, Machine, has, entry_is, Act, Move, Mkdir, Rmdir, Write, Chmod, Enable, Fork, Exit, lets, furnished, placed, done, IsPresent, IsClosed}
use Rattle.machine.proofs.Lists.{any-found, has-filter, child-taken}
use Rattle.machine.proofs.Acts.{unwritten, unowned, reopened-other, furnished-other, there-other}

-- ---- the cgroups above a subtree, whoever acts

module _ (machine : Machine) (user : Identity) (subtree : Names) (present : IsPresent machine subtree) where
  -- what is removed has no child, and each cgroup above the subtree has one
  rmdir-above : (path : Names) → lets machine user (Rmdir path) ≡ true → (len : ℕ) → len < length subtree
      → same_path path (take len subtree) ≡ false
  rmdir-above path free len shorter =
      let there : has machine (take (suc len) subtree) ≡ true = present (suc len) (omega arith) in
      let childless : list_any (is_child path) machine.paths ≡ false =
      not-true (list_any (is_child path) machine.paths) (and_parts _ _ free).1 in
      false_from_ne_true (same_path path (take len subtree)) (λ same.
      let child : is_child path (take (suc len) subtree) ≡ true =
      ap (λ (top : Names). is_child top (take (suc len) subtree)) (same_path-is path (take len subtree) same)
      ∙ child-taken len subtree shorter in
      true≢false (sym (any-found (is_child path) (take (suc len) subtree) machine.paths there child) ∙ childless))

  mkdir-other : (path : Names) (made : File → Option Inode) → lets machine user (Mkdir path made) ≡ true
      → (len : ℕ) → len ≤ length subtree → same_path path (take len subtree) ≡ false
  mkdir-other path made free len shorter =
      there-other machine path (take len subtree) (not-true (has machine path) (and_parts (not (has machine path)) _ free).0)
      (present len shorter)

  -- where an act leaves the subtree there
  pub present-done : (act : Act) → lets machine user act ≡ true → has (done machine act) subtree ≡ true
      → IsPresent (done machine act) subtree
  present-done (Move pid to) free there = present
  present-done (Mkdir path made) free there = λ len shorter.
      or_right (same_path (take len subtree) path) (has machine (take len subtree)) (present len shorter)
  present-done (Rmdir path) free there = λ len shorter.
      ⊎_elim
      (λ above.
      has-filter path (take len subtree) machine.paths ∙ ap (λ b. not b && has machine (take len subtree)) (rmdir-above path free len above)
      ∙ present len shorter)
      (λ whole. ap (has (done machine (Rmdir path))) (take_all len subtree whole) ∙ there)
      (cases_lt len (length subtree))
  present-done (Write path limit values) free there = present
  present-done (Chmod path file gid mode) free there = present
  present-done (Enable path made) free there = present
  present-done (Fork pid child) free there = present
  present-done (Exit pid) free there = present

-- ---- what is guarded

-- It is there as it was.
pub record Untouched (machine new : Machine) (subtree : Names) : Type 0 where
  pub present : IsPresent new subtree
  pub above : (len : ℕ) → len < length subtree → new.inode (take len subtree) Procs ≡ machine.inode (take len subtree) Procs
  pub limits : (limit : ℕ) → new.inode subtree (Limit limit) ≡ machine.inode subtree (Limit limit)
  pub control : new.inode (parent subtree) Control ≡ machine.inode (parent subtree) Control
  pub dir : new.inode (parent subtree) Dir ≡ machine.inode (parent subtree) Dir

-- by an act that places a process
untouched-placed : (machine : Machine) (subtree : Names) (cgroup : ℕ → Option Names) → IsPresent machine subtree
    → Untouched machine (record machine { cgroup = cgroup }) subtree
untouched-placed machine subtree cgroup present = record {
  present = present;
  above = λ len shorter. refl;
  limits = λ limit. refl;
  control = refl;
  dir = refl;
}

module _ (machine : Machine) (user : Identity) (subtree : Names) (present : IsPresent machine subtree)
    (closed : IsClosed machine user subtree) where
  whole : take (length subtree) subtree ≡ subtree
  whole = take_all (length subtree) subtree (omega arith)

  -- where only a cgroup is made or removed that is none of these
  untouched-furnished : (path : Names) (made : File → Option Inode) (new : Machine)
      → ((len : ℕ) → len ≤ length subtree → same_path path (take len subtree) ≡ false)
      → new.inode ≡ furnished path made machine.inode → IsPresent new subtree → Untouched machine new subtree
  untouched-furnished path made new apart is there =
      let other = λ (len : ℕ) (within : len ≤ length subtree) (file : File).
      ap (λ (inode : Names → File → Option Inode). inode (take len subtree) file) is
      ∙ furnished-other path made machine.inode (take len subtree) file (apart len within) in
      record {
        present = there;
        above = λ len shorter. other len (omega arith) Procs;
        limits = λ limit.
            subst (λ (at : Names). new.inode at (Limit limit) ≡ machine.inode at (Limit limit)) whole
            (other (length subtree) (omega arith) (Limit limit));
        control = other (length subtree - 1) (omega arith) Control;
        dir = other (length subtree - 1) (omega arith) Dir;
      }

  untouched-mkdir : (path : Names) (made : File → Option Inode) → lets machine user (Mkdir path made) ≡ true
      → Untouched machine (done machine (Mkdir path made)) subtree
  untouched-mkdir path made free =
      untouched-furnished path made (done machine (Mkdir path made)) (mkdir-other machine user subtree present path made free) refl
      (λ len shorter. or_right (same_path (take len subtree) path) (has machine (take len subtree)) (present len shorter))

  -- what is removed isn't the subtree, whose parent's directory the user doesn't write
  rmdir-other : (path : Names) → lets machine user (Rmdir path) ≡ true → (len : ℕ) → len ≤ length subtree
      → same_path path (take len subtree) ≡ false
  rmdir-other path free len within =
      ⊎_elim (λ above. rmdir-above machine user subtree present path free len above)
      (λ all. false_from_ne_true (same_path path (take len subtree)) (λ same.
      let is : path ≡ subtree = same_path-is path (take len subtree) same ∙ take_all len subtree all in
      unwritten machine user (parent subtree) Dir closed.dir
      (ap (λ (p : Names). entry_is machine (parent p) Dir (writes user)) (sym is) ∙ (and_parts _ _ free).0)))
      (cases_lt len (length subtree))

  untouched-rmdir : (path : Names) → lets machine user (Rmdir path) ≡ true → Untouched machine (done machine (Rmdir path)) subtree
  untouched-rmdir path free =
      untouched-furnished path (λ file. None) (done machine (Rmdir path)) (rmdir-other path free) refl
      (λ len within. has-filter path (take len subtree) machine.paths
      ∙ ap (λ b. not b && has machine (take len subtree)) (rmdir-other path free len within) ∙ present len within)

  untouched-write : (path : Names) (limit : ℕ) (values : ℕ → Value) → lets machine user (Write path limit values) ≡ true
      → Untouched machine (done machine (Write path limit values)) subtree
  untouched-write path limit values free =
      let other : same_path path subtree ≡ false =
      false_from_ne_true (same_path path subtree) (λ same.
      unwritten machine user subtree (Limit limit) (closed.limits limit)
      (ap (λ (at : Names). entry_is machine at (Limit limit) (writes user)) (sym (same_path-is path subtree same)) ∙ free)) in
      record {
        present = present;
        above = λ len shorter. refl;
        limits = λ guarded.
            let had = machine.inode subtree (Limit guarded) in
            ap (λ b. cond b (option_map (λ (inode : Inode). record inode { value = values guarded }) had) had) other;
        control = refl;
        dir = refl;
      }

  untouched-chmod : (path : Names) (file : File) (gid mode : ℕ) → lets machine user (Chmod path file gid mode) ≡ true
      → Untouched machine (done machine (Chmod path file gid mode)) subtree
  untouched-chmod path file gid mode free =
      let other = λ (at : Names) (guarded : File) (shut : entry_is machine at guarded (reaches user) ≡ false).
      reopened-other path file gid mode machine.inode at guarded (λ same is.
      unowned machine user at guarded shut ((λ i. entry_is machine (sym same i) (sym is i) (owns user)) ∙ free)) in
      record {
        present = present;
        above = λ len shorter. other (take len subtree) Procs (closed.above len shorter);
        limits = λ limit. other subtree (Limit limit) (closed.limits limit);
        control = other (parent subtree) Control closed.control;
        dir = other (parent subtree) Dir closed.dir;
      }

  untouched-enable : (path : Names) (made : Names → ℕ → Option Inode) → lets machine user (Enable path made) ≡ true
      → Untouched machine (done machine (Enable path made)) subtree
  untouched-enable path made free =
      let other : is_child path subtree ≡ false =
      false_from_ne_true (is_child path subtree) (λ child.
      unwritten machine user (parent subtree) Control closed.control
      (ap (λ (at : Names). entry_is machine at Control (writes user)) (parent-is_child path subtree child) ∙ free)) in
      record {
        present = present;
        above = λ len shorter. refl;
        limits = λ limit. ap (λ b. cond b (made subtree limit) (machine.inode subtree (Limit limit))) other;
        control = refl;
        dir = refl;
      }

  -- only an act that names files changes any
  pub untouched-done : (act : Act) → lets machine user act ≡ true → Untouched machine (done machine act) subtree
  untouched-done (Move pid to) free = untouched-placed machine subtree (placed pid (Some to) machine.cgroup) present
  untouched-done (Mkdir path made) free = untouched-mkdir path made free
  untouched-done (Rmdir path) free = untouched-rmdir path free
  untouched-done (Write path limit values) free = untouched-write path limit values free
  untouched-done (Chmod path file gid mode) free = untouched-chmod path file gid mode free
  untouched-done (Enable path made) free = untouched-enable path made free
  untouched-done (Fork pid child) free = untouched-placed machine subtree (placed child (machine.cgroup pid) machine.cgroup) present
  untouched-done (Exit pid) free = untouched-placed machine subtree (placed pid None machine.cgroup) present
