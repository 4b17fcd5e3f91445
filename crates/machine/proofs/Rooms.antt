-- A subtree that is within its own limits is within them after an act that leaves these.
use Rattle.std.proofs.Common.{◌≡◌, ℕ, zero, suc, ◌+◌, ◌-◌, ◌<◌, ◌≤◌, Bool, true, false, cond, ◌&&◌, ◌||◌, not, length, take, nat_lt, refl, sym, ap, ◌∙◌, subst, Option, Some, arith, leb-true, ltb-true, ⊎_elim}
use Rattle.std.proofs.lemmas.Bool.{and_parts, cases_lt}
use Rattle.cg_cgroup.specs.Paths.{Names, same_path, inside, below}
use Rattle.cg_cgroup.specs.Identity.{Identity}
use Rattle.cg_cgroup.proofs.PathOrder.{same_path-is}
use Rattle.cg_cgroup.proofs.PathParents.{inside-is}
use Rattle.machine.specs.Machines.{File, Inode, Value, Number, Machine, has, value_of, descendants, Act, Move, Mkdir, Rmdir, Write, Chmod, Enable, Fork, Exit, leaves_room, has_room_above, lets, done, Fits}
use Rattle.machine.proofs.Lists.{count-cons, count-filter, has-filter}

-- ---- no more cgroups than before

fits-fewer : (machine new : Machine) (subtree : Names) → ((limit : ℕ) → value_of new subtree limit ≡ value_of machine subtree limit)
    → descendants new subtree ≤ descendants machine subtree → ((other : Names) → has new other ≡ true → has machine other ≡ true)
    → Fits machine subtree → Fits new subtree
fits-fewer machine new subtree values fewer none fits = record {
  descendants = λ most is. let within = fits.descendants most (sym (values 0) ∙ is) in omega (arith, within, fewer);
  levels = λ most is other there within. fits.levels most (sym (values 1) ∙ is) other (none other there) within;
}

-- ---- a mkdir

-- each cgroup above what is made was asked
room-asked : (machine : Machine) (path : Names) (n : ℕ) → has_room_above machine path n ≡ true → (len : ℕ) → len < n
    → (leaves_room (value_of machine (take len path) 0) (1 + descendants machine (take len path)) ≡ true)
    × (leaves_room (value_of machine (take len path) 1) (length path - len) ≡ true)
room-asked machine path zero free len less = absurd (omega arith)
room-asked machine path (suc n) free len less =
    let descend = leaves_room (value_of machine (take n path) 0) (1 + descendants machine (take n path)) in
    let level = leaves_room (value_of machine (take n path) 1) (length path - n) in
    let parts = and_parts (descend && level) (has_room_above machine path n) free in
    let here = and_parts descend level parts.0 in
    ⊎_elim (λ lower. room-asked machine path n parts.1 len lower)
    (λ last.
    let same : n ≡ len = omega arith in
    subst (λ (k : ℕ). (leaves_room (value_of machine (take k path) 0) (1 + descendants machine (take k path)) ≡ true)
    × (leaves_room (value_of machine (take k path) 1) (length path - k) ≡ true)) same here)
    (cases_lt len n)

module _ (machine : Machine) (user : Identity) (subtree path : Names) (made : File → Option Inode)
    (free : lets machine user (Mkdir path made) ≡ true) where
  -- the subtree's own limits leave room for what is made below it
  room : inside subtree path ≡ true → length subtree < length path
      → (leaves_room (value_of machine subtree 0) (1 + descendants machine subtree) ≡ true)
      × (leaves_room (value_of machine subtree 1) (length path - length subtree) ≡ true)
  room within longer =
      let asked = room-asked machine path (length path)
      (and_parts (not (has machine path)) (has_room_above machine path (length path)) free).1 (length subtree) longer in
      let at = inside-is subtree path within in
      subst (λ (top : Names). (leaves_room (value_of machine top 0) (1 + descendants machine top) ≡ true)
      × (leaves_room (value_of machine top 1) (length path - length subtree) ≡ true)) at asked

  room-most : (value : Option Value) (count most : ℕ) → value ≡ Some (Number most) → leaves_room value count ≡ true → count ≤ most
  room-most value count most is leaves = leb-true count most (ap (λ v. leaves_room v count) (sym is) ∙ leaves)

  fits-mkdir : ((limit : ℕ) → value_of (done machine (Mkdir path made)) subtree limit ≡ value_of machine subtree limit)
      → Fits machine subtree → Fits (done machine (Mkdir path made)) subtree
  fits-mkdir values fits = record {
    descendants = λ most is.
        let had = sym (values 0) ∙ is in
        let before = fits.descendants most had in
        let count = count-cons (below subtree) path machine.paths in
        subst (λ (n : ℕ). n ≤ most) (sym count)
        (elim (below subtree path) as (λ b. below subtree path ≡ b
        → cond b (1 + descendants machine subtree) (descendants machine subtree) ≤ most) [
          | true ↦ λ lower.
              let parts = and_parts (inside subtree path) (nat_lt (length subtree) (length path)) lower in
              room-most (value_of machine subtree 0) (1 + descendants machine subtree) most had
              (room parts.0 (ltb-true (length subtree) (length path) parts.1)).0
          | false ↦ λ _. before
        ] refl);
    levels = λ most is other there within.
        let had = sym (values 1) ∙ is in
        elim (same_path other path) as (λ b. same_path other path ≡ b → (b || has machine other) ≡ true
        → length other ≤ length subtree + most) [
          | true ↦ λ same _.
              let new : other ≡ path = same_path-is other path same in
              ⊎_elim
              (λ longer.
              let level = room-most (value_of machine subtree 1) (length path - length subtree) most had
              (room (ap (inside subtree) (sym new) ∙ within) longer).1 in
              let long : length other ≡ length path = ap length new in
              omega (arith, level, long))
              (λ short. let long : length other ≡ length path = ap length new in omega (arith, short, long))
              (cases_lt (length subtree) (length path))
          | false ↦ λ _ old. fits.levels most had other old within
        ] refl there;
  }

-- ---- each act

both-second : (a b : Bool) → (a && b) ≡ true → b ≡ true
both-second a b both = (and_parts a b both).1

pub fits-done : (machine : Machine) (user : Identity) (subtree : Names) (act : Act) → lets machine user act ≡ true
    → ((limit : ℕ) → value_of (done machine act) subtree limit ≡ value_of machine subtree limit)
    → Fits machine subtree → Fits (done machine act) subtree
fits-done machine user subtree (Mkdir path made) free values fits = fits-mkdir machine user subtree path made free values fits
fits-done machine user subtree (Rmdir path) free values fits =
    fits-fewer machine (done machine (Rmdir path)) subtree values
    (count-filter (below subtree) (λ other. not (same_path path other)) machine.paths)
    (λ other there. both-second (not (same_path path other)) (has machine other) (sym (has-filter path other machine.paths) ∙ there)) fits
fits-done machine user subtree (Move pid to) free values fits =
    fits-fewer machine (done machine (Move pid to)) subtree values (omega arith) (λ other there. there) fits
fits-done machine user subtree (Write path limit written) free values fits =
    fits-fewer machine (done machine (Write path limit written)) subtree values (omega arith) (λ other there. there) fits
fits-done machine user subtree (Chmod path file gid mode) free values fits =
    fits-fewer machine (done machine (Chmod path file gid mode)) subtree values (omega arith) (λ other there. there) fits
fits-done machine user subtree (Enable path made) free values fits =
    fits-fewer machine (done machine (Enable path made)) subtree values (omega arith) (λ other there. there) fits
fits-done machine user subtree (Fork pid child) free values fits =
    fits-fewer machine (done machine (Fork pid child)) subtree values (omega arith) (λ other there. there) fits
fits-done machine user subtree (Exit pid) free values fits =
    fits-fewer machine (done machine (Exit pid)) subtree values (omega arith) (λ other there. there) fits
