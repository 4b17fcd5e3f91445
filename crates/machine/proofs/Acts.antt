-- What an act asks, and what it leaves of a file.
use Rattle.std.proofs.Common.{◌≡◌, ℕ, Bool, true, false, cond, ◌&&◌, refl, sym, ap, ◌∙◌, true≢false, Option, Some, None, option_map, eqb-true}
use Rattle.std.proofs.lemmas.Bool.{and_parts, or_left, or_right, false_from_ne_true}
use Rattle.cg_cgroup.specs.Paths.{Names, same_path}
use Rattle.cg_cgroup.specs.Identity.{Identity}
use Rattle.cg_cgroup.specs.Users.{owns, writes, reaches}
use Rattle.cg_cgroup.specs.declared.user.Entry.{Entry}
use Rattle.cg_cgroup.proofs.PathOrder.{same_path-is}
use Rattle.machine.specs.Machines.{File, Dir, Procs, Control, Limit, Inode, Machine, has, entry_is, Act, lets, is_this_file, reopened, furnished, done, step}

-- ---- an act that is let through, or not

pub step-by : (P : Machine → Type 0) (machine : Machine) (user : Identity) (act : Act)
    → (lets machine user act ≡ true → P (done machine act)) → P machine → P (step machine user act)
step-by P machine user act moved stayed =
    elim (lets machine user act) as (λ b. lets machine user act ≡ b → P (cond b (done machine act) machine)) [
      | true ↦ moved
      | false ↦ λ _. stayed
    ] refl

-- ---- entries that a user reaches

test-weaker : (found : Option Inode) (test other : Entry → Bool) → ((entry : Entry) → test entry ≡ true → other entry ≡ true)
    → elim found [ None ↦ false | Some inode ↦ test inode.entry ] ≡ true
    → elim found [ None ↦ false | Some inode ↦ other inode.entry ] ≡ true
test-weaker None test other weaker h = h
test-weaker (Some inode) test other weaker h = weaker inode.entry h

module _ {P : Type 0} (machine : Machine) (user : Identity) (path : Names) (file : File)
    (closed : entry_is machine path file (reaches user) ≡ false) where
  pub unwritten : entry_is machine path file (writes user) ≡ true → P
  unwritten can =
      absurd (true≢false (sym (test-weaker (machine.inode path file) (writes user) (reaches user)
      (λ entry h. or_left (writes user entry) (owns user entry) h) can) ∙ closed))

  pub unowned : entry_is machine path file (owns user) ≡ true → P
  unowned can =
      absurd (true≢false (sym (test-weaker (machine.inode path file) (owns user) (reaches user)
      (λ entry h. or_right (writes user entry) (owns user entry) h) can) ∙ closed))

-- ---- files

pub is_this_file-is : (file other : File) → is_this_file file other ≡ true → file ≡ other
is_this_file-is Dir Dir h = refl
is_this_file-is Dir Procs h = absurd (true≢false (sym h))
is_this_file-is Dir Control h = absurd (true≢false (sym h))
is_this_file-is Dir (Limit other) h = absurd (true≢false (sym h))
is_this_file-is Procs Dir h = absurd (true≢false (sym h))
is_this_file-is Procs Procs h = refl
is_this_file-is Procs Control h = absurd (true≢false (sym h))
is_this_file-is Procs (Limit other) h = absurd (true≢false (sym h))
is_this_file-is Control Dir h = absurd (true≢false (sym h))
is_this_file-is Control Procs h = absurd (true≢false (sym h))
is_this_file-is Control Control h = refl
is_this_file-is Control (Limit other) h = absurd (true≢false (sym h))
is_this_file-is (Limit limit) Dir h = absurd (true≢false (sym h))
is_this_file-is (Limit limit) Procs h = absurd (true≢false (sym h))
is_this_file-is (Limit limit) Control h = absurd (true≢false (sym h))
is_this_file-is (Limit limit) (Limit other) h = ap Limit (eqb-true limit other h)

-- a file other than the one that is changed
pub reopened-other : (path : Names) (file : File) (gid mode : ℕ) (had : Names → File → Option Inode) (at : Names) (other : File)
    → (path ≡ at → file ≡ other → ⊥) → reopened path file gid mode had at other ≡ had at other
reopened-other path file gid mode had at other apart =
    let new : Inode → Inode = λ inode. record inode { entry = record inode.entry { gid = gid; mode = mode } } in
    ap (λ b. cond b (option_map new (had at other)) (had at other))
    (false_from_ne_true (same_path path at && is_this_file file other) (λ both.
    let parts = and_parts (same_path path at) (is_this_file file other) both in
    apart (same_path-is path at parts.0) (is_this_file-is file other parts.1)))

-- a cgroup other than the one that is made or removed
pub furnished-other : (path : Names) (made : File → Option Inode) (had : Names → File → Option Inode) (at : Names) (file : File)
    → same_path path at ≡ false → furnished path made had at file ≡ had at file
furnished-other path made had at file apart = ap (λ b. cond b (made file) (had at file)) apart

-- a cgroup that is there is another than one that isn't
pub there-other : (machine : Machine) (path at : Names) → has machine path ≡ false → has machine at ≡ true → same_path path at ≡ false
there-other machine path at gone there =
    false_from_ne_true (same_path path at) (λ same. true≢false (sym there ∙ ap (has machine) (sym (same_path-is path at same)) ∙ gone))
