-- Guards by whom entries let in, and the runs over them.
use Rattle.std.proofs.Common.{◌≡◌, Bool, false, List, [], ◌∷◌, take, refl, sym, ◌∙◌, Option, Some, None, arith}
use Rattle.std.specs.Prelude.{◌↔◌}
use Rattle.std.specs.List.{AllByRecursion, Contains}
use Rattle.std.proofs.lemmas.List.Elements.{All-from_recursion, All-contains, Contains-append_right}
use Rattle.cg_cgroup.specs.Paths.{Names, parent}
use Rattle.cg_cgroup.specs.Identity.{Identity}
use Rattle.cg_cgroup.specs.Users.{reaches}
use Rattle.cg_cgroup.specs.declared.user.Entry.{Entry}
use Rattle.machine.specs.Machines.{File, Procs, Control, Dir, Limit, Inode, Machine, entry_is, Fits, IsPresent, IsClosed, IsGuarded}
use Rattle.machine.specs.Several.{Turn, run_of_all, AreTurnsOf, IsContainedAgainstAll}
use Rattle.machine.proofs.Runs.{contained-all, again-all}
use Rattle.machine_everybody.specs.Everybody.{Everybody, IsAsked, entry_class, lets_class_in, lets_anybody_in, NoneGuarded, IsGuardedAgainstEverybody, IsInNoClass, AreInNoClass}
use Rattle.machine_everybody.proofs.LetIn.{reached, nobody, shown, someone}

-- ---- an entry

-- where each entry that fails one test fails another, so does what is there
entry_fails : (machine : Machine) (path : Names) (file : File) (one other : Entry → Bool)
    → ((entry : Entry) → one entry ≡ false → other entry ≡ false)
    → entry_is machine path file one ≡ false → entry_is machine path file other ≡ false
entry_fails machine path file one other further = by_inode (machine.inode path file)
  where
    by_inode : (found : Option Inode) → elim found as (λ (_ : Option Inode). Bool) [ None ↦ false | Some inode ↦ one inode.entry ] ≡ false
        → elim found as (λ (_ : Option Inode). Bool) [ None ↦ false | Some inode ↦ other inode.entry ] ≡ false
    by_inode None is = refl
    by_inode (Some inode) is = further inode.entry is

-- where it fails each of some tests, and by these a further one, that fails, too
entry_fails_all : {I : Type 0} (machine : Machine) (path : Names) (file : File) (tests : I → Entry → Bool) (other : Entry → Bool)
    → ((entry : Entry) → ((i : I) → tests i entry ≡ false) → other entry ≡ false)
    → ((i : I) → entry_is machine path file (tests i) ≡ false) → entry_is machine path file other ≡ false
entry_fails_all {I = I} machine path file tests other further = by_inode (machine.inode path file)
  where
    by_inode : (found : Option Inode)
        → ((i : I) → elim found as (λ (_ : Option Inode). Bool) [ None ↦ false | Some inode ↦ tests i inode.entry ] ≡ false)
        → elim found as (λ (_ : Option Inode). Bool) [ None ↦ false | Some inode ↦ other inode.entry ] ≡ false
    by_inode None all = refl
    by_inode (Some inode) all = further inode.entry all

-- ---- what is guarded

module _ (machine : Machine) (asked : Everybody) (subtree : Names) where
  pub closed_by : (one : Entry → Bool) (user : Identity) → ((entry : Entry) → one entry ≡ false → reaches user entry ≡ false)
      → NoneGuarded machine subtree one → IsClosed machine user subtree
  closed_by one user further none = record {
    above = λ len less. entry_fails machine (take len subtree) Procs one (reaches user) further (none.above len less);
    limits = λ limit. entry_fails machine subtree (Limit limit) one (reaches user) further (none.limits limit);
    control = entry_fails machine (parent subtree) Control one (reaches user) further none.control;
    dir = entry_fails machine (parent subtree) Dir one (reaches user) further none.dir;
  }

  pub none_by : (user : Identity) (other : Entry → Bool) → ((entry : Entry) → reaches user entry ≡ false → other entry ≡ false)
      → IsClosed machine user subtree → NoneGuarded machine subtree other
  none_by user other further closed = record {
    above = λ len less. entry_fails machine (take len subtree) Procs (reaches user) other further (closed.above len less);
    limits = λ limit. entry_fails machine subtree (Limit limit) (reaches user) other further (closed.limits limit);
    control = entry_fails machine (parent subtree) Control (reaches user) other further closed.control;
    dir = entry_fails machine (parent subtree) Dir (reaches user) other further closed.dir;
  }

  pub guarded_against : IsGuardedAgainstEverybody machine asked subtree → (user : Identity) → IsAsked asked user
      → IsGuarded machine user subtree
  guarded_against guarded user real = record {
    closed = closed_by (lets_anybody_in asked) user (λ entry none. nobody asked user entry real none) guarded.closed;
    fits = guarded.fits;
  }

  -- the entries let nobody in where each user who is asked about is kept out
  kept_out : (path : Names) (file : File) → ((user : Identity) → IsAsked asked user → entry_is machine path file (reaches user) ≡ false)
      → entry_is machine path file (lets_anybody_in asked) ≡ false
  kept_out path file all =
      entry_fails_all machine path file (λ (it : (user : Identity) × IsAsked asked user) entry. reaches it.0 entry)
      (lets_anybody_in asked) (λ entry none. shown asked entry (λ user real. none (user, real))) (λ it. all it.0 it.1)

  pub guarded_by_all : ((user : Identity) → IsAsked asked user → IsGuarded machine user subtree)
      → IsGuardedAgainstEverybody machine asked subtree
  guarded_by_all all = record {
    closed = record {
      above = λ len less. kept_out (take len subtree) Procs (λ user real. (all user real).closed.above len less);
      limits = λ limit. kept_out subtree (Limit limit) (λ user real. (all user real).closed.limits limit);
      control = kept_out (parent subtree) Control (λ user real. (all user real).closed.control);
      dir = kept_out (parent subtree) Dir (λ user real. (all user real).closed.dir);
    };
    fits = (all (someone asked).0 (someone asked).1).fits;
  }

  pub exactly : IsGuardedAgainstEverybody machine asked subtree
      ↔ ((user : Identity) → IsAsked asked user → IsGuarded machine user subtree)
  exactly = (guarded_against, guarded_by_all)

  pub listed : (user : Identity) → IsAsked asked user → Fits machine subtree
      → IsInNoClass machine asked subtree user ↔ IsGuarded machine user subtree
  listed user real fits = (
    λ none. record {
      closed = closed_by (λ entry. lets_class_in asked entry (entry_class user entry)) user
          (λ entry is. reached asked user entry real ∙ is) none;
      fits = fits;
    },
    λ guarded. none_by user (λ entry. lets_class_in asked entry (entry_class user entry))
        (λ entry is. sym (reached asked user entry real) ∙ is) guarded.closed,
  )

-- ---- of a list of users

all_at : {A : Type 0} (P : A → Type 0) (xs : List A) (x : A) → AllByRecursion P xs → Contains xs x → P x
all_at P xs x all named = All-contains P xs x (All-from_recursion P xs all) named

module _ (machine : Machine) (asked : Everybody) (users : List Identity) (subtree : Names) (present : IsPresent machine subtree) where
  pub held : IsGuardedAgainstEverybody machine asked subtree → AllByRecursion (IsAsked asked) users
      → IsContainedAgainstAll machine users subtree
  held guarded real =
      contained-all machine users subtree present
      (λ user named. guarded_against machine asked subtree guarded user (all_at (IsAsked asked) users user real named))

  pub unlisted : Fits machine subtree → AreInNoClass machine asked subtree users → IsContainedAgainstAll machine users subtree
  unlisted fits none =
      contained-all machine users subtree present
      (λ user named.
      let it = all_at (λ user. IsAsked asked user × IsInNoClass machine asked subtree user) users user none named in
      (listed machine asked subtree user it.0 fits).0 it.1)

-- whoever joins may act, too
turns_of_more : (user : Identity) (users : List Identity) (turns : List Turn) → AreTurnsOf users turns → AreTurnsOf (user ∷ users) turns
turns_of_more user users [] all = tt
turns_of_more user users (turn ∷ turns) (named, all) =
    (Contains-append_right (user ∷ []) users turn.0 named, turns_of_more user users turns all)

module _ (machine : Machine) (asked : Everybody) (users : List Identity) (subtree : Names) (present : IsPresent machine subtree)
    (guarded : IsGuardedAgainstEverybody machine asked subtree) (real : AllByRecursion (IsAsked asked) users) where
  pub again : (turns : List Turn) → AreTurnsOf users turns
      → IsPresent (run_of_all machine turns) subtree × IsGuardedAgainstEverybody (run_of_all machine turns) asked subtree
  again turns all = (
    (again-all machine users subtree present
        (λ user named. guarded_against machine asked subtree guarded user (all_at (IsAsked asked) users user real named)) turns all).0,
    guarded_by_all (run_of_all machine turns) asked subtree (λ user one.
        (again-all machine (user ∷ users) subtree present
        (λ other named. guarded_against machine asked subtree guarded other
        (all_at (IsAsked asked) (user ∷ users) other (one, real) named)) turns
        (turns_of_more user users turns all)).1 user (0, omega arith, refl)),
  )
