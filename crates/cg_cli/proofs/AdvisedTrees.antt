-- The tree with the changes of the advice made: the subtrees are there, and contained.
use Rattle.std.proofs.Common.{◌≡◌, ◌≢◌, List, [], ◌∷◌, get_or, Option, Some, None, is_some, option_map, option_and_then, refl, sym, ap, ◌∙◌, arith}
use Rattle.std.specs.List.{All, Contains}
use Rattle.std.proofs.lemmas.List.Elements.{All-contains, Contains-get_or}
use Rattle.cg_cgroup.specs.Paths.{Names}
use Rattle.cg_cgroup.specs.Identity.{Identity}
use Rattle.cg_cgroup.specs.Users.{IsUser}
use Rattle.cg_cgroup.specs.Cgroups.{entry_in}
use Rattle.cg_cgroup.specs.declared.user.Entry.{Entry}
use Rattle.cg_cgroup.specs.declared.files.EntryName.TheVariants.{Dir}
use Rattle.cg_model.specs.States.{State, row_at, entry_at}
use Rattle.cg_model.specs.WellFormed.{IsWellFormed, has_row}
use Rattle.cg_model.specs.Guards.{IsSubtree, GuardsHold}
use Rattle.cg_model.specs.Several.{AreContained}
use Rattle.cg_model.specs.Mended.{mended}
use Rattle.cg_model.specs.Mends.{Pair, entrants, users_at, advised}
use Rattle.cg_cli.specs.Advising.{IsAdvisable, AreNamed}
use Rattle.cg_check.proofs.AllContained.{guarded-are-contained}
use Rattle.cg_advice.proofs.Advising.{is_advised, mends-all, formed-advised}

-- a cgroup is there where its directory is
pub row-directory : (st : State) (path : Names) → has_row st path ≡ is_some (entry_at st path Dir)
row-directory st path =
    elim (row_at st path) as (λ r. is_some r ≡ is_some (option_and_then (λ row. entry_in row Dir) r)) [ None ↦ refl | Some row ↦ refl ]

pub still_some : (f : Entry → Entry) (o : Option Entry) → is_some (option_map f o) ≡ is_some o
still_some f None = refl
still_some f (Some e) = refl

still_there : (st : State) (pairs : List Pair) (path : Names) → has_row (advised st pairs) path ≡ has_row st path
still_there st pairs path =
    row-directory (advised st pairs) path
    ∙ ap is_some ((is_advised st pairs).entries path Dir)
    ∙ still_some (mended (users_at path Dir (entrants st pairs))) (entry_at st path Dir)
    ∙ sym (row-directory st path)

some_one : (users : List Identity) → users ≢ [] → (user : Identity) × Contains users user
some_one [] some = absurd (some refl)
some_one (user ∷ users) some = (user, (0, omega arith, refl))

pub contained-advised : (st : State) (pairs : List Pair) (users : List Identity) (subtrees : List Names) → IsWellFormed st
    → All (IsAdvisable st) pairs → AreNamed pairs users subtrees → users ≢ [] → AreContained (advised st pairs) users subtrees
contained-advised st pairs users subtrees formed can named some =
    guarded-are-contained (advised st pairs) users subtrees
    (λ _. formed-advised st formed pairs (λ k d within. (can k d within).countable)) subs hold some
  where
    subs : All (IsSubtree (advised st pairs)) subtrees
    subs k d within =
        let path = get_or subtrees k d in
        let one = some_one users some in
        let sub = (All-contains (IsAdvisable st) pairs (record { user = one.0; subtree = path }) can
        (named one.0 path one.1 (Contains-get_or subtrees k d within))).subtree in
        (still_there st pairs path ∙ sub.0, sub.1)

    hold : (user : Identity) → Contains users user → All (GuardsHold (advised st pairs) user) subtrees
    hold user among k d within =
        let path = get_or subtrees k d in
        let there = named user path among (Contains-get_or subtrees k d within) in
        All-contains (λ pair. IsUser pair.user → GuardsHold (advised st pairs) pair.user pair.subtree) pairs
        (record { user = user; subtree = path }) (mends-all st pairs) there
        (All-contains (IsAdvisable st) pairs (record { user = user; subtree = path }) can there).user
