-- Nothing is found of a subtree exactly where its guards hold for everybody who is asked about, and of a user what is found are their
-- classes.
use Rattle.std.proofs.Common.{◌≡◌, ◌≢◌, ℕ, Bool, true, false, cond, not, ◌||◌, ◌&&◌, List, [], ◌∷◌, ◌++◌, length, get_or, Option, Some, None, refl, sym, ap, ◌∙◌}
use Rattle.std.specs.Prelude.{codes, take}
use Rattle.std.specs.List.{All, AllByRecursion, filter, flat_map, join_with_byte}
use Rattle.std.specs.Option.{option_map}
use Rattle.std.proofs.lemmas.List.Elements.{All-from_recursion, recursion_from_All, All-contains, Contains-get_or}
use Rattle.cg_cgroup.specs.Identity.{Identity}
use Rattle.cg_cgroup.specs.Files.{entry_text}
use Rattle.cg_cgroup.specs.Paths.{Names, path_text}
use Rattle.cg_cgroup.specs.Users.{reaches}
use Rattle.cg_cgroup.specs.declared.user.Entry.{Entry}
use Rattle.cg_model.specs.Clauses.{present, unless}
use Rattle.cg_model.specs.Guards.{Guarded, guarded_entries, guarded_entry, entry_failures, over_failures, found, GuardsHold}
use Rattle.cg_model.specs.Limits.{fits_descendants, fits_depth}
use Rattle.cg_model.specs.States.{State}
use Rattle.cg_model.specs.declared.guard.Failed.{Failed}
use Rattle.cg_model.specs.declared.guard.Guard.TheVariants.{AlreadyOver}
use Rattle.cg_model.specs.declared.guard.GuardedEntry.{GuardedEntry}
use Rattle.cg_model.specs.declared.mend.Class.{Class}
use Rattle.cg_model.specs.declared.mend.Class.TheVariants.{Owner, Group, Others}
use Rattle.cg_model.proofs.ClauseLaws.{no_parts, no_unless, none_each, each_none}
use Rattle.cg_lines.specs.OperationLines.{mode_word}
use Rattle.cg_model.specs.GuardNames.{guard_name}
use Rattle.cg_advice.specs.AdviceLines.{class_name, owner_word, fails_line, over_line}
use Rattle.machine_everybody.specs.Everybody.{Everybody, IsAsked, entry_class, lets_class_in, lets_anybody_in}
use Rattle.machine_everybody.proofs.LetIn.{reached, nobody, shown, someone}
use Rattle.cg_everybody.specs.Everybody.{opens_to, classes_in, entrance_lines, excess_lines, found_lines, subtree_line, headed, subtree_lines, everybody_lines, GuardsHoldForEverybody, IsInNoClassIn}

-- ---- a line isn't empty

ended : (xs : List ℕ) (y : ℕ) → xs ++ y ∷ [] ≢ []
ended [] y is = cc
ended (x ∷ xs) y is = cc

begun : (xs : List ℕ) (y : ℕ) (ys : List ℕ) → xs ++ y ∷ ys ≢ []
begun [] y ys is = cc
begun (x ∷ xs) y ys is = cc

unless_none : (b : Bool) (failed : Failed) → b ≡ true → unless b failed ≡ []
unless_none b failed h = ap (λ t. unless t failed) h

no_reach : (b : Bool) → not b ≡ true → b ≡ false
no_reach true is = cc
no_reach false is = refl

-- ---- the classes that an entry lets in

module _ {A B : Type 0} (f : A → List B) (some : (x : A) → f x ≢ []) where
  first_out : (b : Bool) (x : A) (xs : List A) → flat_map f (cond b (x ∷ xs) xs) ≡ [] → (b ≡ false) × (flat_map f xs ≡ [])
  first_out true x xs none = absurd (some x (no_parts (f x) (flat_map f xs) none).0)
  first_out false x xs none = (refl, none)

pub none_of_three : (a b c : Bool) → a ≡ false → b ≡ false → c ≡ false → (a || (b || c)) ≡ false
none_of_three a b c first second third = ap (λ x. x || (b || c)) first ∙ ap (λ y. y || c) second ∙ third

three_apart : (a b c : Bool) → (a || (b || c)) ≡ false → (a ≡ false) × (b ≡ false) × (c ≡ false)
three_apart false false false none = (refl, refl, refl)
three_apart true b c none = cc
three_apart false true c none = cc
three_apart false false true none = cc

module _ (asked : Everybody) (subtree : Names) (at : GuardedEntry) where
  -- its words
  some_line : (class : Class) → fails_line subtree at class ≢ []
  some_line class =
      ended (join_with_byte 32 (codes "fails" ∷ guard_name at.guard ∷ path_text (take at.len subtree) ∷ entry_text at.name
      ∷ owner_word at.entry.uid at.entry.gid ∷ mode_word at.entry.mode ∷ class_name class ∷ [])) 10

  pub shut : flat_map (fails_line subtree at) (classes_in asked at.entry) ≡ [] → lets_anybody_in asked at.entry ≡ false
  shut none =
      let lines = fails_line subtree at in
      let owner = first_out lines some_line (opens_to asked at.entry Owner) Owner (filter (opens_to asked at.entry) (Group ∷ Others ∷
      [])) none in
      let group = first_out lines some_line (opens_to asked at.entry Group) Group (filter (opens_to asked at.entry) (Others ∷ []))
      owner.1 in
      let others = first_out lines some_line (opens_to asked at.entry Others) Others [] group.1 in
      none_of_three (opens_to asked at.entry Owner) (opens_to asked at.entry Group) (opens_to asked at.entry Others) owner.0 group.0
      others.0

  pub no_lines : lets_anybody_in asked at.entry ≡ false → flat_map (fails_line subtree at) (classes_in asked at.entry) ≡ []
  no_lines none =
      let apart = three_apart (opens_to asked at.entry Owner) (opens_to asked at.entry Group) (opens_to asked at.entry Others) none in
      ap (λ b. flat_map (fails_line subtree at) (cond b (Owner ∷ filter (opens_to asked at.entry) (Group ∷ Others ∷ []))
      (filter (opens_to asked at.entry) (Group ∷ Others ∷ [])))) apart.0
      ∙ ap (λ b. flat_map (fails_line subtree at) (cond b (Group ∷ filter (opens_to asked at.entry) (Others ∷ []))
      (filter (opens_to asked at.entry) (Others ∷ [])))) apart.1
      ∙ ap (λ b. flat_map (fails_line subtree at) (cond b (Others ∷ []) [])) apart.2

-- ---- what is guarded

module _ (st : State) (asked : Everybody) (subtree : Names) where
  module _ (guarded : Guarded) where
    abbrev failed : Failed
    failed = record { guard = guarded.guard; len = guarded.len }

    abbrev fails : Identity → Option Entry → List Failed
    fails user here = present here (λ entry. unless (not (reaches user entry)) failed)

    abbrev lines : Option Entry → List ℕ
    lines here = present (option_map (found guarded) here) (λ at. flat_map (fails_line subtree at) (classes_in asked at.entry))

    held_for : (user : Identity) → IsAsked asked user → (here : Option Entry) → lines here ≡ [] → fails user here ≡ []
    held_for user real None none = refl
    held_for user real (Some entry) none =
        unless_none (not (reaches user entry)) failed (ap not (nobody asked user entry real (shut asked subtree (found guarded entry)
        none)))

    found_none : (here : Option Entry) → ((user : Identity) → IsAsked asked user → fails user here ≡ []) → lines here ≡ []
    found_none None held = refl
    found_none (Some entry) held =
        no_lines asked subtree (found guarded entry)
        (shown asked entry (λ user real. no_reach (reaches user entry) (no_unless (not (reaches user entry)) failed (held user real))))

    out_of_reach : (user : Identity) → IsAsked asked user → (here : Option Entry) → fails user here ≡ [] → (entry : Entry)
        → here ≡ Some entry → lets_class_in asked entry (entry_class user entry) ≡ false
    out_of_reach user real None none entry is = let never : ⊥ = cc in absurd never
    out_of_reach user real (Some one) none entry is =
        let same : one ≡ entry = cc in
        sym (reached asked user entry real)
        ∙ ap (reaches user) (sym same) ∙ no_reach (reaches user one) (no_unless (not (reaches user one)) failed none)

    kept_out : (user : Identity) → IsAsked asked user → (here : Option Entry)
        → ((entry : Entry) → here ≡ Some entry → lets_class_in asked entry (entry_class user entry) ≡ false) → fails user here ≡ []
    kept_out user real None out = refl
    kept_out user real (Some entry) out =
        unless_none (not (reaches user entry)) failed (ap not (reached asked user entry real ∙ out entry refl))

  -- for each of some entries
  all_held : (gs : List Guarded) → flat_map (entrance_lines st asked subtree) gs ≡ [] → (user : Identity) → IsAsked asked user
      → flat_map (entry_failures st user subtree) gs ≡ []
  all_held [] none user real = refl
  all_held (guarded ∷ gs) none user real =
      let parts = no_parts (entrance_lines st asked subtree guarded) (flat_map (entrance_lines st asked subtree) gs) none in
      (λ i. held_for guarded user real (guarded_entry st subtree guarded) parts.0 i ++ all_held gs parts.1 user real i)

  all_none : (gs : List Guarded) → ((user : Identity) → IsAsked asked user → flat_map (entry_failures st user subtree) gs ≡ [])
      → flat_map (entrance_lines st asked subtree) gs ≡ []
  all_none [] held = refl
  all_none (guarded ∷ gs) held =
      let parts = λ (user : Identity) (real : IsAsked asked user).
      no_parts (entry_failures st user subtree guarded) (flat_map (entry_failures st user subtree) gs) (held user real) in
      (λ i. found_none guarded (guarded_entry st subtree guarded) (λ user real. (parts user real).0) i
      ++ all_none gs (λ user real. (parts user real).1) i)

  -- ---- its limits

  abbrev fits : Bool
  fits = fits_descendants st subtree && fits_depth st subtree

  abbrev over : Failed
  over = record { guard = AlreadyOver; len = length subtree }

  pub fit : (b : Bool) → cond b [] (over_line subtree) ≡ [] → b ≡ true
  fit true none = refl
  fit false none = absurd (ended (join_with_byte 32 (codes "fails" ∷ guard_name AlreadyOver ∷ path_text subtree ∷ [])) 10 none)

  -- ---- all of it

  pub holds : found_lines st asked subtree ≡ [] → GuardsHoldForEverybody st asked subtree
  holds none user real =
      let parts = no_parts (flat_map (entrance_lines st asked subtree) (guarded_entries subtree)) (excess_lines st subtree) none in
      (λ i. all_held (guarded_entries subtree) parts.0 user real i ++ unless_none fits over (fit fits parts.1) i)

  pub none_found : GuardsHoldForEverybody st asked subtree → found_lines st asked subtree ≡ []
  none_found all =
      let parts = λ (user : Identity) (real : IsAsked asked user).
      no_parts (flat_map (entry_failures st user subtree) (guarded_entries subtree)) (over_failures st subtree) (all user real) in
      (λ i. all_none (guarded_entries subtree) (λ user real. (parts user real).0) i
      ++ cond (no_unless fits over (parts (someone asked).0 (someone asked).1).1 i) [] (over_line subtree))

  pub in_no_class : (user : Identity) → IsAsked asked user → GuardsHold st user subtree
      → IsInNoClassIn st asked subtree user × (fits ≡ true)
  in_no_class user real held =
      let parts = no_parts (flat_map (entry_failures st user subtree) (guarded_entries subtree)) (over_failures st subtree) held in (
        λ guarded entry among is.
            out_of_reach guarded user real (guarded_entry st subtree guarded)
            (All-contains (λ (it : Guarded). entry_failures st user subtree it ≡ []) (guarded_entries subtree) guarded
            (All-from_recursion (λ (it : Guarded). entry_failures st user subtree it ≡ []) (guarded_entries subtree)
            (none_each (entry_failures st user subtree) (guarded_entries subtree) parts.0)) among) entry is,
        no_unless fits over parts.1,
      )

  pub held_in_no_class : (user : Identity) → IsAsked asked user → IsInNoClassIn st asked subtree user × (fits ≡ true)
      → GuardsHold st user subtree
  held_in_no_class user real given =
      let each : All (λ (it : Guarded). entry_failures st user subtree it ≡ []) (guarded_entries subtree) =
      λ k d within.
      kept_out (get_or (guarded_entries subtree) k d) user real (guarded_entry st subtree (get_or (guarded_entries subtree) k d))
      (λ entry is. given.0 (get_or (guarded_entries subtree) k d) entry (Contains-get_or (guarded_entries subtree) k d within) is) in
      (λ i. each_none (entry_failures st user subtree) (guarded_entries subtree)
      (recursion_from_All (λ (it : Guarded). entry_failures st user subtree it ≡ []) (guarded_entries subtree) each) i
      ++ unless_none fits over given.1 i)

-- ---- of several

none_headed : (subtree : Names) (lines : List ℕ) → headed subtree lines ≡ [] → lines ≡ []
none_headed subtree [] none = refl
none_headed subtree (byte ∷ bytes) none = absurd (begun (subtree_line subtree) byte bytes none)

headed_none : (subtree : Names) (lines : List ℕ) → lines ≡ [] → headed subtree lines ≡ []
headed_none subtree lines none = ap (headed subtree) none

pub each_holds : (st : State) (asked : Everybody) (subtrees : List Names) → everybody_lines st asked subtrees ≡ []
    → AllByRecursion (GuardsHoldForEverybody st asked) subtrees
each_holds st asked [] none = tt
each_holds st asked (subtree ∷ subtrees) none =
    let parts = no_parts (subtree_lines st asked subtree) (everybody_lines st asked subtrees) none in
    (holds st asked subtree (none_headed subtree (found_lines st asked subtree) parts.0), each_holds st asked subtrees parts.1)

pub none_of_each : (st : State) (asked : Everybody) (subtrees : List Names)
    → AllByRecursion (GuardsHoldForEverybody st asked) subtrees → everybody_lines st asked subtrees ≡ []
none_of_each st asked [] each = refl
none_of_each st asked (subtree ∷ subtrees) each =
    (λ i. headed_none subtree (found_lines st asked subtree) (none_found st asked subtree each.0) i
    ++ none_of_each st asked subtrees each.1 i)
