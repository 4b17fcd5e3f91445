-- The guards hold where the user reaches no entry that is told, and the other way round.
use Rattle.std.proofs.Common.{◌≡◌, Bool, true, false, not, ◌||◌, ◌&&◌, cond, List, [], ◌∷◌, ◌++◌, length, Option, Some, None, is_some, refl, ap}
use Rattle.std.specs.List.{All, AllByRecursion, flat_map}
use Rattle.std.specs.Option.{option_map}
use Rattle.std.proofs.lemmas.List.Elements.{All-from_recursion, recursion_from_All}
use Rattle.cg_cgroup.specs.Paths.{Names}
use Rattle.cg_cgroup.specs.Identity.{Identity}
use Rattle.cg_cgroup.specs.Users.{owns, writes, reaches}
use Rattle.cg_cgroup.specs.declared.user.Entry.{Entry}
use Rattle.cg_model.specs.States.{State}
use Rattle.cg_model.specs.Clauses.{present, unless}
use Rattle.cg_model.specs.Limits.{fits_descendants, fits_depth}
use Rattle.cg_model.specs.Guards.{Guarded, guarded_entries, guarded_entry, entry_failures, over_failures, found, GuardsHold}
use Rattle.cg_model.specs.declared.guard.Failed.{Failed}
use Rattle.cg_model.specs.declared.guard.Guard.TheVariants.{AlreadyOver}
use Rattle.cg_model.proofs.ClauseLaws.{no_parts, no_unless}
use Rattle.cg_model.specs.declared.mend.Class.{Class}
use Rattle.cg_model.specs.declared.guard.GuardedEntry.{GuardedEntry}
use Rattle.cg_explain.specs.declared.first.Told.{Told}
use Rattle.cg_explain.specs.FirstRow.{class_of, is_told_of, has_line, told, first_row}
use Rattle.cg_explain.proofs.Classes.{no_class, not_reached}
use Rattle.cg_explain.proofs.Telling.{line_of}

abbrev pub IsSpared : Told → Type 0
IsSpared each = each.by ≡ None

-- a line, where there is one
spared_line : (lined : Bool) (each : Told) → IsSpared each → AllByRecursion IsSpared (cond lined (each ∷ []) [])
spared_line true each none = (none, tt)
spared_line false each none = tt

-- whatever the user reaches has one
none_by : (named : Bool) (at : GuardedEntry) (by : Option Class)
    → AllByRecursion IsSpared (cond (is_some by || named) (record { at = at; by = by } ∷ []) []) → by ≡ None
none_by named at None all = refl
none_by named at (Some class) all = all.0

both_parts : (xs ys : List Told) → AllByRecursion IsSpared (xs ++ ys) → AllByRecursion IsSpared xs × AllByRecursion IsSpared ys
both_parts [] ys all = (tt, all)
both_parts (x ∷ xs) ys all = let rest = both_parts xs ys all.1 in ((all.0, rest.0), rest.1)

joined : (xs ys : List Told) → AllByRecursion IsSpared xs → AllByRecursion IsSpared ys → AllByRecursion IsSpared (xs ++ ys)
joined [] ys one other = other
joined (x ∷ xs) ys one other = (one.0, joined xs ys one.1 other)

unless_none : (b : Bool) (failed : Failed) → b ≡ true → unless b failed ≡ []
unless_none b failed h = ap (λ t. unless t failed) h

module _ (st : State) (user : Identity) (subtree : Names) where
  module _ (guarded : Guarded) where
    abbrev failed : Failed
    failed = record { guard = guarded.guard; len = guarded.len }

    abbrev fails : Option Entry → List Failed
    fails here = present here (λ entry. unless (not (reaches user entry)) failed)

    abbrev lines : Option Entry → List Told
    lines here = present (option_map (found guarded) here) (told st user subtree)

    none_told : (here : Option Entry) → fails here ≡ [] → AllByRecursion IsSpared (lines here)
    none_told None h = tt
    none_told (Some entry) h =
        spared_line (has_line st subtree guarded.name (class_of user entry))
        (record { at = found guarded entry; by = class_of user entry })
        (no_class (owns user entry) (writes user entry) _ (no_unless (not (reaches user entry)) failed h))

    none_fails : (here : Option Entry) → AllByRecursion IsSpared (lines here) → fails here ≡ []
    none_fails None all = refl
    none_fails (Some entry) all =
        unless_none (not (reaches user entry)) failed (not_reached (owns user entry) (writes user entry) _
        (none_by (is_told_of st subtree guarded.name) (found guarded entry) (class_of user entry) all))

  all_told : (gs : List Guarded) → flat_map (entry_failures st user subtree) gs ≡ []
      → AllByRecursion IsSpared (flat_map (line_of st user subtree) gs)
  all_told [] h = tt
  all_told (guarded ∷ gs) h =
      let parts = no_parts (entry_failures st user subtree guarded) (flat_map (entry_failures st user subtree) gs) h in
      joined (line_of st user subtree guarded) (flat_map (line_of st user subtree) gs)
      (none_told guarded (guarded_entry st subtree guarded) parts.0) (all_told gs parts.1)

  all_fail : (gs : List Guarded) → AllByRecursion IsSpared (flat_map (line_of st user subtree) gs)
      → flat_map (entry_failures st user subtree) gs ≡ []
  all_fail [] all = refl
  all_fail (guarded ∷ gs) all =
      let parts = both_parts (line_of st user subtree guarded) (flat_map (line_of st user subtree) gs) all in
      (λ i. none_fails guarded (guarded_entry st subtree guarded) parts.0 i ++ all_fail gs parts.1 i)

  abbrev fits : Bool
  fits = fits_descendants st subtree && fits_depth st subtree

  abbrev over : Failed
  over = record { guard = AlreadyOver; len = length subtree }

  pub where_held : GuardsHold st user subtree → All IsSpared (first_row st user subtree) × (fits ≡ true)
  where_held hold =
      let parts = no_parts (flat_map (entry_failures st user subtree) (guarded_entries subtree)) (over_failures st subtree) hold in (
        All-from_recursion IsSpared (first_row st user subtree) (all_told (guarded_entries subtree) parts.0),
        no_unless fits over parts.1,
      )

  pub held_where : All IsSpared (first_row st user subtree) × (fits ≡ true) → GuardsHold st user subtree
  held_where all =
      (λ i. all_fail (guarded_entries subtree) (recursion_from_All IsSpared (first_row st user subtree) all.0) i
      ++ unless_none fits over all.1 i)
