-- The second row of one subtree, of what is asked of its files and of its limits, and of what is asked of the rest.
use Rattle.std.proofs.Common.{◌≡◌, Bool, true, false, ◌&&◌, ◌||◌, List, length, refl, sym, ap, ◌∙◌}
use Rattle.std.specs.List.{list_all}
use Rattle.cg_cgroup.specs.Paths.{Names, parent}
use Rattle.cg_cgroup.specs.Identity.{Identity}
use Rattle.cg_cgroup.specs.Files.{all_controllers}
use Rattle.cg_model.specs.States.{State}
use Rattle.cg_model.specs.Limits.{fits_descendants, fits_depth}
use Rattle.cg_second.specs.Greatest.{greatest}
use Rattle.cg_second.specs.Judged.{second_row, is_closed_to, spares_files}
use Rattle.cg_second.specs.Exposed.{keeps_limits, is_shut_in}

-- (stays, control, files, closed, fits)
turned : (s c f k d : Bool) → (s && (c && (f && (k && d)))) ≡ ((f && d) && (s && (c && k)))
turned true true true true true = refl
turned true true true true false = refl
turned true true true false true = refl
turned true true true false false = refl
turned true true false k d = refl
turned true false true k true = refl
turned true false true k false = refl
turned true false false k d = refl
turned false c true k true = refl
turned false c true k false = refl
turned false c false k d = refl

module _ (st : State) (users : List Identity) (subtree : Names) where
  in_two : second_row st users subtree ≡ (keeps_limits st users subtree && is_shut_in st users subtree)
  in_two =
      let last = greatest st users in
      turned (last.stays subtree)
      (list_all (λ controller. last.on (parent subtree) controller || last.off (parent subtree) controller) all_controllers)
      (spares_files st users subtree) (is_closed_to st users last subtree (length subtree))
      (fits_descendants st subtree && fits_depth st subtree)

  pub row-fails : (keeps : Bool) → keeps ≡ keeps_limits st users subtree → keeps ≡ false → false ≡ second_row st users subtree
  row-fails keeps is none = sym (in_two ∙ ap (λ b. b && is_shut_in st users subtree) (sym is ∙ none))

  pub row-is : (keeps : Bool) → keeps ≡ keeps_limits st users subtree → keeps ≡ true
      → is_shut_in st users subtree ≡ second_row st users subtree
  row-is keeps is all = sym (in_two ∙ ap (λ b. b && is_shut_in st users subtree) (sym is ∙ all))
