-- The second row holds where all is met that is asked.
use Rattle.std.proofs.Common.{◌≡◌, ◌⊎◌, inl, inr, Bool, true, false, not, ◌&&◌, ◌||◌, cond, List, [], ◌∷◌, ◌++◌, length, map, Some, None, is_some, refl, sym, ap, ◌∙◌}
use Rattle.std.specs.List.{list_all, flat_map, filter}
use Rattle.std.proofs.lemmas.Bool.{cases_Bool, or_parts}
use Rattle.std.proofs.Math.Bool.{or-true}
use Rattle.cg_cgroup.specs.Paths.{Names, is_root, parent}
use Rattle.cg_cgroup.specs.Identity.{Identity}
use Rattle.cg_cgroup.specs.Files.{all_controllers, is_in_format_2, enables}
use Rattle.cg_cgroup.specs.declared.files.Controller.{Controller}
use Rattle.cg_model.specs.States.{State, paths_of}
use Rattle.cg_model.specs.WellFormed.{IsWellFormed}
use Rattle.cg_model.specs.Tries.{is_told, told_controllers}
use Rattle.cg_model.specs.Limits.{fits_descendants, fits_depth}
use Rattle.cg_second.specs.Greatest.{greatest}
use Rattle.cg_second.specs.Judged.{takes_none, grows_none, spares_files, is_closed_to, second_row}
use Rattle.cg_second.specs.Anchors.{is_anchored}
use Rattle.cg_second.specs.Exposed.{is_off_to, is_exposed, is_shut_or_apart}
use Rattle.cg_second.proofs.Staying.{off-above}
use Rattle.cg_second.proofs.Edges.{closed-is}
use Rattle.cg_explain.proofs.Untold.{off_everywhere}
use Rattle.cg_cgroup.specs.declared.files.EntryName.TheVariants.{Dir, Procs}
use Rattle.cg_second.specs.Lasting.{is_reached}
use Rattle.cg_explain.specs.declared.second.Staying.TheVariants.{Spared as SparedStaying, Upheld}
use Rattle.cg_explain.specs.declared.second.Switch.TheVariants.{On, Off}
use Rattle.cg_explain.specs.declared.second.Taking.TheVariants.{Spared as SparedTaking, Enabling}
use Rattle.cg_explain.specs.declared.second.Growing.TheVariants.{Spared as SparedGrowing, Full}
use Rattle.cg_explain.specs.declared.second.Place.{Place}
use Rattle.cg_explain.specs.declared.second.Asked.{Asked}
use Rattle.cg_explain.specs.declared.second.Asked.TheVariants.{Files, Shut}
use Rattle.cg_explain.specs.SecondRow.{why_stays, why_control, control_asked, controls_asked, place_with, place_asked, second_row_asked, is_met}

some-is : {A : Type 0} (b : Bool) (x : A) → is_some (cond b (Some x) None) ≡ b
some-is true x = refl
some-is false x = refl

either-is : {A : Type 0} (one other : Bool) (x y : A) → is_some (cond one (Some x) (cond other (Some y) None)) ≡ (one || other)
either-is true other x y = refl
either-is false true x y = refl
either-is false false x y = refl

regroup : (stays controls files closed within : Bool)
    → ((stays && (controls && (files && closed))) && within) ≡ (stays && (controls && (files && (closed && within))))
regroup false controls files closed within = refl
regroup true false files closed within = refl
regroup true true false closed within = refl
regroup true true true closed within = refl

one-more : (one others behind : Bool) → (one && (others && behind)) ≡ ((one && others) && behind)
one-more true others behind = refl
one-more false others behind = refl

one-place : (exposed : Bool) (place : Place) (takes grows : Bool) (rest : List Asked) (others : Bool)
    → is_some place.takes_none ≡ takes → is_some place.grows_none ≡ grows → list_all is_met rest ≡ others
    → list_all is_met (cond exposed (Shut place ∷ []) [] ++ rest) ≡ ((not exposed || (takes && grows)) && others)
one-place true place takes grows rest others takes-is grows-is more = λ i. (takes-is i && grows-is i) && more i
one-place false place takes grows rest others takes-is grows-is more = more

module _ (st : State) (users : List Identity) (subtree : Names) where
  places-are : (paths : List Names)
      → list_all is_met (flat_map (place_asked st users subtree) paths) ≡ list_all (is_shut_or_apart st users subtree) paths
  places-are [] = refl
  places-are (path ∷ paths) =
      let takes : Bool = takes_none st users (greatest st users) path in
      let grows : Bool = grows_none st users (greatest st users) path in
      one-place (is_exposed st users subtree path) (place_with st users path grows) takes grows
      (flat_map (place_asked st users subtree) paths) (list_all (is_shut_or_apart st users subtree) paths)
      (some-is takes (cond (is_reached st users path Procs) Enabling SparedTaking))
      (some-is grows (cond (is_reached st users path Dir) Full SparedGrowing)) (places-are paths)

  closed-where-met : list_all is_met (flat_map (place_asked st users subtree) (paths_of st))
      ≡ is_closed_to st users (greatest st users) subtree (length subtree)
  closed-where-met = places-are (paths_of st) ∙ closed-is st users subtree

  stay-is : is_some (why_stays st users subtree) ≡ (greatest st users).stays subtree
  stay-is = some-is ((greatest st users).stays subtree) (cond (is_anchored st users subtree) SparedStaying Upheld)

  abbrev holds_at : Controller → Bool
  holds_at controller =
      (greatest st users).on (parent subtree) controller || (greatest st users).off (parent subtree) controller

  abbrev fits : Bool
  fits = fits_descendants st subtree && fits_depth st subtree

  -- what is asked behind that it stays, and what the row tests then
  abbrev asked_behind : Bool
  asked_behind =
      list_all is_met (controls_asked st users subtree
      ++ Files (spares_files st users subtree)
      ∷ flat_map (place_asked st users subtree) (paths_of st))

  abbrev tested_behind : Bool
  tested_behind =
      list_all holds_at all_controllers
      && (spares_files st users subtree && (is_closed_to st users (greatest st users) subtree (length subtree) && fits))

  module _ (formed : IsWellFormed st) (not_root : is_root subtree ≡ false) where
    control-is : (greatest st users).stays subtree ≡ true → (controller : Controller)
        → is_some (why_control st users subtree controller) ≡ holds_at controller
    control-is stays controller =
        either-is ((greatest st users).on (parent subtree) controller) (is_off_to st users subtree controller (length subtree)) On Off
        ∙ ap (λ b. (greatest st users).on (parent subtree) controller || b)
        (sym (off-above st users formed subtree controller stays not_root))

    -- a controller of which nothing is told stays off
    untold-holds : (greatest st users).stays subtree ≡ true → (controller : Controller) → is_told st controller ≡ false
        → holds_at controller ≡ true
    untold-holds stays controller untold =
        let none = (or_parts (is_in_format_2 controller) (enables st.controllers controller) untold).1 in
        let off = off-above st users formed subtree controller stays not_root
        ∙ off_everywhere st formed controller none users subtree (length subtree) in
        ap (λ b. (greatest st users).on (parent subtree) controller || b) off
        ∙ or-true ((greatest st users).on (parent subtree) controller)

    controls-are : (greatest st users).stays subtree ≡ true → (controllers : List Controller) (rest : List Asked) (behind : Bool)
        → list_all is_met rest ≡ behind
        → list_all is_met (map (control_asked st users subtree) (filter (is_told st) controllers) ++ rest)
        ≡ (list_all holds_at controllers && behind)
    controls-are stays [] rest behind more = more
    controls-are stays (controller ∷ controllers) rest behind more =
        let told : List Controller = filter (is_told st) controllers in
        elim (is_told st controller) as (λ b. is_told st controller ≡ b
        → list_all is_met (map (control_asked st users subtree) (cond b (controller ∷ told) told) ++ rest)
        ≡ ((holds_at controller && list_all holds_at controllers) && behind)) [
          | true ↦ λ _.
              (λ i. control-is stays controller i && controls-are stays controllers rest behind more i)
              ∙ one-more (holds_at controller) (list_all holds_at controllers) behind
          | false ↦ λ untold.
              controls-are stays controllers rest behind more
              ∙ sym (ap (λ b. (b && list_all holds_at controllers) && behind) (untold-holds stays controller untold))
        ] refl

    by_stay : ((greatest st users).stays subtree ≡ true) ⊎ ((greatest st users).stays subtree ≡ false)
        → ((is_some (why_stays st users subtree) && asked_behind) && fits) ≡ ((greatest st users).stays subtree && tested_behind)
    unfolding told_controllers
    by_stay (inl stays) =
        (λ i. (stay-is i && controls-are stays all_controllers
        (Files (spares_files st users subtree) ∷ flat_map (place_asked st users subtree) (paths_of st))
        (spares_files st users subtree && is_closed_to st users (greatest st users) subtree (length subtree))
        (ap (λ b. spares_files st users subtree && b) closed-where-met) i) && fits)
        ∙ regroup ((greatest st users).stays subtree) (list_all holds_at all_controllers) (spares_files st users subtree)
        (is_closed_to st users (greatest st users) subtree (length subtree)) fits
    by_stay (inr gone) =
        ap (λ b. (b && asked_behind) && fits) (stay-is ∙ gone) ∙ sym (ap (λ b. b && tested_behind) gone)

    pub met-is : (list_all is_met (second_row_asked st users subtree) && (fits_descendants st subtree && fits_depth st subtree))
        ≡ second_row st users subtree
    met-is = by_stay (cases_Bool ((greatest st users).stays subtree))
