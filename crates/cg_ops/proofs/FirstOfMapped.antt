-- The first clause of a list's elements, one element after another.
use Rattle.std.proofs.Common.{◌≡◌, ℕ, ◌+◌, ◌<◌, ◌≤◌, true, false, List, ◌++◌, Option, Some, None, is_some, length, drop, sym, ap, ◌∙◌, true≢false}
use Rattle.std.specs.Prelude.{slice_index_or}
use Rattle.std.specs.List.{flat_map}
use Rattle.std.proofs.lemmas.List.{drop_more}
use Rattle.std.proofs.Math.ListN.{drop_of_length-le}
use Rattle.cg_model.specs.Clauses.{first}
use Rattle.cg_model.proofs.ClauseLaws.{first_some, none_of_first}

module _ {A R : Type 0} (clauses : A → List R) (last : List R) (xs : List A) where
  -- what the elements from a place on say, and what comes last
  abbrev pub from_place : ℕ → Option R
  from_place place = first (flat_map clauses (drop place xs) ++ last)

  module _ (place : ℕ) (fallback : A) (inside : place < length xs) where
    abbrev element : A
    element = slice_index_or xs place fallback

    turn : from_place place ≡ first ((clauses element ++ flat_map clauses (drop (place + 1) xs)) ++ last)
    turn = ap (λ rest. first (flat_map clauses rest ++ last)) (drop_more xs place fallback inside)

    module _ (found : Option R) (is : found ≡ first (clauses element)) where
      pub here_found : is_some found ≡ true → found ≡ from_place place
      here_found there =
          elim found as (λ found. found ≡ first (clauses element) → is_some found ≡ true → found ≡ from_place place) [
            | None ↦ λ is there. absurd (true≢false (sym there))
            | Some r ↦ λ is there.
                sym (turn
                ∙ first_some (clauses element ++ flat_map clauses (drop (place + 1) xs)) last r
                (first_some (clauses element) (flat_map clauses (drop (place + 1) xs)) r (sym is)))
          ] is there

      pub none_here : is_some found ≡ false → from_place (place + 1) ≡ from_place place
      none_here missing =
          elim found as (λ found. found ≡ first (clauses element) → is_some found ≡ false → from_place (place + 1) ≡ from_place place) [
            | Some r ↦ λ is missing. absurd (true≢false missing)
            | None ↦ λ is missing.
                sym (turn
                ∙ ap (λ here. first ((here ++ flat_map clauses (drop (place + 1) xs)) ++ last)) (none_of_first (clauses element) (sym is)))
          ] is missing

  pub none_left : (place : ℕ) → length xs ≤ place → from_place place ≡ first last
  none_left place all = ap (λ rest. first (flat_map clauses rest ++ last)) (drop_of_length-le xs all)
