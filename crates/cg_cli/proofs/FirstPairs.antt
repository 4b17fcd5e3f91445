-- The first of the pairs that are listed, and what is said of it.
use Rattle.std.proofs.Common.{◌≡◌, ℕ, ◌+◌, ◌<◌, ◌≤◌, true, false, List, [], ◌∷◌, ◌++◌, length, get_or, drop, drop-cons, add-one, Some, None, Ok, refl, sym, ap, ◌∙◌, subst, arith}
use Rattle.std.specs.Prelude.{slice_get}
use Rattle.std.specs.List.{All, flat_map}
use Rattle.std.proofs.lemmas.List.{drop_all}
use Rattle.cg_cgroup.specs.Paths.{Names}
use Rattle.cg_cgroup.specs.Identity.{Identity}
use Rattle.cg_model.specs.States.{State}
use Rattle.cg_model.specs.Clauses.{first}
use Rattle.cg_model.specs.Checks.{subtree_faults}
use Rattle.cg_model.specs.Listed.{Listed, listed_unless_contained, is_contained}
use Rattle.cg_model.specs.declared.answer.Answer.{Answer}
use Rattle.cg_model.specs.declared.answer.Answer.TheVariants.{Contained, Escapes, Unsettled}
use Rattle.cg_cli.specs.declared.answers.audited.Found.{Found}
use Rattle.cg_cli.specs.Containment.{answer_status}
use Rattle.cg_cli.specs.Formats.{listing_in, one_in, first_in}
use Rattle.cg_cli.specs.declared.format.Format.{Format}
use Rattle.cg_cli.specs.declared.format.Format.TheVariants.{Lines, Json}
use Rattle.cg_cli.specs.ListedRows.{AreListed}
use Rattle.cg_cli.specs.Reports.{Report, takes_memory}
use Rattle.cg_cli.specs.SettledPairs.{SaysFirst}
use Rattle.cg_cli.specs.SettledRows.{pair_found, row_pairs, rows_pairs, IsPairLine, IsRowOfLines}
use Rattle.cg_cli.proofs.SettledPairs.{may_list}

none_first : (row : List Found) → slice_get row 0 ≡ None → row ≡ []
none_first [] none = refl
none_first (found ∷ others) none = let never : ⊥ = cc in absurd never

some_first : (row : List Found) (found : Found) → slice_get row 0 ≡ Some found → row ≡ found ∷ drop 1 row
some_first [] found some = let never : ⊥ = cc in absurd never
some_first (x ∷ xs) found some = let same : x ≡ found = cc in (λ i. same i ∷ xs)

module _ (users : List Identity) (subtrees : List Names) (rows : List (List Found)) (i : ℕ) (user : Identity) (row : List Found)
    (within : i < length users) (all : length rows ≡ length users) (at : user ≡ get_or users i user) (row_at : row ≡ get_or rows i row)
    (far : rows_pairs (drop i users) subtrees (drop i rows) ≡ rows_pairs users subtrees rows) where
  abbrev rest : List Listed
  rest = rows_pairs (drop (i + 1) users) subtrees (drop (i + 1) rows)

  behind : row_pairs user subtrees row ++ rest ≡ rows_pairs users subtrees rows
  behind =
      let of_users : drop i users ≡ user ∷ drop (i + 1) users =
      drop-cons users i user within ∙ (λ j. sym at j ∷ drop (sym (add-one i) j) users) in
      let of_rows : drop i rows ≡ row ∷ drop (i + 1) rows =
      drop-cons rows i row (omega (arith, within, all)) ∙ (λ j. sym row_at j ∷ drop (sym (add-one i) j) rows) in
      (λ j. rows_pairs (sym of_users j) subtrees (sym of_rows j)) ∙ far

  -- nothing is listed of this user
  pub first_later : slice_get row 0 ≡ None → rest ≡ rows_pairs users subtrees rows
  first_later none = (λ j. row_pairs user subtrees (sym (none_first row none) j) ++ rest) ∙ behind

  -- the first that is listed of this user is the first of all
  pub first_here : (found : Found) → slice_get row 0 ≡ Some found → rows_pairs users subtrees rows
      ≡ (pair_found user subtrees found ++ row_pairs user subtrees (drop 1 row)) ++ rest
  first_here found some = sym behind ∙ (λ j. row_pairs user subtrees (some_first row found some j) ++ rest)

  pub line_first : (found : Found) → slice_get row 0 ≡ Some found → All (IsRowOfLines subtrees) rows → IsPairLine subtrees found
  line_first found some lines =
      let own : IsRowOfLines subtrees row =
      subst (IsRowOfLines subtrees) (sym row_at) (lines i row (omega (arith, within, all))) in
      let same : get_or row 0 found ≡ found = (λ j. get_or (some_first row found some j) 0 found) in
      subst (IsPairLine subtrees) same (own 0 found (some_within row some))
    where
      some_within : (l : List Found) → slice_get l 0 ≡ Some found → 0 < length l
      some_within [] none = let never : ⊥ = cc in absurd never
      some_within (x ∷ xs) is = omega arith

-- what is said of a pair that comes first
pub one_said : (format : Format) (user : Identity) (subtree : Names) (a : Answer) (more rest : List Listed) (text : List ℕ) (status : ℕ)
    → is_contained a ≡ false → text ≡ one_in format (record { user = user; subtree = subtree; found = a }) → status ≡ answer_status a
    → first_in format ((listed_unless_contained user subtree a ++ more) ++ rest) ≡ record { text = text; ending = Ok status }
one_said format user subtree Contained more rest text status listed is status_is = cc
one_said Lines user subtree (Escapes ops) more rest text status listed is status_is =
    (λ i. record { text = sym is i; ending = Ok (sym status_is i) })
one_said Lines user subtree (Unsettled failed) more rest text status listed is status_is =
    (λ i. record { text = sym is i; ending = Ok (sym status_is i) })
one_said Json user subtree (Escapes ops) more rest text status listed is status_is =
    (λ i. record { text = sym is i; ending = Ok (sym status_is i) })
one_said Json user subtree (Unsettled failed) more rest text status listed is status_is =
    (λ i. record { text = sym is i; ending = Ok (sym status_is i) })

pub first_takes : (format : Format) (pairs : List Listed) → takes_memory (first_in format pairs).ending ≡ true
first_takes Lines pairs = refl
first_takes Json pairs = refl

pub none_reported : (format : Format) (text : List ℕ) → text ≡ (listing_in format).none
    → first_in format [] ≡ record { text = text; ending = Ok 0 }
none_reported Lines text is = λ i. record { text = sym is i; ending = Ok 0 }
none_reported Json text is = λ i. record { text = sym is i; ending = Ok 0 }

-- nothing is listed of anybody
pub none_said : (said : List Listed → Report) (users : List Identity) (subtrees : List Names) (rows : List (List Found)) (i : ℕ)
    → length users ≤ i → rows_pairs (drop i users) subtrees (drop i rows) ≡ rows_pairs users subtrees rows
    → said (rows_pairs users subtrees rows) ≡ said []
none_said said users subtrees rows i all far =
    ap said (sym far ∙ (λ j. rows_pairs (drop_all i users all j) subtrees (drop i rows)))

pub first_says : (first_said : List Listed → Report) (st : State) (users : List Identity) (subtrees : List Names) (rows : List (List Found))
    → AreListed st users subtrees rows → first (flat_map (subtree_faults st) subtrees) ≡ None → (said : Report)
    → first_said (rows_pairs users subtrees rows) ≡ said → SaysFirst first_said st users subtrees said
first_says first_said st users subtrees rows are none said same =
    (Ok (rows_pairs users subtrees rows), may_list st users subtrees rows are none, same)
