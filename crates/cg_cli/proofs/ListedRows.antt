-- What was found with one subtree after another, entered in the rows of users.
use Rattle.std.proofs.Common.{◌≡◌, ◌≢◌, ℕ, zero, suc, ◌+◌, ◌<◌, ◌≤◌, Bool, true, false, nat_eq, cond, List, [], ◌∷◌, ◌++◌, length, get_or, drop, drop-cons, add-one}
use Rattle.std.proofs.Common.{refl, sym, ap, ◌∙◌, subst, arith, append-nil}
use Rattle.std.specs.List.{All}
use Rattle.std.proofs.lemmas.Bool.{eqb-true, eqb-false, ne_eqb, eq-eqb}
use Rattle.std.proofs.lemmas.List.{get_or_default, get_or-set_same, get_or-set_other, length-set, drop_all}
use Rattle.cg_cgroup.specs.Paths.{Names}
use Rattle.cg_cgroup.specs.Identity.{Identity}
use Rattle.cg_model.specs.States.{State}
use Rattle.cg_model.specs.Listed.{is_contained}
use Rattle.cg_model.specs.declared.answer.Answer.{Answer}
use Rattle.cg_model.specs.declared.answer.Answer.TheVariants.{Contained, Escapes, Unsettled}
use Rattle.cg_cli.specs.declared.answers.audited.Found.{Found}
use Rattle.cg_cli.specs.Audited.{AreKnown}
use Rattle.cg_cli.specs.FoundPlaces.{found_at, AreApart, AreBefore, found_one}
use Rattle.cg_cli.specs.ListedRows.{with_one, in_rows, row_of, AreRows, AreListed}

-- ---- one row

with_one-here : (place : ℕ) (found : Found) (rows : List (List Found)) (d : List Found) → place < length rows
    → get_or (with_one place found rows) place d ≡ get_or rows place d ++ found ∷ []
with_one-here place found rows d within =
    get_or-set_same rows place (get_or rows place [] ++ found ∷ []) d within
    ∙ (λ i. get_or_default rows place [] d within i ++ found ∷ [])

with_one-other : (place other : ℕ) (found : Found) (rows : List (List Found)) (d : List Found) → other ≢ place
    → get_or (with_one place found rows) other d ≡ get_or rows other d
with_one-other place other found rows d apart = get_or-set_other rows place other (get_or rows place [] ++ found ∷ []) d apart

with_one-length : (place : ℕ) (found : Found) (rows : List (List Found)) → length (with_one place found rows) ≡ length rows
with_one-length place found rows = length-set rows place (get_or rows place [] ++ found ∷ [])

-- ---- all that was found with a subtree

module _ (subtree : ℕ) where
  in_rows-length : (found : List Found) (rows : List (List Found)) → length (in_rows subtree found rows) ≡ length rows
  in_rows-length [] rows = refl
  in_rows-length (each ∷ others) rows =
      in_rows-length others (with_one each.place (record { place = subtree; answer = each.answer }) rows)
      ∙ with_one-length each.place (record { place = subtree; answer = each.answer }) rows

  one_listed : (a : Answer) → is_contained a ≡ false → found_one subtree a ≡ record { place = subtree; answer = a } ∷ []
  one_listed Contained other = cc
  one_listed (Escapes ops) other = refl
  one_listed (Unsettled failed) other = refl

  pub in_rows-each : (found : List Found) (rows : List (List Found)) (user : ℕ) (d : List Found) → AreApart found
      → AreBefore (length rows) found → user < length rows
      → get_or (in_rows subtree found rows) user d ≡ get_or rows user d ++ found_one subtree (found_at found user)
  in_rows-each [] rows user d apart before within = sym (append-nil (get_or rows user d))
  in_rows-each (each ∷ others) rows user d apart before within =
      in_rows-each others next user d apart.2 (subst (λ n. AreBefore n others) (sym count) before.1) (omega (arith, count, within))
      ∙ by_place (nat_eq each.place user) refl
    where
      one : Found
      one = record { place = subtree; answer = each.answer }

      next : List (List Found)
      next = with_one each.place one rows

      count : length next ≡ length rows
      count = with_one-length each.place one rows

      by_place : (here : Bool) → nat_eq each.place user ≡ here
          → get_or next user d ++ found_one subtree (found_at others user)
          ≡ get_or rows user d ++ found_one subtree (cond here each.answer (found_at others user))
      by_place true here =
          let same : each.place ≡ user = eqb-true each.place user here in
          let none : found_at others user ≡ Contained = subst (λ n. found_at others n ≡ Contained) same apart.0 in
          let own : get_or next user d ≡ get_or rows user d ++ one ∷ [] =
          subst (λ n. get_or next n d ≡ get_or rows n d ++ one ∷ []) same
          (with_one-here each.place one rows d before.0) in
          (λ i. own i ++ found_one subtree (none i)) ∙ append-nil (get_or rows user d ++ one ∷ [])
          ∙ (λ i. get_or rows user d ++ sym (one_listed each.answer apart.1) i)
      by_place false here =
          (λ i. with_one-other each.place user one rows d (λ same. eqb-false each.place user here (sym same)) i
          ++ found_one subtree (found_at others user))

  -- one of them after another
  pub enters_one : (found : List Found) (k : ℕ) (each : Found) (rows now next : List (List Found)) → k < length found
      → each ≡ get_or found k each → in_rows subtree (drop k found) now ≡ in_rows subtree found rows
      → next ≡ with_one each.place (record { place = subtree; answer = each.answer }) now
      → in_rows subtree (drop (k + 1) found) next ≡ in_rows subtree found rows
  enters_one found k each rows now next within at so_far is =
      let here : drop k found ≡ each ∷ drop (k + 1) found =
      drop-cons found k each within ∙ (λ j. sym at j ∷ drop (sym (add-one k) j) found) in
      ap (in_rows subtree (drop (k + 1) found)) is ∙ sym (ap (λ rest. in_rows subtree rest now) here) ∙ so_far

  pub enters_all : (found : List Found) (k : ℕ) (rows now : List (List Found)) → length found ≤ k
      → in_rows subtree (drop k found) now ≡ in_rows subtree found rows → now ≡ in_rows subtree found rows
  enters_all found k rows now all so_far = sym (ap (λ rest. in_rows subtree rest now) (drop_all k found all)) ∙ so_far

  pub enters_count : (place : ℕ) (found : Found) (rows now next : List (List Found)) → length now ≡ length rows
      → next ≡ with_one place found now → length next ≡ length rows
  enters_count place found rows now next count is = ap length is ∙ with_one-length place found now ∙ count

-- ---- one subtree after another

same_row : (found other : ℕ → Answer) (count : ℕ) → ((place : ℕ) → place < count → found place ≡ other place)
    → row_of found count ≡ row_of other count
same_row found other zero same = refl
same_row found other (suc count) same =
    (λ i. same_row found other count (λ place low. same place (omega (arith, low))) i ++ found_one count (same count (omega arith) i))

-- what is known of so many first subtrees is in the rows
pub record AreListedTo (st : State) (users : List Identity) (subtrees : List Names) (count : ℕ) (rows : List (List Found)) : Type 0 where
  pub found : ℕ → ℕ → Answer
  pub known : (place : ℕ) (d : Names) → place < count → AreKnown st users (get_or subtrees place d) (λ user. found user place)
  pub as_rows : AreRows (length users) count found rows

module _ (st : State) (users : List Identity) (subtrees : List Names) where
  pub listed_none : (rows : List (List Found)) → length rows ≡ length users → All (λ (row : List Found). row ≡ []) rows
      → AreListedTo st users subtrees 0 rows
  listed_none rows all empty = record {
    found = λ user subtree. Contained;
    known = λ place d low. let never : ⊥ = omega (arith, low) in absurd never;
    as_rows = record { all = all; each = λ user d within. empty user d (omega (arith, all, within)) };
  }

  module _ (count : ℕ) (rows : List (List Found)) (far : AreListedTo st users subtrees count rows) (subtree : Names) (column : List Found)
      (at : (d : Names) → get_or subtrees count d ≡ subtree) (known : AreKnown st users subtree (found_at column)) where
    abbrev after : ℕ → ℕ → Answer
    after user place = cond (nat_eq place count) (found_at column user) (far.found user place)

    after_before : (user place : ℕ) → place < count → after user place ≡ far.found user place
    after_before user place low =
        let other : nat_eq place count ≡ false = ne_eqb place count (λ same. omega (arith, low, same)) in
        (λ i. cond (other i) (found_at column user) (far.found user place))

    after_here : (user : ℕ) → after user count ≡ found_at column user
    after_here user = (λ i. cond (eq-eqb count count refl i) (found_at column user) (far.found user count))

    known_after : (place : ℕ) (d : Names) → place < suc count → (here : Bool) → nat_eq place count ≡ here
        → AreKnown st users (get_or subtrees place d) (λ user. after user place)
    known_after place d low true here =
        let same : place ≡ count = eqb-true place count here in
        let path : get_or subtrees place d ≡ subtree = (λ i. get_or subtrees (same i) d) ∙ at d in
        let all : (λ (user : ℕ). after user place) ≡ found_at column =
        (λ i user. cond (here i) (found_at column user) (far.found user place)) in
        subst (λ f. AreKnown st users (get_or subtrees place d) f) (sym all)
        (subst (λ p. AreKnown st users p (found_at column)) (sym path) known)
    known_after place d low false here =
        let differs = eqb-false place count here in
        let all : (λ (user : ℕ). after user place) ≡ (λ user. far.found user place) =
        (λ i user. cond (here i) (found_at column user) (far.found user place)) in
        subst (λ f. AreKnown st users (get_or subtrees place d) f) (sym all) (far.known place d (omega (arith, low, differs)))

    pub listed_more : (next : List (List Found)) → AreApart column → AreBefore (length users) column → next ≡ in_rows count column rows
        → AreListedTo st users subtrees (suc count) next
    listed_more next apart before is =
        let all : length rows ≡ length users = far.as_rows.all in
        record {
          found = after;
          known = λ place d low. known_after place d low (nat_eq place count) refl;
          as_rows = record {
            all = ap length is ∙ in_rows-length count column rows ∙ all;
            each =
                λ user d within.
                ap (λ (r : List (List Found)). get_or r user d) is
                ∙ in_rows-each count column rows user d apart (subst (λ n. AreBefore n column) (sym all) before)
                (omega (arith, all, within))
                ∙ (λ i. far.as_rows.each user d within i ++ found_one count (sym (after_here user) i))
                ∙ (λ i. same_row (far.found user) (after user) count (λ place low. sym (after_before user place low)) i
                ++ found_one count (after user count));
          };
        }

  pub listed_all : (count : ℕ) (rows : List (List Found)) → count ≡ length subtrees → AreListedTo st users subtrees count rows
      → AreListed st users subtrees rows
  listed_all count rows all far = record {
    found = far.found;
    known = λ place d within. far.known place d (omega (arith, all, within));
    as_rows = subst (λ n. AreRows (length users) n far.found rows) all far.as_rows;
  }
