-- The first fault of rows in turn, as a loop over them finds it.
use Rattle.std.proofs.Common.{◌≡◌, ℕ, Bool, false, ◌+◌, ◌<◌, ◌≤◌, true, List, [], ◌∷◌, ◌++◌, length, get_or, take, drop, map, Some, None, is_some, unwrap_or, refl, sym, ap, ◌∙◌, arith}
use Rattle.std.specs.Prelude.{filter_map}
use Rattle.std.specs.Option.{option_or}
use Rattle.std.specs.List.{list_all, cons_option}
use Rattle.std.proofs.lemmas.Bool.{and_parts, true≢false, true_from_ne_false}
use Rattle.std.proofs.lemmas.List.Folds.{list_all_at}
use Rattle.std.proofs.lemmas.List.{drop_more, take_more, take_all, drop_all, length-map, get_or-map}
use Rattle.cg_cgroup.proofs.Options.{some_value}
use Rattle.cg_format.specs.Form.{Key, is_table}
use Rattle.cg_format.specs.TextFaults.{each}
use Rattle.toml.specs.Data.{Data, Members, no_members, as_table}
use Rattle.toml.specs.View.{view}
use Rattle.toml.specs.declared.value.Value.{Value}
use Rattle.cg_model.specs.Clauses.{first, unless}
use Rattle.cg_model.proofs.ClauseLaws.{first_none, first_some}
use Rattle.cg_format.specs.declared.fault.Place.{Place}
use Rattle.cg_format.specs.declared.fault.TreeFault.{TreeFault}
use Rattle.cg_format.specs.declared.fault.TreeFault.TheVariants.{Shape}

-- ---- clauses, one after another

pub first_or : {A : Type 0} (one other : List A) → first (one ++ other) ≡ option_or (first one) (first other)
first_or [] other = refl
first_or (fault ∷ one) other = refl

-- ---- a loop over rows

-- The first i rows have no fault: the first fault of all is that of the others, which have the numbers from i + 1 on.
pub record HavePassed {A : Type 0} (clauses : List A → Place → A → List TreeFault) (place : ℕ → Place) (rows : List A) (i : ℕ) : Type 0
  where
    pub left : first (each clauses place 1 [] rows) ≡ first (each clauses place (i + 1) (take i rows) (drop i rows))

pub none_passed : {A : Type 0} (clauses : List A → Place → A → List TreeFault) (place : ℕ → Place) (rows : List A)
    → HavePassed clauses place rows 0
none_passed clauses place rows = record { left = refl }

-- rows that are seen of elements
module _ {Y A : Type 0} (clauses : List A → Place → A → List TreeFault) (place : ℕ → Place) (see : Y → A) (elements : List Y)
    (rows : List A) (are : rows ≡ map see elements) where
  count : length rows ≡ length elements
  count = ap length are ∙ length-map elements see

  -- behind the last
  module _ (i : ℕ) (past : length elements ≤ i) where
    pub end_passed : HavePassed clauses place rows i → first (each clauses place 1 [] rows) ≡ None
    end_passed passed =
        passed.left ∙ ap (λ left. first (each clauses place (i + 1) (take i rows) left)) (drop_all i rows (omega (arith, count)))

    pub end_taken : take i rows ≡ rows
    end_taken = take_all i rows (omega (arith, count))

  -- at the next
  module _ (i : ℕ) (element : Y) (row : A) (below : i < length elements) (is : element ≡ get_or elements i element)
      (seen : see element ≡ row) where
    inside : i < length rows
    inside = omega (arith, count)

    there : get_or rows i row ≡ row
    there = ap (λ some. get_or some i row) are ∙ get_or-map see elements i element row below ∙ ap see (sym is) ∙ seen

    pub next_taken : take (i + 1) rows ≡ take i rows ++ row ∷ []
    next_taken = take_more rows i row inside ∙ ap (λ x. take i rows ++ x ∷ []) there

    module _ (number : ℕ) (counted : number ≡ i + 1) (passed : HavePassed clauses place rows i) where
      abbrev here : List TreeFault
      here = clauses (take i rows) (place number) row

      abbrev later : List TreeFault
      later = each clauses place (i + 1 + 1) (take (i + 1) rows) (drop (i + 1) rows)

      at_row : first (each clauses place 1 [] rows) ≡ first (here ++ later)
      at_row =
          passed.left
          ∙ ap (λ left. first (each clauses place (i + 1) (take i rows) left)) (drop_more rows i row inside
          ∙ ap (λ x. x ∷ drop (i + 1) rows) there)
          ∙ (λ j. first (clauses (take i rows) (place (sym counted j)) row
          ++ each clauses place (i + 1 + 1) (sym next_taken j) (drop (i + 1) rows)))

      -- it has no fault
      pub next_passed : first here ≡ None → HavePassed clauses place rows (i + 1)
      next_passed none = record { left = at_row ∙ first_none here later none }

      -- it is the first that has one
      pub next_found : (fault : TreeFault) → first here ≡ Some fault → first (each clauses place 1 [] rows) ≡ Some fault
      next_found fault found = at_row ∙ first_some here later fault found

-- ---- elements that are tables with these keys

module _ (keys : List Key) (place : ℕ → Place) (elements : List Value) where
  abbrev shape : List Data → Place → Data → List TreeFault
  shape _ here held = unless (is_table keys held) (Shape here)

  abbrev pub AreShaped : ℕ → Type 0
  AreShaped i = HavePassed shape place (map view elements) i

  module _ (i : ℕ) (element : Value) (passed : AreShaped i) (below : i < length elements) (is : element ≡ get_or elements i element)
      (fits : Bool) (told : fits ≡ is_table keys (view element)) where
    pub more_shaped : fits ≡ true → AreShaped (i + 1)
    more_shaped fit =
        next_passed shape place view elements (map view elements) refl i element (view element) below is refl (i + 1) refl passed
        (ap (λ b. first (unless b (Shape (place (i + 1))))) (sym told ∙ fit))

    pub misshapen : (number : ℕ) → number ≡ i + 1 → fits ≡ false
        → first (each shape place 1 [] (map view elements)) ≡ Some (Shape (place number))
    misshapen number counted unfit =
        next_found shape place view elements (map view elements) refl i element (view element) below is refl number counted passed
        (Shape (place number)) (ap (λ b. first (unless b (Shape (place number)))) (sym told ∙ unfit))

  pub all_shaped : (i : ℕ) → AreShaped i → length elements ≤ i → first (each shape place 1 [] (map view elements)) ≡ None
  all_shaped i passed past = end_passed shape place view elements (map view elements) refl i past passed

-- ---- the tables of elements

-- the table that stands at an index, and the number of its row
pub record IsNextTable (elements : List Value) (i : ℕ) (table : Members) (number : ℕ) : Type 0 where
  pub element : Value
  pub within : i < length elements
  pub there : element ≡ get_or elements i element
  pub held : Some table ≡ as_table (view element)
  pub counted : number ≡ i + 1

abbrev table_seen : Value → Members
table_seen element = unwrap_or (as_table (view element)) no_members

tables_seen : (elements : List Value) → list_all (λ held. is_some (as_table (view held))) elements ≡ true
    → filter_map as_table (map view elements) ≡ map table_seen elements
tables_seen [] are = refl
tables_seen (element ∷ elements) are =
    let parts = and_parts (is_some (as_table (view element))) _ are in
    let here = some_value (as_table (view element)) parts.0 in
    (λ i. cons_option (here.1 i) (tables_seen elements parts.1 i))
    ∙ ap (λ o. unwrap_or o no_members ∷ map table_seen elements) (sym here.1)

pub tables_counted : (elements : List Value) → list_all (λ held. is_some (as_table (view held))) elements ≡ true
    → length (filter_map as_table (map view elements)) ≡ length elements
tables_counted elements are = ap length (tables_seen elements are) ∙ length-map elements table_seen

module _ (clauses : List Members → Place → Members → List TreeFault) (place : ℕ → Place) (elements : List Value)
    (are : list_all (λ held. is_some (as_table (view held))) elements ≡ true) where
  abbrev pub tables_of : List Members
  tables_of = filter_map as_table (map view elements)

  -- the table that an element is
  pub table_at : (i : ℕ) (element : Value) → i < length elements → element ≡ get_or elements i element
      → (table : Members) × (Some table ≡ as_table (view element))
  table_at i element within there =
      let is : Value → Bool = λ held. is_some (as_table (view held)) in
      let so = true_from_ne_false (is (get_or elements i element))
      (λ no. true≢false (sym are ∙ list_all_at is elements i element within no)) in
      let some = some_value (as_table (view element)) (ap is there ∙ so) in
      (some.0, sym some.1)

  module _ (i : ℕ) (table : Members) (number : ℕ) (next : IsNextTable elements i table number) where
    seen : table_seen next.element ≡ table
    seen = ap (λ o. unwrap_or o no_members) (sym next.held)

    pub table_taken : take (i + 1) tables_of ≡ take i tables_of ++ table ∷ []
    table_taken =
        next_taken clauses place table_seen elements tables_of (tables_seen elements are) i next.element table next.within next.there seen

    pub table_passed : HavePassed clauses place tables_of i → first (clauses (take i tables_of) (place number) table) ≡ None
        → HavePassed clauses place tables_of (i + 1)
    table_passed passed none =
        next_passed clauses place table_seen elements tables_of (tables_seen elements are) i next.element table next.within next.there seen
        number next.counted passed none

    pub table_found : HavePassed clauses place tables_of i → (fault : TreeFault)
        → first (clauses (take i tables_of) (place number) table) ≡ Some fault → first (each clauses place 1 [] tables_of) ≡ Some fault
    table_found passed fault found =
        next_found clauses place table_seen elements tables_of (tables_seen elements are) i next.element table next.within next.there seen
        number next.counted passed fault found

  module _ (i : ℕ) (past : length elements ≤ i) where
    pub tables_passed : HavePassed clauses place tables_of i → first (each clauses place 1 [] tables_of) ≡ None
    tables_passed passed = end_passed clauses place table_seen elements tables_of (tables_seen elements are) i past passed

    pub tables_taken : take i tables_of ≡ tables_of
    tables_taken = end_taken clauses place table_seen elements tables_of (tables_seen elements are) i past
