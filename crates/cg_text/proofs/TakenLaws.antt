-- What a table says once one of its keys is taken out of it.
use Rattle.std.proofs.Common.{◌≡◌, ℕ, false, cond, List, [], ◌∷◌, map, unwrap_or, Option, None, Some, option_and_then, Ordering, Less, Equal, Greater, String, Vec, string_bytes, nat_cmp, is_eq, Global, refl, sym, ap, ◌∙◌}
use Rattle.std.proofs.lemmas.Bool.{true≢false}
use Rattle.std.proofs.lemmas.Cmp.{nat_list_cmp_total}
use Rattle.std.specs.Cmp.{alike_right, tied_back}
use Rattle.std.specs.Cmp.Lexicographic.{slice_cmp}
use Rattle.std.specs.Option.{option_map}
use Rattle.std.specs.Map.{lookup, remove_entry}
use Rattle.std.specs.BTreeMap.{is_at}
use Rattle.std.specs.Ordering.{match_ordering}
use Rattle.toml.specs.Data.{Data, Items, Members, get_member, as_array}
use Rattle.toml.specs.View.{view, array_view, members_view}
use Rattle.toml.specs.declared.value.Value.{Value}
use Rattle.toml.proofs.Views.{view-lookup}
use Rattle.cg_format.specs.Form.{elements}
use Rattle.cg_format.specs.Said.{elements_at}
use Rattle.cg_text.proofs.SaidLaws.{elements_view}

unlike : {A : Type 0} (o : Ordering) (rest here : A) → is_eq o ≡ false → match_ordering o rest here rest ≡ rest
unlike Less rest here not = refl
unlike Equal rest here not = absurd (true≢false not)
unlike Greater rest here not = refl

module _ (key other : List ℕ) (differ : is_eq (slice_cmp nat_cmp other key) ≡ false) where
  passed : (o : Ordering) (entry : String Global × Value) (rest others : List (String Global × Value))
      → o ≡ slice_cmp nat_cmp key (string_bytes entry.0) → get_member other (members_view others) ≡ get_member other (members_view rest)
      → get_member other (members_view (cond (is_eq o) rest (entry ∷ others))) ≡ get_member other (members_view (entry ∷ rest))
  passed Less entry rest others is same = rw same
  passed Equal entry rest others is same =
      sym (unlike (slice_cmp nat_cmp other (string_bytes entry.0)) (get_member other (members_view rest)) _
      (ap is_eq (alike_right nat_list_cmp_total (string_bytes entry.0) key other
      (tied_back nat_list_cmp_total key (string_bytes entry.0) (sym is))) ∙ differ))
  passed Greater entry rest others is same = rw same

  pub others_stay : (entries : List (String Global × Value))
      → get_member other (members_view (remove_entry (is_at (λ k. slice_cmp nat_cmp key (string_bytes k))) entries))
      ≡ get_member other (members_view entries)
  others_stay [] = refl
  others_stay (entry ∷ entries) = passed (slice_cmp nat_cmp key (string_bytes entry.0)) entry entries _ refl (others_stay entries)

-- ---- the elements of what is taken out

abbrev pub elements_in : Option Items → List Data
elements_in found = elim found [ None ↦ [] | Some items ↦ elements items ]

pub found_at : (key : List ℕ) (entries : List (String Global × Value)) (found : Option Value)
    → found ≡ lookup (is_at (λ k. slice_cmp nat_cmp key (string_bytes k))) entries
    → elements_at key (members_view entries) ≡ elements_in (option_and_then as_array (option_map view found))
found_at key entries found is =
    ap (λ held. elements_in (option_and_then as_array held)) (sym (view-lookup key entries) ∙ ap (option_map view) (sym is))

pub elements_of : (array : Option (Vec Value Global)) (empty : Vec Value Global) (found : Option Items)
    → option_map array_view array ≡ found → empty.items ≡ [] → map view (unwrap_or array empty).items ≡ elements_in found
elements_of None empty found is none = ap (map view) none ∙ ap elements_in is
elements_of (Some array) empty found is none = sym (elements_view array.items) ∙ ap elements_in is

pub elements_stay : (key : List ℕ) (these others : Members) → get_member key these ≡ get_member key others
    → elements_at key these ≡ elements_at key others
elements_stay key these others same = ap (λ held. elements_in (option_and_then as_array held)) same
