-- What is read at a key, where the table is in form.
use Rattle.std.proofs.Common.{◌≡◌, ℕ, pos, negsuc, Bool, true, false, cond, List, [], ◌∷◌, Option, Some, None, option_and_then, unwrap_or, refl, sym, ap, ◌∙◌, true≢false}
use Rattle.std.specs.Prelude.{nat_le, filter_map}
use Rattle.std.specs.Ordering.{match_ordering, is_eq, nat_cmp}
use Rattle.std.specs.declared.cmp.Ordering.{Ordering}
use Rattle.std.specs.declared.cmp.Ordering.TheVariants.{Less, Equal, Greater}
use Rattle.std.specs.Cmp.Lexicographic.{slice_cmp, texts_ties, bytes_decides}
use Rattle.std.specs.List.{list_all, list_any}
use Rattle.std.proofs.lemmas.Bool.{and_parts}
use Rattle.toml.specs.Data.{Data, string, integer, float, boolean, datetime, array, table, Items, no_items, item, Members, no_members, member, get_member, as_str, as_integer, as_array, as_table}
use Rattle.cg_cgroup.specs.Paths.{same_name}
use Rattle.cg_format.specs.Form.{Key, is_text, is_integer, are_texts, may_have, fits_at, are_among, is_table, elements}
use Rattle.cg_format.specs.Said.{number_or, passing, integer_at, table_at, texts_at}
use Rattle.machine_text.specs.Telling.{at_key, number_up_to, each_as, array_as}

-- ---- one key

abbrev read_at : {A : Type 0} → Option A → (Data → Option A) → Option Data → Option A
read_at missing read found = elim found [ None ↦ missing | Some held ↦ read held ]

-- a number in range
pub number_at : (usual most : ℕ) (name : List ℕ) (members : Members) → nat_le usual most ≡ true
    → fits_at members (may_have name is_integer) ≡ true
    → at_key (Some usual) (number_up_to most) name members
    ≡ passing (λ number. nat_le number most) (number_or usual (integer_at name members))
number_at usual most name members within fits = by_cases (get_member name members) fits
  where
    by_cases : (found : Option Data) → elim found [ None ↦ true | Some held ↦ is_integer held ] ≡ true
        → read_at (Some usual) (number_up_to most) found
        ≡ passing (λ number. nat_le number most) (number_or usual (option_and_then as_integer found))
    by_cases None is = sym (ap (λ b. cond b (Some usual) None) within)
    by_cases (Some (integer (pos number))) is = refl
    by_cases (Some (integer (negsuc number))) is = refl
    by_cases (Some (string text)) is = absurd (true≢false (sym is))
    by_cases (Some (float x)) is = absurd (true≢false (sym is))
    by_cases (Some (boolean b)) is = absurd (true≢false (sym is))
    by_cases (Some (datetime d)) is = absurd (true≢false (sym is))
    by_cases (Some (array items)) is = absurd (true≢false (sym is))
    by_cases (Some (table inside)) is = absurd (true≢false (sym is))

-- a table, empty where there is none
pub members_at : (keys : List Key) (name : List ℕ) (members : Members) → fits_at members (may_have name (is_table keys)) ≡ true
    → at_key (Some no_members) as_table name members ≡ Some (unwrap_or (table_at name members) no_members)
members_at keys name members fits = by_cases (get_member name members) fits
  where
    by_cases : (found : Option Data) → elim found [ None ↦ true | Some held ↦ is_table keys held ] ≡ true
        → read_at (Some no_members) as_table found ≡ Some (unwrap_or (option_and_then as_table found) no_members)
    by_cases None is = refl
    by_cases (Some (table inside)) is = refl
    by_cases (Some (integer number)) is = absurd (true≢false (sym is))
    by_cases (Some (string text)) is = absurd (true≢false (sym is))
    by_cases (Some (float x)) is = absurd (true≢false (sym is))
    by_cases (Some (boolean b)) is = absurd (true≢false (sym is))
    by_cases (Some (datetime d)) is = absurd (true≢false (sym is))
    by_cases (Some (array items)) is = absurd (true≢false (sym is))

-- and that table is one with these keys
pub inside_fits : (keys : List Key) (name : List ℕ) (members : Members) → fits_at members (may_have name (is_table keys)) ≡ true
    → is_table keys (table no_members) ≡ true → is_table keys (table (unwrap_or (table_at name members) no_members)) ≡ true
inside_fits keys name members fits nothing = by_cases (get_member name members) fits
  where
    by_cases : (found : Option Data) → elim found [ None ↦ true | Some held ↦ is_table keys held ] ≡ true
        → is_table keys (table (unwrap_or (option_and_then as_table found) no_members)) ≡ true
    by_cases None is = nothing
    by_cases (Some (table inside)) is = is
    by_cases (Some (integer number)) is = absurd (true≢false (sym is))
    by_cases (Some (string text)) is = absurd (true≢false (sym is))
    by_cases (Some (float x)) is = absurd (true≢false (sym is))
    by_cases (Some (boolean b)) is = absurd (true≢false (sym is))
    by_cases (Some (datetime d)) is = absurd (true≢false (sym is))
    by_cases (Some (array items)) is = absurd (true≢false (sym is))

-- ---- arrays

pub texts_as : (items : Items) → list_all is_text (elements items) ≡ true → each_as as_str items ≡ Some (filter_map as_str (elements items))
texts_as no_items fit = refl
texts_as (item (string text) rest) fit =
    ap (option_and_then (λ (others : List (List ℕ)). Some (text ∷ others))) (texts_as rest fit)
texts_as (item held rest) fit = absurd (true≢false (sym fit))

-- an array of texts, empty where there is none
pub texts_are : (name : List ℕ) (members : Members) → fits_at members (may_have name are_texts) ≡ true
    → at_key (Some []) (array_as as_str) name members ≡ Some (texts_at name members)
texts_are name members fits = by_cases (get_member name members) fits
  where
    by_cases : (found : Option Data) → elim found [ None ↦ true | Some held ↦ are_texts held ] ≡ true
        → read_at (Some []) (array_as as_str) found
        ≡ Some (filter_map as_str (elim (option_and_then as_array found) [ None ↦ [] | Some items ↦ elements items ]))
    by_cases None is = refl
    by_cases (Some (array items)) is = texts_as items is
    by_cases (Some (table inside)) is = absurd (true≢false (sym is))
    by_cases (Some (integer number)) is = absurd (true≢false (sym is))
    by_cases (Some (string text)) is = absurd (true≢false (sym is))
    by_cases (Some (float x)) is = absurd (true≢false (sym is))
    by_cases (Some (boolean b)) is = absurd (true≢false (sym is))
    by_cases (Some (datetime d)) is = absurd (true≢false (sym is))

-- ---- keys that a table doesn't have

tied : (o : Ordering) (b : Bool) (found : Option Data) (held : Data) → b ≡ is_eq o → match_ordering o found (Some held) found
    ≡ cond b (Some held) found
tied Less b found held is = ap (λ b. cond b (Some held) found) (sym is)
tied Equal b found held is = ap (λ b. cond b (Some held) found) (sym is)
tied Greater b found held is = ap (λ b. cond b (Some held) found) (sym is)

pub absent_at : (keys : List Key) (name : List ℕ) (members : Members) → list_any (λ key. same_name name key.name) keys ≡ false
    → are_among keys members ≡ true → get_member name members ≡ None
absent_at keys name no_members foreign among = refl
absent_at keys name (member other held rest) foreign among =
    let parts = and_parts (list_any (λ key. same_name other key.name) keys) (are_among keys rest) among in
    tied (slice_cmp nat_cmp name other) (same_name name other) (get_member name rest) held (texts_ties name other)
    ∙ elim (same_name name other) as (λ b. same_name name other ≡ b → cond b (Some held) (get_member name rest) ≡ None) [
      | true ↦ λ same.
          let one : name ≡ other = (bytes_decides name other).0 same in
          absurd (true≢false (sym parts.0 ∙ ap (λ text. list_any (λ key. same_name text key.name) keys) (sym one) ∙ foreign))
      | false ↦ λ _. absent_at keys name rest foreign parts.1
    ] refl
