-- What a table has, once a value is put at a key.
use Rattle.std.proofs.Common.{◌≡◌, ℕ, ◌≤◌, Bool, true, false, cond, List, [], ◌∷◌, Option, Some, None, String, Global, Ordering, Less, Equal, Greater, string_bytes, nat_cmp, is_eq, refl, sym, ap, ◌∙◌, arith}
use Rattle.std.specs.Prelude.{◌&&◌}
use Rattle.std.specs.Cmp.Lexicographic.{slice_cmp}
use Rattle.std.proofs.lemmas.Cmp.{nat_list_cmp_total}
use Rattle.std.proofs.lemmas.Bool.{and_from, and_parts}
use Rattle.std.specs.FinMap.{nat_cmp-IsAntisymmetric, slice_cmp-IsAntisymmetric}
use Rattle.std.specs.String.{string_cmp}
use Rattle.std.specs.Ordering.{match_ordering, ordering_reverse}
use Rattle.std.specs.BTreeMap.{insert_entry}
use Rattle.toml.specs.Data.{Data, Members, no_members, member, get_member, depth, members_depth}
use Rattle.toml.specs.View.{view, members_view}
use Rattle.toml.proofs.Views.{Entry}
use Rattle.toml.specs.declared.value.Value.{Value}
use Rattle.cg_print.specs.Keys.{with_key, with_optional}

-- ---- in the map that holds a table

match_members : (o : Ordering) (a b c : List Entry)
    → members_view (match_ordering o a b c) ≡ match_ordering o (members_view a) (members_view b) (members_view c)
match_members Less a b c = refl
match_members Equal a b c = refl
match_members Greater a b c = refl

pub members_view-insert : (es : List Entry) (k : String Global) (v : Value)
    → members_view (insert_entry string_cmp es k v) ≡ with_key (string_bytes k) (view v) (members_view es)
unfolding with_key
members_view-insert [] k v = refl
members_view-insert (e ∷ es) k v = match_members (string_cmp k e.0) _ _ _ ∙ rw (members_view-insert es k v)

-- ---- how deep a table is

pub depth-with_key : (n : ℕ) (key : List ℕ) (held : Data) (keys : Members) → depth held ≤ n → members_depth keys ≤ n
    → members_depth (with_key key held keys) ≤ n
unfolding with_key
depth-with_key n key held no_members value rest = omega arith
depth-with_key n key held (member other was keys) value rest =
    let later : members_depth (with_key key held keys) ≤ n = depth-with_key n key held keys value (omega arith) in
    elim (slice_cmp nat_cmp key other) as (λ o. members_depth
    (match_ordering o (member key held (member other was keys)) (member other held keys) (member other was (with_key key held keys))) ≤
    n) [
      | Less ↦ omega arith
      | Equal ↦ omega arith
      | Greater ↦ omega arith
    ]

-- ---- which keys a table has

-- a test of a table that asks each key
pub record AsksEach (test : List ℕ → Bool) (only : Members → Bool) : Type 0 where
  pub none : only no_members ≡ true
  pub one : (key : List ℕ) (held : Data) (keys : Members) → only (member key held keys) ≡ (test key && only keys)

module _ (test : List ℕ → Bool) (only : Members → Bool) (asks : AsksEach test only) where
  pub only-with_key : (key : List ℕ) (held : Data) (keys : Members) → test key ≡ true → only keys ≡ true
      → only (with_key key held keys) ≡ true
  unfolding with_key
  only-with_key key held no_members is all = asks.one key held no_members ∙ and_from (test key) (only no_members) is all
  only-with_key key held (member other was keys) is all =
      let parts = and_parts (test other) (only keys) (sym (asks.one other was keys) ∙ all) in
      let later : only (with_key key held keys) ≡ true = only-with_key key held keys is parts.1 in
      elim (slice_cmp nat_cmp key other) as (λ o. only
      (match_ordering o (member key held (member other was keys)) (member other held keys) (member other was (with_key key held keys)))
      ≡ true) [
        | Less ↦ asks.one key held (member other was keys) ∙ and_from (test key) (only (member other was keys)) is all
        | Equal ↦ asks.one other held keys ∙ and_from (test other) (only keys) parts.0 parts.1
        | Greater ↦ asks.one other was (with_key key held keys) ∙ and_from (test other) (only (with_key key held keys)) parts.0 later
      ]

  pub only-with_optional : (key : List ℕ) (found : Option Data) (keys : Members) → test key ≡ true → only keys ≡ true
      → only (with_optional key found keys) ≡ true
  unfolding with_optional
  only-with_optional key None keys is all = all
  only-with_optional key (Some held) keys is all = only-with_key key held keys is all

-- ---- what stands at a key

-- the first of two options
abbrev pub or_so : Option Data → Option Data → Option Data
or_so None other = other
or_so (Some held) other = Some held

pub or_none : (found : Option Data) → or_so found None ≡ found
or_none None = refl
or_none (Some held) = refl

-- what stands at q, once something was put at a key
abbrev pub look : List ℕ → List ℕ → Option Data → Option Data → Option Data
look q key found rest = cond (is_eq (slice_cmp nat_cmp q key)) (or_so found rest) rest

same_text : (x y : List ℕ) → slice_cmp nat_cmp x y ≡ Equal → x ≡ y
same_text = slice_cmp-IsAntisymmetric nat_cmp-IsAntisymmetric

found_as : (o : Ordering) (found other : Option Data) → match_ordering o other found other ≡ cond (is_eq o) found other
found_as Less found other = refl
found_as Equal found other = refl
found_as Greater found other = refl

put_over : (o : Ordering) (new old other : Option Data)
    → match_ordering o other new other ≡ cond (is_eq o) new (match_ordering o other old other)
put_over Less new old other = refl
put_over Equal new old other = refl
put_over Greater new old other = refl

-- a look-up past a key that isn't the one that was put
past : (q key other : List ℕ) → slice_cmp nat_cmp key other ≡ Greater → (held was : Data) (rest new : Option Data)
    → new ≡ cond (is_eq (slice_cmp nat_cmp q key)) (Some held) rest
    → (o : Ordering) → slice_cmp nat_cmp q other ≡ o
    → match_ordering o new (Some was) new ≡ cond (is_eq (slice_cmp nat_cmp q key)) (Some held) (match_ordering o rest (Some was) rest)
past q key other after held was rest new is Less ties = is
past q key other after held was rest new is Equal ties =
    let apart : slice_cmp nat_cmp q key ≡ Less =
    ap (λ (x : List ℕ). slice_cmp nat_cmp x key) (same_text q other ties) ∙ nat_list_cmp_total.antisymm other key
    ∙ ap ordering_reverse after in
    sym (ap (λ o. cond (is_eq o) (Some held) (Some was)) apart)
past q key other after held was rest new is Greater ties = is

pub get-with_key : (q key : List ℕ) (held : Data) (keys : Members)
    → get_member q (with_key key held keys) ≡ cond (is_eq (slice_cmp nat_cmp q key)) (Some held) (get_member q keys)
unfolding with_key
get-with_key q key held no_members = found_as (slice_cmp nat_cmp q key) (Some held) None
get-with_key q key held (member other was keys) =
    let later : get_member q (with_key key held keys) ≡ cond (is_eq (slice_cmp nat_cmp q key)) (Some held) (get_member q keys) =
    get-with_key q key held keys in
    elim (slice_cmp nat_cmp key other) as (λ o. slice_cmp nat_cmp key other ≡ o
    → get_member q
    (match_ordering o (member key held (member other was keys)) (member other held keys) (member other was (with_key key held keys)))
    ≡ cond (is_eq (slice_cmp nat_cmp q key)) (Some held) (get_member q (member other was keys))) [
      | Less ↦ λ _. found_as (slice_cmp nat_cmp q key) (Some held) (get_member q (member other was keys))
      | Equal ↦ λ ties.
          put_over (slice_cmp nat_cmp q other) (Some held) (Some was) (get_member q keys)
          ∙ ap (λ (x : List ℕ). cond (is_eq (slice_cmp nat_cmp q x)) (Some held) (get_member q (member other was keys)))
          (sym (same_text key other ties))
      | Greater ↦
          λ after.
          past q key other after held was (get_member q keys) (get_member q (with_key key held keys)) later (slice_cmp nat_cmp q other) refl
    ] refl

pub get-with_optional : (q key : List ℕ) (found : Option Data) (keys : Members)
    → get_member q (with_optional key found keys) ≡ look q key found (get_member q keys)
unfolding with_optional
get-with_optional q key None keys = same_either (is_eq (slice_cmp nat_cmp q key)) (get_member q keys)
  where
    same_either : (b : Bool) (rest : Option Data) → rest ≡ cond b rest rest
    same_either true rest = refl
    same_either false rest = refl
get-with_optional q key (Some held) keys = get-with_key q key held keys
