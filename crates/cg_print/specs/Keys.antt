-- Tables of a document, key by key. Own.
use Rattle.std.specs.Prelude.{ℕ, List, Option, Some, None}
use Rattle.std.specs.Ordering.{nat_cmp, match_ordering}
use Rattle.std.specs.Cmp.Lexicographic.{slice_cmp}
use Rattle.toml.specs.Data.{Data, Members, no_members, member}

-- a table with a value at a key: its keys stand in the order of their bytes
unfoldable pub with_key : List ℕ → Data → Members → Members
with_key key held no_members = member key held no_members
with_key key held (member other was rest) =
    match_ordering (slice_cmp nat_cmp key other) (member key held (member other was rest)) (member other held rest) (member other was (with_key key held rest))

-- a table with a value at a key, where there is one
unfoldable pub with_optional : List ℕ → Option Data → Members → Members
with_optional key None keys = keys
with_optional key (Some held) keys = with_key key held keys
