-- The words that name users, and users with subtrees. Own.
use Rattle.std.specs.Prelude.{ℕ, ◌^◌, Bool, ◌==◌, ◌&&◌, nat_lt, cond, List, [], ◌∷◌, length, Option, Some, None, option_and_then}
use Rattle.std.specs.Option.{option_map}
use Rattle.std.specs.List.{position_or_len, before_first, after_first, slice_split}
use Rattle.std.specs.Str.{all_ascii_digits}
use Rattle.std.specs.Str.Parse.{digits_value}

abbrev pub is_comma : ℕ → Bool
is_comma b = b == 44

abbrev pub is_colon : ℕ → Bool
is_colon b = b == 58

abbrev pub is_equals : ℕ → Bool
is_equals b = b == 61

abbrev pub is_space : ℕ → Bool
is_space b = b == 32

-- what is before the first byte of a kind, and what is behind it
abbrev pub cut_at : (ℕ → Bool) → List ℕ → Option (List ℕ × List ℕ)
cut_at test text = cond (nat_lt (position_or_len test text) (length text)) (Some (before_first test text, after_first test text)) None

-- A uid or a gid: decimal digits, one or more, that write a number of 32 bits.
abbrev pub is_id : List ℕ → Bool
is_id word = all_ascii_digits word && nat_lt 0 (length word) && nat_lt (digits_value 10 word) (2 ^ 32)

unfoldable pub id_at : List ℕ → Option ℕ
id_at word = cond (is_id word) (Some (digits_value 10 word)) None

-- what words say, each read by itself: all of it, or nothing where one can't be read
abbrev pub all_read : {A : Type 0} → (List ℕ → Option A) → List (List ℕ) → Option (List A)
all_read read [] = Some []
all_read read (word ∷ words) = option_and_then (λ x. option_map (λ others. x ∷ others) (all_read read words)) (read word)

-- ids, a word each
abbrev pub ids_at : List (List ℕ) → Option (List ℕ)
ids_at words = all_read id_at words

-- a uid, and gids between which commas stand
abbrev pub user_with : List ℕ × List ℕ → Option (ℕ × List ℕ)
user_with parts = option_and_then (λ uid. option_map (λ gids. (uid, gids)) (ids_at (slice_split is_comma parts.1))) (id_at parts.0)

-- a uid, and no gids
abbrev pub user_alone : List ℕ → Option (ℕ × List ℕ)
user_alone word = option_map (λ uid. (uid, [])) (id_at word)

-- A user is UID, or UID:GID,GID..
abbrev pub user_at : List ℕ → Option (ℕ × List ℕ)
user_at word = elim (cut_at is_colon word) [ None ↦ user_alone word | Some parts ↦ user_with parts ]

-- A user, a space, and what names a subtree, which isn't looked into.
abbrev pub pair_at : List ℕ → Option ((ℕ × List ℕ) × List ℕ)
pair_at words = option_and_then (λ parts. option_map (λ user. (user, parts.1)) (user_at parts.0)) (cut_at is_space words)

-- members between whom commas stand, or nobody
abbrev pub members_at : List ℕ → Option (List ℕ)
members_at [] = Some []
members_at (byte ∷ bytes) = ids_at (slice_split is_comma (byte ∷ bytes))

abbrev pub group_with : List ℕ × List ℕ → Option (ℕ × List ℕ)
group_with parts = option_and_then (λ gid. option_map (λ uids. (gid, uids)) (members_at parts.1)) (id_at parts.0)

-- A group and who may be a member is GID=UID,UID.., or GID= where nobody is.
abbrev pub group_at : List ℕ → Option (ℕ × List ℕ)
group_at word = option_and_then group_with (cut_at is_equals word)
