use Rattle.std.proofs.Common.{◌≡◌, IfSome, take, length, ℕ, ◌+◌, ◌-◌, Bool, true, false, cond, List, ◌++◌, Option, Some, None, sym, ap, ◌∙◌, subst, arith}
use Rattle.std.proofs.Math.Seq.{take-append_seam, take-append-add, take-length}
use Rattle.std.specs.Option.{option_map}
use Rattle.std.specs.Io.KnownBytes.{Consumes}
use Rattle.cg_format.specs.TreeTexts.{most_read, longest_text, says_large}
use Rattle.cg_input.proofs.read.read_tree_input.Goals as goal

-- how much is read of a text, by whether it says that it is large
abbrev most_by : Bool → ℕ
most_by is_large = cond is_large 67108864 16777216 + 1

holds_beginning : (is_large : Bool) → 128 + (most_by is_large - 128) ≡ most_by is_large
holds_beginning true = omega arith
holds_beginning false = omega arith

-- a text begins as its first 128 bytes do
begins_as : (front rest : List ℕ) → length front ≡ 128 → take 128 (front ++ rest) ≡ take 128 front
begins_as front rest whole =
    let alone = sym (take-length front) ∙ ap (λ n. take n front) whole in
    ap (λ n. take n (front ++ rest)) (sym whole) ∙ take-append_seam front rest ∙ alone

-- the first 128 bytes of a text, and of the rest as much as is read of a text that begins so
read_on : (front rest : List ℕ) → length front ≡ 128
    → front ++ take (most_read front - 128) rest ≡ take (most_read (front ++ rest)) (front ++ rest)
read_on front rest whole =
    let more = most_read front - 128 in
    let same = ap (λ l. most_by (says_large l)) (sym (begins_as front rest whole)) in
    let most : length front + more ≡ most_read (front ++ rest) =
    ap (λ n. n + more) whole ∙ holds_beginning (says_large (take 128 front)) ∙ same in
    sym (take-append-add front rest more) ∙ ap (λ n. take n (front ++ rest)) most

-- what was added to the beginning is as much of the known bytes as is to be read
front_read : (known left : Option (List ℕ)) (front new : List ℕ) (limit : ℕ) → length front ≡ 128
    → Consumes known left front → limit ≡ most_read front - 128
    → IfSome (option_map (take limit) left) (λ xs. new ≡ front ++ xs) → IfSome known (λ bytes. new ≡ take (most_read bytes) bytes)
front_read None left front new limit whole begun at_limit read = tt
front_read (Some bytes) None front new limit whole begun at_limit read = absurd begun
front_read (Some bytes) (Some rest) front new limit whole begun at_limit read =
    let joined = read ∙ ap (λ n. front ++ take n rest) at_limit ∙ read_on front rest whole in
    subst (λ l. new ≡ take (most_read l) l) (sym begun) joined

pub returns : goal.returns
returns g c =
    let text = c.in_ok-text.text.items in
    let known = g.R.Read.remaining c.args.reader in
    let left = g.R.Read.remaining c.take.result.inner.inner in
    let whole : length text ≡ 128 = omega (arith, c.in_ok-text.ensures.bound, c.if-len-lt-BEGINNING.false, c.len.ensures) in
    let begun : Consumes known left text =
    subst (λ reader. Consumes known (g.R.Read.remaining reader.inner) text) (sym c.take.ensures.inner) c.in_ok-text.ensures.bytes in
    let at_limit : c.take.result.limit ≡ most_read text - 128 =
    c.take.ensures.limit ∙ ap (λ n. n + 1 - 128) (c.longest_text-most.ensures ∙ ap longest_text c.as_slice.ensures.value) in
    let new = c.read_to_end.new.buf.items in
    front_read known left text new c.take.result.limit whole begun at_limit c.in_ok-read_to_end.ensures.bytes
