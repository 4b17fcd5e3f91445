use Rattle.std.proofs.Common.{◌≡◌, IfSome, take, ℕ, List, [], ◌++◌, Option, Some, None, subst, ap, ◌∙◌}
use Rattle.std.specs.Option.{option_map}
use Rattle.streams.proofs.read.read_input.Goals as goal

-- what was added to nothing is the front of the known bytes
front_read : (known : Option (List ℕ)) (limit n : ℕ) (old new : List ℕ) → n ≡ limit → old ≡ []
    → IfSome (option_map (take n) known) (λ xs. new ≡ old ++ xs) → IfSome known (λ bytes. new ≡ take limit bytes)
front_read None limit n old new at_limit empty read = tt
front_read (Some bytes) limit n old new at_limit empty read =
    read ∙ ap (λ l. l ++ take n bytes) empty ∙ ap (λ m. take m bytes) at_limit

pub returns : goal.returns
returns g c =
    let text = c.read_to_end.new.buf.items in
    let front : IfSome (g.R.Read.remaining c.take.result.inner) (λ bytes. text ≡ take 16777217 bytes) =
    front_read (g.R.Read.remaining c.take.result.inner) 16777217 c.take.result.limit c.new-text.result.items text
    c.take.ensures.limit c.new-text.ensures.items c.in_ok-read_to_end.ensures.bytes in
    subst (λ reader. IfSome (g.R.Read.remaining reader) (λ bytes. text ≡ take 16777217 bytes)) c.take.ensures.inner front
