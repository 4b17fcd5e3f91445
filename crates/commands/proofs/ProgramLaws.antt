-- How the program ends, by what its parts came to.
use Rattle.std.specs.Prelude.{Option, Some, None, MatchOption}

pub on_writer : {W : Type 0} (out : Option W) (none : Type 0) (P Q : W → Type 0) → ((below : W) → P below → Q below)
    → MatchOption out none P → MatchOption out none Q
on_writer None none P Q further h = h
on_writer (Some below) none P Q further h = further below h
