use Rattle.std.proofs.Common.{arith, ◌≡◌, ◌<◌, ◌≤◌, ℕ, List, map, sym, ap, subst, ◌∙◌}
use Rattle.std.specs.Prelude.{All, Contains, Option, Some, None, string_bytes}
use Rattle.std.specs.Borrow.{Bor}
use Rattle.std.specs.Option.{option_map}
use Rattle.std.proofs.lemmas.List.{length-map, get_or-map}
use Rattle.std.proofs.lemmas.List.Elements.{All-map}
use Rattle.text_places.specs.Nearest.{farthest, distance, IsNearest}
use Rattle.text_places.proofs.near.Missing.among.Goals.{in-Some+in_ok-from_str-in-Some, in-None}
use Rattle.text_places.proofs.near.Missing.among.Goals as goal

abbrev texts : List (Bor (List ℕ)) → List (List ℕ)
texts names = map (λ other. other.now) names

contains_text : (names : List (Bor (List ℕ))) (name : Bor (List ℕ)) → Contains names name → Contains (texts names) name.now
contains_text names name at = (
  at.0,
  grind (arith, length-map, at.1),
  get_or-map (λ other. other.now) names at.0 name name.now at.1 ∙ ap (λ other. other.now) at.2,
)

is_nearest : (written : List ℕ) (names : List (Bor (List ℕ))) (near : Bor (List ℕ)) (said : Option (List ℕ)) → said ≡ Some near.now
    → Contains names near → distance written near.now ≤ farthest written
    → All (λ other. distance written near.now ≤ distance written other.now) names → IsNearest written (texts names) said
is_nearest written names near said is one close nearest =
    subst (IsNearest written (texts names)) (sym is) (
      contains_text names near one,
      close,
      All-map (λ other. distance written near.now ≤ distance written other) (λ other. other.now) names nearest,
    )

none_near : (written : List ℕ) (names : List (Bor (List ℕ))) (said : Option (List ℕ)) → said ≡ None
    → All (λ other. farthest written < distance written other.now) names → IsNearest written (texts names) said
none_near written names said is far =
    subst (IsNearest written (texts names)) (sym is)
    (All-map (λ other. farthest written < distance written other) (λ other. other.now) names far)

pub returns : goal.returns
returns c = (
  c.in_ok-from_str.ensures.ok,
  elim c.match-branch-2.branch [
    | in-Some+in_ok-from_str-in-Some w ↦ is_nearest c.args.name.now c.args.names.now w.in-Some.near _
        (ap (option_map string_bytes) w.nearest-is ∙ ap Some w.in_ok-from_str-in-Some.ensures.ok)
        (rw w.in-Some.is at c.in_ok-near.ensures.one) (rw w.in-Some.is at c.in_ok-near.ensures.near)
        (rw w.in-Some.is at c.in_ok-near.ensures.nearest)
    | in-None w ↦ none_near c.args.name.now c.args.names.now _ (ap (option_map string_bytes) w.nearest-is)
        (rw w.in-None.is at c.in_ok-near.ensures.none)
  ],
)
