-- One more place that is told.
use Rattle.std.proofs.Common.{◌≡◌, ℕ, ◌+◌, ◌<◌, List, [], ◌++◌, length, take, get_or, sym, ap, ◌∙◌}
use Rattle.std.specs.List.{flat_map}
use Rattle.std.proofs.lemmas.List.{flat_map_more, take_more}
use Rattle.cg_cgroup.specs.Paths.{Names}
use Rattle.cg_cgroup.specs.Identity.{Identity}
use Rattle.cg_model.specs.States.{State}
use Rattle.cg_explain.specs.declared.second.Asked.{Asked}
use Rattle.cg_explain.specs.SecondRow.{place_asked}

pub place-added : (st : State) (users : List Identity) (subtree : Names) (paths : List Names) (at : ℕ) → at < length paths
    → (before row more : List Asked) → row ≡ before ++ flat_map (place_asked st users subtree) (take at paths)
    → more ≡ row ++ place_asked st users subtree (get_or paths at [])
    → more ≡ before ++ flat_map (place_asked st users subtree) (take (at + 1) paths)
place-added st users subtree paths at within before row more so_far added =
    let asked = place_asked st users subtree in
    added
    ∙ ap (λ l. l ++ asked (get_or paths at [])) so_far
    ∙ flat_map_more asked before (take at paths) (get_or paths at [])
    ∙ ap (λ l. before ++ flat_map asked l) (sym (take_more paths at [] within))
