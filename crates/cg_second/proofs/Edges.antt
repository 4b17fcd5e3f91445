-- The edge is closed where each cgroup to which a move may lead over it is shut.
use Rattle.std.proofs.Common.{◌≡◌, ◌⊎◌, inl, inr, ℕ, zero, suc, ◌≤◌, ◌<◌, Bool, true, false, not, ◌&&◌, ◌||◌, cond, List, [], ◌∷◌, length, take, refl, sym, ap, ◌∙◌, true≢false, ⊎_elim, arith}
use Rattle.std.specs.List.{list_all}
use Rattle.std.proofs.lemmas.Bool.{and_parts, and_from, or_left, or_right, or_cases, not-true, not_from_false, cases_Bool, cases_lt}
use Rattle.cg_cgroup.specs.Paths.{Names, inside, common, same_path}
use Rattle.cg_cgroup.specs.Identity.{Identity}
use Rattle.cg_cgroup.specs.declared.files.EntryName.TheVariants.{Procs}
use Rattle.cg_cgroup.proofs.PathOrder.{same_path-is, same_path_refl}
use Rattle.cg_cgroup.proofs.PathLaws.{common-inside_second, common-take_first}
use Rattle.cg_model.specs.States.{State, paths_of}
use Rattle.cg_second.specs.Lasting.{is_reached}
use Rattle.cg_second.specs.Greatest.{greatest}
use Rattle.cg_second.specs.Judged.{is_closed_at, is_closed_to, takes_none, grows_none}
use Rattle.cg_second.specs.Exposed.{is_passed_to, is_exposed, is_shut_or_apart}
use Rattle.cg_second.proofs.Anchors.{same_bool}
use Rattle.std.proofs.Common.{take_all}

all-each : (one other : Names → Bool) → ((path : Names) → one path ≡ true → other path ≡ true) → (paths : List Names)
    → list_all one paths ≡ true → list_all other paths ≡ true
all-each one other each [] h = refl
all-each one other each (path ∷ paths) h =
    let parts = and_parts (one path) _ h in and_from _ _ (each path parts.0) (all-each one other each paths parts.1)

module _ (st : State) (users : List Identity) (subtree : Names) where
  abbrev shut : Names → Bool
  shut path = takes_none st users (greatest st users) path && grows_none st users (greatest st users) path

  abbrev reached_to : ℕ → Bool
  reached_to len = is_reached st users (take len subtree) Procs

  -- what lies at the edge at some first cgroups of the subtree
  abbrev at_edge : ℕ → Names → Bool
  at_edge len path = inside subtree path || same_path (common subtree path) (take len subtree)

  passed-of : (n len : ℕ) → len < n → reached_to len ≡ true → is_passed_to st users subtree n ≡ true
  passed-of zero len less h = absurd (omega (arith, less))
  passed-of (suc n) len less h =
      ⊎_elim (λ lower. or_right (reached_to n) _ (passed-of n len lower h))
      (λ top. let same : n ≡ len = omega (arith, less, top) in or_left (reached_to n) _ (ap reached_to same ∙ h)) (cases_lt len n)

  of-passed : (n : ℕ) → is_passed_to st users subtree n ≡ true → (len : ℕ) × (len < n) × (reached_to len ≡ true)
  of-passed zero h = absurd (true≢false (sym h))
  of-passed (suc n) h =
      ⊎_elim (λ own. (n, omega arith, own))
      (λ rest. let found = of-passed n rest in (found.0, (let l = found.1 in omega (arith, l)), found.2)) (or_cases (reached_to n) _ h)

  -- ---- exposed there

  edge-exposed : (len : ℕ) → len < length subtree → reached_to len ≡ true → (path : Names) → at_edge len path ≡ true
      → is_exposed st users subtree path ≡ true
  edge-exposed len less h path edge = by_side (cases_Bool (inside subtree path))
    where
      by_side : (inside subtree path ≡ true) ⊎ (inside subtree path ≡ false) → is_exposed st users subtree path ≡ true
      by_side (inl within) =
          ap (λ b. cond b (is_passed_to st users subtree (length subtree)) (is_reached st users (common subtree path) Procs)) within
          ∙ passed-of (length subtree) len less h
      by_side (inr outside) =
          let same : common subtree path ≡ take len subtree =
          ⊎_elim (λ within. absurd (true≢false (sym within ∙ outside))) (same_path-is (common subtree path) (take len subtree))
          (or_cases (inside subtree path) _ edge) in
          ap (λ b. cond b (is_passed_to st users subtree (length subtree)) (is_reached st users (common subtree path) Procs)) outside
          ∙ ap (λ p. is_reached st users p Procs) same ∙ h

  exposed-edge : (path : Names) → is_exposed st users subtree path ≡ true
      → (len : ℕ) × (len < length subtree) × (reached_to len ≡ true) × (at_edge len path ≡ true)
  exposed-edge path h = by_side (cases_Bool (inside subtree path))
    where
      shorter : inside subtree path ≡ false → length (common subtree path) < length subtree
      shorter outside =
          ⊎_elim (λ less. less)
          (λ whole.
          let is : common subtree path ≡ subtree = common-take_first subtree path ∙ take_all (length (common subtree path)) subtree whole in
          absurd (true≢false (sym (ap (λ p. inside p path) (sym is) ∙ common-inside_second subtree path) ∙ outside)))
          (cases_lt (length (common subtree path)) (length subtree))

      by_side : (inside subtree path ≡ true) ⊎ (inside subtree path ≡ false)
          → (len : ℕ) × (len < length subtree) × (reached_to len ≡ true) × (at_edge len path ≡ true)
      by_side (inl within) =
          let found = of-passed (length subtree)
          (sym (ap (λ b. cond b (is_passed_to st users subtree (length subtree)) (is_reached st users (common subtree path) Procs)) within)
          ∙ h) in
          (found.0, found.1, found.2, or_left (inside subtree path) _ within)
      by_side (inr outside) =
          let top : take (length (common subtree path)) subtree ≡ common subtree path = sym (common-take_first subtree path) in (
            length (common subtree path),
            shorter outside,
            ap (λ p. is_reached st users p Procs) top
                ∙ sym (ap (λ b. cond b (is_passed_to st users subtree (length subtree)) (is_reached st users (common subtree path) Procs))
                outside)
                ∙ h,
            or_right (inside subtree path) _ (ap (same_path (common subtree path)) top ∙ same_path_refl (common subtree path)),
          )

  -- ---- closed

  closed-at-of : list_all (is_shut_or_apart st users subtree) (paths_of st) ≡ true → (len : ℕ) → len < length subtree
      → is_closed_at st users (greatest st users) subtree (take len subtree) ≡ true
  closed-at-of all len less = by_reach (cases_Bool (reached_to len))
    where
      one : reached_to len ≡ true → (path : Names) → is_shut_or_apart st users subtree path ≡ true
          → (not (at_edge len path) || shut path) ≡ true
      one can path h = by_edge (cases_Bool (at_edge len path))
        where
          by_edge : (at_edge len path ≡ true) ⊎ (at_edge len path ≡ false) → (not (at_edge len path) || shut path) ≡ true
          by_edge (inl edge) =
              or_right (not (at_edge len path)) _ (⊎_elim
              (λ apart. absurd (true≢false (sym (edge-exposed len less can path edge) ∙ not-true _ apart))) (λ is. is)
              (or_cases (not (is_exposed st users subtree path)) _ h))
          by_edge (inr apart) = or_left (not (at_edge len path)) _ (not_from_false (at_edge len path) apart)

      by_reach : (reached_to len ≡ true) ⊎ (reached_to len ≡ false)
          → is_closed_at st users (greatest st users) subtree (take len subtree) ≡ true
      by_reach (inl can) =
          or_right (not (reached_to len)) _
          (all-each (is_shut_or_apart st users subtree) (λ path. not (at_edge len path) || shut path) (one can) (paths_of st) all)
      by_reach (inr none) = or_left (not (reached_to len)) _ (not_from_false (reached_to len) none)

  closed-to-of : list_all (is_shut_or_apart st users subtree) (paths_of st) ≡ true → (n : ℕ) → n ≤ length subtree
      → is_closed_to st users (greatest st users) subtree n ≡ true
  closed-to-of all zero short = refl
  closed-to-of all (suc n) short = and_from _ _ (closed-at-of all n (omega (arith, short))) (closed-to-of all n (omega (arith, short)))

  one-of-closed : (n : ℕ) → is_closed_to st users (greatest st users) subtree n ≡ true → (len : ℕ) → len < n
      → is_closed_at st users (greatest st users) subtree (take len subtree) ≡ true
  one-of-closed zero h len less = absurd (omega (arith, less))
  one-of-closed (suc n) h len less =
      let parts = and_parts (is_closed_at st users (greatest st users) subtree (take n subtree)) _ h in
      ⊎_elim (λ lower. one-of-closed n parts.1 len lower)
      (λ top. let same : n ≡ len = omega (arith, less, top) in
      ap (λ k. is_closed_at st users (greatest st users) subtree (take k subtree)) (sym same) ∙ parts.0) (cases_lt len n)

  of-closed : is_closed_to st users (greatest st users) subtree (length subtree) ≡ true
      → list_all (is_shut_or_apart st users subtree) (paths_of st) ≡ true
  of-closed closed = each (paths_of st) (λ len less can. by_level len less can)
    where
      by_level : (len : ℕ) → len < length subtree → reached_to len ≡ true
          → list_all (λ path. not (at_edge len path) || shut path) (paths_of st) ≡ true
      by_level len less can =
          ⊎_elim (λ none. absurd (true≢false (sym can ∙ not-true _ none))) (λ all. all)
          (or_cases (not (reached_to len)) _ (one-of-closed (length subtree) closed len less))

      here : (path : Names)
          → ((len : ℕ) → len < length subtree → reached_to len ≡ true → (not (at_edge len path) || shut path) ≡ true)
          → is_shut_or_apart st users subtree path ≡ true
      here path at = by_side (cases_Bool (is_exposed st users subtree path))
        where
          by_side : (is_exposed st users subtree path ≡ true) ⊎ (is_exposed st users subtree path ≡ false)
              → is_shut_or_apart st users subtree path ≡ true
          by_side (inl exposed) =
              let edge = exposed-edge path exposed in
              or_right (not (is_exposed st users subtree path)) _ (⊎_elim
              (λ apart. absurd (true≢false (sym edge.3 ∙ not-true _ apart))) (λ is. is)
              (or_cases (not (at_edge edge.0 path)) _ (at edge.0 edge.1 edge.2)))
          by_side (inr apart) = or_left (not (is_exposed st users subtree path)) _ (not_from_false (is_exposed st users subtree path) apart)

      each : (paths : List Names)
          → ((len : ℕ) → len < length subtree → reached_to len ≡ true
          → list_all (λ path. not (at_edge len path) || shut path) paths ≡ true)
          → list_all (is_shut_or_apart st users subtree) paths ≡ true
      each [] at = refl
      each (path ∷ paths) at =
          and_from _ _
          (here path (λ len less can. (and_parts (not (at_edge len path) || shut path) _ (at len less can)).0))
          (each paths (λ len less can. (and_parts (not (at_edge len path) || shut path) _ (at len less can)).1))

  pub closed-is : list_all (is_shut_or_apart st users subtree) (paths_of st)
      ≡ is_closed_to st users (greatest st users) subtree (length subtree)
  closed-is = same_bool _ _ (λ all. closed-to-of all (length subtree) (omega arith)) of-closed
