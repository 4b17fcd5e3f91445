use Rattle.std.proofs.Common.{◌≡◌, ◌∙◌, ℕ, Bool, false, List, [], ◌∷◌, length, take, map, refl, sym, ap, subst, arith}
use Rattle.std.specs.Prelude.{Option, Some, None, option_copied, is_some, string_bytes}
use Rattle.std.specs.Borrow.{Bor}
use Rattle.std.specs.FinMap as finmap
use Rattle.std.specs.Option.{option_map}
use Rattle.std.proofs.lemmas.Grind.{common_steps}
use Rattle.cg_cgroup.specs.Paths.{Names, path_text}
use Rattle.cg_cgroup.specs.declared.cgroup.Cgroup.{Cgroup}
use Rattle.cg_model.specs.States.{State, row_at}
use Rattle.cg_model.specs.WellFormed.{has_row}
use Rattle.text_places.specs.Nearest.{IsNearest}
use Rattle.cg_cli.proofs.missing.if_missing.Goals as goal

whole : (n : ℕ) (path : Names) → n ≡ length path → take n path ≡ path
whole n path is = grind (arith, common_steps)

copied : {X : Type 0} (found : Option (Bor X)) → is_some (option_copied found) ≡ is_some found
copied None = refl
copied (Some x) = refl

absent : (st : State) (path : Names) (n : ℕ) (found : Option (Bor Cgroup)) (there : Bool) → n ≡ length path
    → option_copied found ≡ row_at st (take n path) → there ≡ is_some found → there ≡ false → has_row st path ≡ false
absent st path n found there long is same missing =
    ap (λ (p : Names). is_some (row_at st p)) (sym (whole n path long)) ∙ ap is_some (sym is) ∙ copied found ∙ sym same ∙ missing

mapped : {A B C : Type 0} (f : A → B) (g : B → C) (xs : List A) → map (λ x. g (f x)) xs ≡ map g (map f xs)
mapped f g [] = refl
mapped f g (x ∷ xs) = ap (λ rest. g (f x) ∷ rest) (mapped f g xs)

pub returns : goal.returns
returns c =
    let path = c.args.path.now in
    let text = c.prefix.ensures.text ∙ ap path_text (whole c.depth-2.result path c.depth-2.ensures.depth) in
    let texts =
    ap (λ (items : List (Bor (List ℕ))). map (λ other. other.now) items) c.as_slice.ensures.value ∙ c.in_ok-paths.ensures
    ∙ ap (λ (rows : List (Names × Cgroup)). map (λ row. path_text row.0) rows) c.entries.ensures
    ∙ mapped (λ (row : Names × Cgroup). row.0) path_text (finmap.entries c.args.tree.now.rows) in (
      absent c.args.tree.now path c.depth.result c.get.result c.is_some.result c.depth.ensures.depth c.get.ensures.row c.is_some.ensures
          c.if-is_some.false,
      (
        c.in_ok-missing.ensures.0 ∙ text,
        subst (λ (names : List (List ℕ)). IsNearest (path_text path) names (option_map string_bytes c.in_ok-missing.missing.nearest)) texts
            (subst (λ (name : List ℕ). IsNearest name (map (λ other. other.now) c.as_slice.result.now)
            (option_map string_bytes c.in_ok-missing.missing.nearest)) text c.in_ok-missing.ensures.1),
      ),
    )
