-- Lists of faults and pairs, one after another, and what it means that there is none.
use Rattle.std.proofs.Common.{◌≡◌, ◌≢◌, ℕ, zero, suc, ◌+◌, ◌<◌, true, List, [], ◌∷◌, ◌++◌, length, get_or, drop, drop-cons, add-one, refl, sym, ap, ◌∙◌, Some, None, Ok, arith}
use Rattle.std.specs.List.{flat_map}
use Rattle.cg_cgroup.specs.Paths.{Names}
use Rattle.cg_model.specs.States.{State}
use Rattle.cg_model.specs.Clauses.{first}
use Rattle.cg_model.proofs.ClauseLaws.{first_none, first_some, none_of_first, no_parts}
use Rattle.cg_model.specs.Guards.{IsSubtree}
use Rattle.cg_model.specs.Checks.{subtree_faults}
use Rattle.cg_check.specs.Checks.{takes_memory}
use Rattle.cg_model.specs.AllAnswers.{pair_unless_contained}
use Rattle.cg_model.specs.declared.answer.Answer.{Answer}
use Rattle.cg_model.specs.declared.answer.Answer.TheVariants.{Contained, Escapes, Unsettled}
use Rattle.cg_model.specs.declared.answer.AllAnswer.TheVariants as all
use Rattle.cg_check.proofs.Checking.{no_fault}

-- ---- one after another

module _ {A R : Type 0} (f : A → List R) (xs : List A) (i : ℕ) (x : A) (within : i < length xs) (at : x ≡ get_or xs i x) where
  from_here : flat_map f (drop i xs) ≡ f x ++ flat_map f (drop (i + 1) xs)
  from_here = ap (flat_map f) (drop-cons xs i x within) ∙ (λ j. f (sym at j) ++ flat_map f (drop (sym (add-one i) j) xs))

  pub none-here : None ≡ first (f x) → first (flat_map f (drop (i + 1) xs)) ≡ first (flat_map f (drop i xs))
  none-here none = sym (ap first from_here ∙ first_none _ _ (sym none))

  pub some-here : (r : R) → Some r ≡ first (f x) → Some r ≡ first (flat_map f (drop i xs))
  some-here r some = sym (ap first from_here ∙ first_some _ _ r (sym some))

-- where there is none of the whole list, there is none of an element
pub none-element : {A R : Type 0} (f : A → List R) (xs : List A) (i : ℕ) (d : A) → i < length xs → first (flat_map f xs) ≡ None
    → first (f (get_or xs i d)) ≡ None
none-element f [] i d within none = absurd (omega (arith, within))
none-element f (x ∷ xs) zero d within none = ap first (no_parts (f x) (flat_map f xs) (none_of_first _ none)).0
none-element f (x ∷ xs) (suc i) d within none =
    none-element f xs i d (omega (arith, within)) (ap first (no_parts (f x) (flat_map f xs) (none_of_first _ none)).1)

pub some_length : {A : Type 0} (xs : List A) → xs ≢ [] → 0 < length xs
some_length [] h = absurd (h refl)
some_length (x ∷ xs) h = omega arith

pub not-none : {A : Type 0} (xs : List A) (i : ℕ) → i < length xs → xs ≢ []
not-none [] i within none = omega (arith, within)
not-none (x ∷ xs) i within none = cc

-- ---- pairs

pub pair-some : (place from : ℕ) (found : Answer) → takes_memory (Ok found) ≡ true
    → first (pair_unless_contained place from found) ≡ Some (all.Pair place from found)
pair-some place from Contained h = cc
pair-some place from (Escapes ops) h = refl
pair-some place from (Unsettled failed) h = refl

pub subtree_at : (st : State) (subtrees : List Names) (i : ℕ) (subtree : Names) → i < length subtrees → subtree ≡ get_or subtrees i subtree
    → first (flat_map (subtree_faults st) subtrees) ≡ None → IsSubtree st subtree
subtree_at st subtrees i subtree within at none =
    no_fault st subtree
    (sym (ap (λ path. first (subtree_faults st path)) at ∙ none-element (subtree_faults st) subtrees i subtree within none))
