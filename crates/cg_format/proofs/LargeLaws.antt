-- Names of controllers at the beginning of a text, one behind the other.
use Rattle.std.proofs.Common.{◌≡◌, ℕ, ◌+◌, ◌<◌, Bool, false, drop, get_or, List, Option, Some, None, length, sym, ap, ◌∙◌}
use Rattle.std.specs.Prelude.{fold}
use Rattle.std.proofs.lemmas.List.{drop_more}
use Rattle.cg_cgroup.specs.declared.files.Controller.{Controller}
use Rattle.cg_format.specs.TreeTexts.{behind_name, past_name}

module _ (all : List Controller) (i : ℕ) (d : Controller) (few : i < length all) (is_first : Bool) (text : List ℕ) where
  one : (next : Bool) (rest : List ℕ) → past_name (is_first, text) (get_or all i d) ≡ (next, rest)
      → fold past_name (next, rest) (drop (i + 1) all) ≡ fold past_name (is_first, text) (drop i all)
  one next rest is =
      ap (λ met. fold past_name met (drop (i + 1) all)) (sym is) ∙ sym (ap (fold past_name (is_first, text)) (drop_more all i d few))

  -- a name that stands there
  pub past_there : (rest : List ℕ) → behind_name is_first (get_or all i d) text ≡ Some rest
      → fold past_name (false, rest) (drop (i + 1) all) ≡ fold past_name (is_first, text) (drop i all)
  unfolding past_name
  past_there rest is =
      one false rest
      (ap (λ (found : Option (List ℕ)). elim found as (λ _. Bool × List ℕ) [ None ↦ (is_first, text) | Some rest ↦ (false, rest) ]) is)

  -- and one that doesn't
  pub past_missing : behind_name is_first (get_or all i d) text ≡ None
      → fold past_name (is_first, text) (drop (i + 1) all) ≡ fold past_name (is_first, text) (drop i all)
  unfolding past_name
  past_missing is =
      one is_first text
      (ap (λ (found : Option (List ℕ)). elim found as (λ _. Bool × List ℕ) [ None ↦ (is_first, text) | Some rest ↦ (false, rest) ]) is)
