-- The lines of the classes of an entry, and of one subtree after another.
use Rattle.std.proofs.Common.{◌≡◌, ℕ, ◌+◌, ◌<◌, Bool, true, false, cond, List, [], ◌∷◌, ◌++◌, length, take, get_or, refl, sym, ap, ◌∙◌, append_assoc, append-nil, take-suc, add-one}
use Rattle.std.specs.List.{filter, flat_map}
use Rattle.cg_cgroup.specs.Paths.{Names}
use Rattle.cg_model.specs.States.{State}
use Rattle.cg_model.specs.declared.guard.GuardedEntry.{GuardedEntry}
use Rattle.cg_model.specs.declared.mend.Class.{Class}
use Rattle.cg_model.specs.declared.mend.Class.TheVariants.{Owner, Group, Others}
use Rattle.cg_advice.specs.AdviceLines.{fails_line}
use Rattle.cg_advice.proofs.Gathering.{flat_more}
use Rattle.machine_everybody.specs.Everybody.{Everybody}
use Rattle.cg_everybody.specs.Everybody.{opens_to, classes_in, found_lines, headed, subtree_lines, everybody_lines}

-- ---- the classes of an entry

out_first : {A B : Type 0} (f : A → List B) (b : Bool) (x : A) (xs : List A)
    → flat_map f (cond b (x ∷ xs) xs) ≡ cond b (f x) [] ++ flat_map f xs
out_first f true x xs = refl
out_first f false x xs = refl

module _ (asked : Everybody) (subtree : Names) (at : GuardedEntry) where
  abbrev those : Class → List ℕ
  those class = cond (opens_to asked at.entry class) (fails_line subtree at class) []

  in_turn : flat_map (fails_line subtree at) (classes_in asked at.entry) ≡ those Owner ++ (those Group ++ (those Others ++ []))
  in_turn =
      out_first (fails_line subtree at) (opens_to asked at.entry Owner) Owner (filter (opens_to asked at.entry) (Group ∷ Others ∷ []))
      ∙ ap (λ rest. those Owner ++ rest)
      (out_first (fails_line subtree at) (opens_to asked at.entry Group) Group (filter (opens_to asked at.entry) (Others ∷ []))
      ∙ ap (λ rest. those Group ++ rest) (out_first (fails_line subtree at) (opens_to asked at.entry Others) Others []))

  pub three_written : (text one two three : List ℕ) → one ≡ text ++ those Owner → two ≡ one ++ those Group → three ≡ two ++ those Others
      → three ≡ text ++ flat_map (fails_line subtree at) (classes_in asked at.entry)
  three_written text one two three first second third =
      third ∙ ap (λ t. t ++ those Others) (second ∙ ap (λ t. t ++ those Group) first)
      ∙ ap (λ t. t ++ those Others) (append_assoc text (those Owner) (those Group))
      ∙ append_assoc text (those Owner ++ those Group) (those Others)
      ∙ ap (λ t. text ++ t) (append_assoc (those Owner) (those Group) (those Others))
      ∙ ap (λ t. text ++ (those Owner ++ (those Group ++ t))) (sym (append-nil (those Others)))
      ∙ ap (λ t. text ++ t) (sym in_turn)

-- ---- one subtree more

pub one_more : (st : State) (asked : Everybody) (subtrees : List Names) (i : ℕ) (subtree : Names) (text new found : List ℕ) → i < length
    subtrees
    → subtree ≡ get_or subtrees i subtree → text ≡ everybody_lines st asked (take i subtrees) → found ≡ found_lines st asked subtree
    → new ≡ text ++ headed subtree found → new ≡ everybody_lines st asked (take (i + 1) subtrees)
one_more st asked subtrees i subtree text new found within is so_far of_found written =
    written ∙ (λ k. so_far k ++ headed subtree (of_found k)) ∙ sym (flat_more (subtree_lines st asked) (take i subtrees) subtree)
    ∙ ap (everybody_lines st asked)
    (ap (λ (last : Names). take i subtrees ++ (last ∷ [])) is ∙ sym (rw add-one (take-suc subtrees i subtree within)))

pub taken_more : {A : Type 0} (xs : List A) (i : ℕ) (x : A) → i < length xs → x ≡ get_or xs i x → take (i + 1) xs ≡ take i xs ++ x ∷ []
taken_more xs i x within is = rw add-one (take-suc xs i x within) ∙ ap (λ last. take i xs ++ (last ∷ [])) (sym is)
