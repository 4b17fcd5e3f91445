-- Where the names of a text end: where its slashes stand, and at its end.
use Rattle.std.proofs.Common.{◌≡◌, ℕ, ◌+◌, ◌<◌, ◌≤◌, true, false, zero, suc, arith, cond, List, [], ◌∷◌, ◌++◌, length, take, get_or, refl, sym, ap, ◌∙◌, ⊎_elim, zero-add}
use Rattle.std.specs.Prelude.{◌==◌}
use Rattle.std.specs.List.{count_by, slice_split, onto_first}
use Rattle.std.proofs.lemmas.Bool.{cases_Bool, eqb-true}
use Rattle.std.proofs.lemmas.List.Splits.{slice_split-cons_no, slice_split-cons_yes, length-slice_split}
use Rattle.std.proofs.lemmas.List.{append-nil}
use Rattle.std.proofs.lemmas.List.Sums.{sum_by-cons}
use Rattle.cg_cgroup.specs.Paths.{Names}
use Rattle.cg_cgroup.specs.PathText.{ends_from}

-- one place past each slash of a text that stands at `start`
abbrev pub slashes : ℕ → List ℕ → List ℕ
slashes start [] = []
slashes start (b ∷ text) = cond (b == 47) ((start + 1) ∷ slashes (start + 1) text) (slashes (start + 1) text)

ends_onto : (start b : ℕ) (names : Names) → 0 < length names → ends_from start (onto_first b names) ≡ ends_from (start + 1) names
ends_onto start b [] some = absurd (omega arith)
ends_onto start b (name ∷ names) some =
    let same : start + (suc (length name) + 1) ≡ (start + 1) + (length name + 1) = omega arith in
    ap (λ (end : ℕ). end ∷ ends_from end names) same

ends_are_slashes : (start : ℕ) (text : List ℕ)
    → ends_from start (slice_split (λ b. b == 47) text) ≡ slashes start text ++ (start + (length text + 1)) ∷ []
ends_are_slashes start [] = refl
ends_are_slashes start (b ∷ text) =
    let last : (start + 1) + (length text + 1) ≡ start + (suc (length text) + 1) = omega arith in
    let rest = ends_are_slashes (start + 1) text ∙ ap (λ (end : ℕ). slashes (start + 1) text ++ end ∷ []) last in
    ⊎_elim
    (λ is.
    ap (ends_from start) (slice_split-cons_yes (λ b. b == 47) b text is) ∙ ap (λ (ends : List ℕ). (start + 1) ∷ ends) rest
    ∙ ap (λ c. cond c ((start + 1) ∷ slashes (start + 1) text) (slashes (start + 1) text) ++ (start + (suc (length text) + 1)) ∷ [])
    (sym is))
    (λ not_is.
    ap (ends_from start) (slice_split-cons_no (λ b. b == 47) b text not_is)
    ∙ ends_onto start b (slice_split (λ b. b == 47) text) (omega (arith, length-slice_split (λ b. b == 47) text)) ∙ rest
    ∙ ap (λ c. cond c ((start + 1) ∷ slashes (start + 1) text) (slashes (start + 1) text) ++ (start + (suc (length text) + 1)) ∷ [])
    (sym not_is))
    (cases_Bool (b == 47))

-- one byte more
slashes_more : (start i : ℕ) (text : List ℕ) → i < length text
    → slashes start (take (suc i) text) ≡ slashes start (take i text) ++ cond (get_or text i 0 == 47) ((start + (i + 1)) ∷ []) []
slashes_more start i [] inside = absurd (omega arith)
slashes_more start zero (x ∷ text) inside = refl
slashes_more start (suc i) (x ∷ text) inside =
    let at : (start + 1) + (i + 1) ≡ start + (suc i + 1) = omega arith in
    let last : List ℕ = cond (get_or text i 0 == 47) ((start + (suc i + 1)) ∷ []) [] in
    let more =
    slashes_more (start + 1) i text (omega arith)
    ∙ ap (λ (n : ℕ). slashes (start + 1) (take i text) ++ cond (get_or text i 0 == 47) (n ∷ []) []) at in
    ⊎_elim
    (λ yes.
    ap (λ c. cond c ((start + 1) ∷ slashes (start + 1) (take (suc i) text)) (slashes (start + 1) (take (suc i) text))) yes
    ∙ ap (λ (ends : List ℕ). (start + 1) ∷ ends) more
    ∙ ap (λ c. cond c ((start + 1) ∷ slashes (start + 1) (take i text)) (slashes (start + 1) (take i text)) ++ last) (sym yes))
    (λ other.
    ap (λ c. cond c ((start + 1) ∷ slashes (start + 1) (take (suc i) text)) (slashes (start + 1) (take (suc i) text))) other ∙ more
    ∙ ap (λ c. cond c ((start + 1) ∷ slashes (start + 1) (take i text)) (slashes (start + 1) (take i text)) ++ last) (sym other))
    (cases_Bool (x == 47))

pub slash_read : (i : ℕ) (text : List ℕ) → i < length text → get_or text i 0 ≡ 47
    → slashes 0 (take (i + 1) text) ≡ slashes 0 (take i text) ++ (i + 1) ∷ []
slash_read i text inside is =
    let next : i + 1 ≡ suc i = omega arith in
    ap (λ (n : ℕ). slashes 0 (take n text)) next ∙ slashes_more 0 i text inside
    ∙ ap (λ (b : ℕ). slashes 0 (take i text) ++ cond (b == 47) ((0 + (i + 1)) ∷ []) []) is
    ∙ ap (λ (n : ℕ). slashes 0 (take i text) ++ n ∷ []) (zero-add (i + 1))

pub other_read : (i : ℕ) (text : List ℕ) → i < length text → (get_or text i 0 ≡ 47 → ⊥)
    → slashes 0 (take (i + 1) text) ≡ slashes 0 (take i text)
other_read i text inside differs =
    let next : i + 1 ≡ suc i = omega arith in
    ⊎_elim
    (λ yes. absurd (differs (eqb-true (get_or text i 0) 47 yes)))
    (λ other.
    ap (λ (n : ℕ). slashes 0 (take n text)) next ∙ slashes_more 0 i text inside
    ∙ ap (λ c. slashes 0 (take i text) ++ cond c ((0 + (i + 1)) ∷ []) []) other ∙ append-nil (slashes 0 (take i text)))
    (cases_Bool (get_or text i 0 == 47))

-- at the first bytes no more slashes stand than at all of them
pub slashes_fit : (start i : ℕ) (text : List ℕ) → length (slashes start (take i text)) ≤ count_by (λ b. b == 47) text
slashes_fit start zero text = omega arith
slashes_fit start (suc i) [] = omega arith
slashes_fit start (suc i) (b ∷ text) =
    let rest = slashes_fit (start + 1) i text in
    let found = slashes (start + 1) (take i text) in
    let fits : length (cond (b == 47) ((start + 1) ∷ found) found) ≤ cond (b == 47) 1 0 + count_by (λ b. b == 47) text =
    elim (b == 47) as (λ c. length (cond c ((start + 1) ∷ found) found) ≤ cond c 1 0 + count_by (λ b. b == 47) text) [
      | true ↦ omega arith
      | false ↦ omega arith
    ] in
    omega (arith, sum_by-cons (λ (b : ℕ). cond (b == 47) 1 0) b text)

pub ends_at_slashes : (text : List ℕ) → slashes 0 text ++ (length text + 1) ∷ [] ≡ ends_from 0 (slice_split (λ b. b == 47) text)
ends_at_slashes text = ap (λ (n : ℕ). slashes 0 text ++ n ∷ []) (sym (zero-add (length text + 1))) ∙ sym (ends_are_slashes 0 text)
