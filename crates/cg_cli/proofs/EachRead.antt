-- Lists read one after another.
use Rattle.std.proofs.Common.{◌≡◌, ℕ, ◌+◌, ◌<◌, List, [], ◌∷◌, ◌++◌, map, take, drop, length, get_or, Result, Ok, Err, refl, ap, sym, ◌∙◌, add-one, take-append-drop}
use Rattle.std.proofs.Math.Seq.{take-suc, drop-cons}
use Rattle.cg_cli.specs.Audits.{read_before, each_read}
use Rattle.cg_faults.specs.declared.fault.CliFault.{CliFault}

abbrev both : {A : Type 0} → Result (List A) CliFault → Result (List A) CliFault → Result (List A) CliFault
both (Ok xs) (Ok ys) = Ok (xs ++ ys)
both (Ok xs) (Err fault) = Err fault
both (Err fault) ys = Err fault

both_nil : {A : Type 0} (r : Result (List A) CliFault) → r ≡ both (Ok []) r
both_nil (Ok xs) = refl
both_nil (Err fault) = refl

before_both : {A : Type 0} (x : Result A CliFault) (xs ys : Result (List A) CliFault)
    → read_before x (both xs ys) ≡ both (read_before x xs) ys
before_both (Ok x) (Ok xs) (Ok ys) = refl
before_both (Ok x) (Ok xs) (Err fault) = refl
before_both (Ok x) (Err fault) ys = refl
before_both (Err fault) xs ys = refl

module _ {A B C : Type 0} (read : B → Result C CliFault) (g : A → B) where
  read_append : (xs ys : List A) → each_read read (map g (xs ++ ys)) ≡ both (each_read read (map g xs)) (each_read read (map g ys))
  read_append [] ys = both_nil (each_read read (map g ys))
  read_append (x ∷ xs) ys =
      ap (read_before (read (g x))) (read_append xs ys) ∙ before_both (read (g x)) (each_read read (map g xs)) (each_read read (map g ys))

  front_and : (xs : List A) (i : ℕ) (d : A) → i < length xs → take i xs ++ (get_or xs i d ∷ []) ≡ take (i + 1) xs
  front_and xs i d within = rw add-one (sym (take-suc xs i d within))

  whole : (xs : List A) (i : ℕ) (d : A) → i < length xs → take i xs ++ (get_or xs i d ∷ drop (i + 1) xs) ≡ xs
  whole xs i d within = rw (add-one, ← drop-cons xs i d within) (take-append-drop i xs)

  pub read_more : (xs : List A) (i : ℕ) (d : A) (ys : List C) (y : C) → i < length xs → each_read read (map g (take i xs)) ≡ Ok ys
      → read (g (get_or xs i d)) ≡ Ok y → each_read read (map g (take (i + 1) xs)) ≡ Ok (ys ++ (y ∷ []))
  read_more xs i d ys y within front is =
      ap (λ l. each_read read (map g l)) (sym (front_and xs i d within)) ∙ read_append (take i xs) (get_or xs i d ∷ [])
      ∙ ap (λ r. both r (read_before (read (g (get_or xs i d))) (Ok []))) front ∙ ap (λ r. both (Ok ys) (read_before r (Ok []))) is

  pub read_stops : (xs : List A) (i : ℕ) (d : A) (ys : List C) (fault : CliFault) → i < length xs
      → each_read read (map g (take i xs)) ≡ Ok ys → read (g (get_or xs i d)) ≡ Err fault → each_read read (map g xs) ≡ Err fault
  read_stops xs i d ys fault within front is =
      ap (λ l. each_read read (map g l)) (sym (whole xs i d within)) ∙ read_append (take i xs) (get_or xs i d ∷ drop (i + 1) xs)
      ∙ ap (λ r. both r (read_before (read (g (get_or xs i d))) (each_read read (map g (drop (i + 1) xs))))) front
      ∙ ap (λ r. both (Ok ys) (read_before r (each_read read (map g (drop (i + 1) xs))))) is
