-- What a search for a letter passes over begins no mode.
use Rattle.std.proofs.Common.{◌≡◌, ◌∙◌, ◌<◌, ℕ, zero, suc, Bool, true, false, cond, List, [], ◌∷◌, refl, ap, sym, arith}
use Rattle.std.specs.Prelude.{◌&&◌, ◌||◌, nat_eq, Some, None, codes, take, drop, is_some, option_and_then}
use Rattle.std.specs.Cmp.Lexicographic.{pointwise}
use Rattle.memchr.specs.Find.{Passes, is_byte}
use Rattle.cg_format.specs.TreeTexts.{behind}
use Rattle.cg_help.specs.Modes.{unspaced, number_at, mode_at, is_written}

not_true : (p : Bool) → ¬ (p ≡ true) → p ≡ false
not_true true unmet = absurd (unmet refl)
not_true false unmet = refl

-- no mode begins with another letter
no_mode : (byte : ℕ) (rest : List ℕ) → nat_eq byte 109 ≡ false → mode_at (byte ∷ rest) ≡ None
no_mode byte rest other =
    ap (λ is. option_and_then (λ left. option_and_then (λ value. number_at (unspaced value)) (behind (codes "=") (unspaced left)))
    (cond (is && pointwise nat_eq (take 3 rest) (codes "ode")) (Some (drop 4 (byte ∷ rest))) None)) other

pub unwritten : (text : List ℕ) (at : ℕ) → ((k : ℕ) → k < at → ¬ Passes (is_byte 109) text k)
    → is_written (drop at text) ≡ is_written text
unwritten text zero none = refl
unwritten [] (suc at) none = refl
unwritten (byte ∷ rest) (suc at) none =
    unwritten rest at (λ k less. none (suc k) (omega arith))
    ∙ sym (ap (λ found. is_some found || is_written rest) (no_mode byte rest (not_true (nat_eq byte 109) (none 0 (omega arith)))))
