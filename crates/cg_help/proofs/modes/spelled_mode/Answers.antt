use Rattle.std.proofs.Common.{◌≡◌, ◌∙◌, ℕ, Bool, true, false, cond, List, length, refl, ap, sym}
use Rattle.std.specs.Prelude.{◌&&◌, Option, None, IfOk, Result, Ok, Err}
use Rattle.std.specs.Str.{IsUtf8, is_utf8}
use Rattle.std.proofs.lemmas.Str.{IsUtf8-from_is_utf8, is_utf8-from_IsUtf8}
use Rattle.toml_parser.specs.Lexical.{skip_blank}
use Rattle.cg_help.specs.Modes.{is_written, key_mode, spelled_mode}
use Rattle.cg_help.specs.declared.modes.Spelled.{Spelled}
use Rattle.cg_help.proofs.modes.spelled_mode.Goals as goal

-- a text by whether a mode is written in it, and whether it is UTF-8
of_tests : (text : List ℕ) (written valid : Bool) → is_written text ≡ written → is_utf8 text ≡ valid
    → spelled_mode text ≡ cond (written && valid) (key_mode (length text) (skip_blank text)) None
of_tests text written valid is_written is_valid = rw (is_written, is_valid) refl

invalid : (text : List ℕ) → ¬ (IsUtf8 text) → is_utf8 text ≡ false
invalid text never =
    elim (is_utf8 text) as (λ b. is_utf8 text ≡ b → b ≡ false) [
      | true ↦ λ is. absurd (never (IsUtf8-from_is_utf8 text is))
      | false ↦ λ _. refl
    ] refl

found : {E : Type 0} (bytes text : List ℕ) (result : Result (Option Spelled) E) → text ≡ bytes
    → spelled_mode bytes ≡ key_mode (length bytes) (skip_blank bytes)
    → IfOk result (λ mode. mode ≡ key_mode (length text) (skip_blank text)) → IfOk result (λ mode. mode ≡ spelled_mode bytes)
found bytes text (Ok mode) same is holds = holds ∙ ap (λ (t : List ℕ). key_mode (length t) (skip_blank t)) same ∙ sym is
found bytes text (Err failed) same is holds = tt

pub returns-in-Ok : goal.returns-in-Ok
returns-in-Ok c =
    found c.args.text.now c.in-Ok.text.now c.key_mode.result c.in-Ok.ensures.cases.0
    (of_tests c.args.text.now true true (sym c.is_written.ensures ∙ c.if-not-is_written.false)
    (is_utf8-from_IsUtf8 c.args.text.now c.in-Ok.ensures.cases.1)) c.key_mode.ensures

pub returns-in-Err : goal.returns-in-Err
returns-in-Err c =
    sym (of_tests c.args.text.now true false (sym c.is_written.ensures ∙ c.if-not-is_written.false)
    (invalid c.args.text.now c.in-Err.ensures.cases.0))
