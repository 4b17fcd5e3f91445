use Rattle.std.proofs.Common.{◌≡◌, ◌∙◌, ◌+◌, ◌-◌, ℕ, suc, List, length, ap, sym, arith}
use Rattle.std.specs.Prelude.{Some, None}
use Rattle.std.specs.Option.{option_or}
use Rattle.cg_help.specs.Modes.{mode_at, past, key_mode}
use Rattle.cg_help.specs.declared.modes.Spelled.{Spelled}
use Rattle.cg_help.proofs.modes.key_mode.Goals as goal

-- where a piece is left, by what stands at its front
one_more : (left more : ℕ) (text : List ℕ) → left ≡ suc more → key_mode left text ≡ option_or (mode_at text) (key_mode more (past text))
one_more left more text is = ap (λ n. key_mode n text) is

met : (left more : ℕ) (text : List ℕ) (mode : Spelled) → left ≡ suc more → mode_at text ≡ Some mode → key_mode left text ≡ Some mode
met left more text mode is found = one_more left more text is ∙ ap (λ m. option_or m (key_mode more (past text))) found

unmet : (left more : ℕ) (text : List ℕ) → left ≡ suc more → mode_at text ≡ None → key_mode left text ≡ key_mode more (past text)
unmet left more text is none = one_more left more text is ∙ ap (λ m. option_or m (key_mode more (past text))) none

pub returns-in-Some : goal.returns-in-Some
returns-in-Some c =
    let bytes = c.as_bytes.ensures.value in
    let at = c.loop-done-test.true in
    sym (met (length c.args.text.now - c.loop-done._done) (length c.args.text.now - (c.loop-done._done + 1)) c.loop-done.left.text.now
    c.in-Some.mode
    (omega (arith, at)) (ap mode_at (sym bytes) ∙ sym c.mode_at.ensures ∙ c.in-Some.is)) ∙ c.loop-done.invariant

pub loop-done-preserved : goal.loop-done-preserved
loop-done-preserved c =
    let bytes = c.as_bytes.ensures.value in
    let at = c.loop-done-test.true in
    ap (key_mode (length c.args.text.now - (c.loop-done._done + 1))) c.in_ok-left.ensures
    ∙ sym (unmet (length c.args.text.now - c.loop-done._done) (length c.args.text.now - (c.loop-done._done + 1)) c.loop-done.left.text.now
    (omega (arith, at)) (ap mode_at (sym bytes) ∙ sym c.mode_at.ensures ∙ c.in_default.is)) ∙ c.loop-done.invariant

pub returns : goal.returns
returns c =
    let at = c.loop-done-test.false in
    let none : length c.args.text.now - c.loop-done._done ≡ 0 = omega (arith, at) in
    sym (ap (λ n. key_mode n c.loop-done.left.text.now) none) ∙ c.loop-done.invariant
