use Rattle.std.proofs.Common.{◌≡◌, ◌-◌, length}
use Rattle.toml_parser.specs.Lexical.{skip_blank}
use Rattle.cg_help.specs.Modes.{key_mode}
use Rattle.cg_help.proofs.modes.key_mode.Given as goal

-- what is left decides
abbrev pub invariant-loop-done : goal.invariant-loop-done
invariant-loop-done l = key_mode (length l.text - l._done) l.left.text.now ≡ key_mode (length l.text) (skip_blank l.text)
