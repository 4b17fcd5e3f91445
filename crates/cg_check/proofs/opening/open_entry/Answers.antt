use Rattle.std.proofs.Common.{sym, ◌∙◌}
use Rattle.cg_check.proofs.Escaping.{opened-mode}
use Rattle.cg_check.proofs.opening.open_entry.Goals as goal

pub unreachable-requires : goal.unreachable-requires
unreachable-requires c = opened-mode c.args.at.now.entry.mode c.requires.mode (sym c.new.ensures ∙ c.in_default.is)
