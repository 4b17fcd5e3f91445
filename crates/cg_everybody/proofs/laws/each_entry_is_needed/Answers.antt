use Rattle.cg_everybody.proofs.Changed.{entry-needed, limits-needed}
use Rattle.cg_everybody.proofs.laws.each_entry_is_needed.Goals as goal

pub returns-clause-entries : goal.returns-clause-entries
returns-clause-entries c = entry-needed

pub returns-clause-limits : goal.returns-clause-limits
returns-clause-limits c = limits-needed
