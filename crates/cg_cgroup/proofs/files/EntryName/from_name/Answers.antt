use Rattle.std.proofs.Common.{None, sym, ◌∙◌}
use Rattle.cg_cgroup.proofs.NameLaws.{entry_parts, entry_found, entry_missed}
use Rattle.cg_cgroup.proofs.files.EntryName.from_name.Goals as goal

pub returns-in-None-clause-found : goal.returns-in-None-clause-found
returns-in-None-clause-found c =
    entry_parts c.args.text.now None c.beyond.result (sym c.in-None.is ∙ c.in_format_2.ensures.found) c.beyond.ensures

pub returns-in-None-clause-named : goal.returns-in-None-clause-named
returns-in-None-clause-named c = entry_found c.args.text.now c.beyond.result (returns-in-None-clause-found c)

pub returns-in-None-clause-unnamed : goal.returns-in-None-clause-unnamed
returns-in-None-clause-unnamed c = entry_missed c.args.text.now c.beyond.result (returns-in-None-clause-found c)
