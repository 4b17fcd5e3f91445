use Rattle.std.proofs.Common.{Some, ap, ◌∙◌}
use Rattle.toml.specs.View.{view}
use Rattle.cg_cgroup.specs.declared.files.EntryName.TheVariants.{Procs, SubtreeControl, File, Other}
use Rattle.cg_text.proofs.TakesLaws.{owner_allowed, limit_allowed, text_allowed, entry_taken}
use Rattle.cg_text.proofs.tree.form.takes_file.Goals as goal

pub returns-in-Some-Procs : goal.returns-in-Some-Procs
returns-in-Some-Procs c =
    entry_taken c.args.format c.args.key.now (view c.args.value.now) Procs _ _ c.entry_at.ensures
    (c.in-Some-Procs.is ∙ ap Some c.in-Some-Procs.field-0-is)
    (c.is_entry.ensures ∙ owner_allowed c.args.format (view c.args.value.now))

pub returns-in-Some-SubtreeControl : goal.returns-in-Some-SubtreeControl
returns-in-Some-SubtreeControl c =
    entry_taken c.args.format c.args.key.now (view c.args.value.now) SubtreeControl _ _ c.entry_at.ensures
    (c.in-Some-SubtreeControl.is ∙ ap Some c.in-Some-SubtreeControl.field-0-is)
    (c.is_entry-in-Some-SubtreeControl.ensures ∙ owner_allowed c.args.format (view c.args.value.now))

pub returns-in-Some-File : goal.returns-in-Some-File
returns-in-Some-File c =
    entry_taken c.args.format c.args.key.now (view c.args.value.now) (File c.in-Some-File.field-0-0) _ _ c.entry_at.ensures
    (c.in-Some-File.is ∙ ap Some c.in-Some-File.field-0-is)
    (c.is_entry-in-Some-File.ensures ∙ limit_allowed c.args.format (view c.args.value.now))

pub returns-in-Some-Other : goal.returns-in-Some-Other
returns-in-Some-Other c =
    entry_taken c.args.format c.args.key.now (view c.args.value.now) (Other c.in-Some-Other.field-0-0) _ _ c.entry_at.ensures
    (c.in-Some-Other.is ∙ ap Some c.in-Some-Other.field-0-is)
    (c.is_entry-in-Some-Other.ensures ∙ text_allowed c.args.format (view c.args.value.now))
