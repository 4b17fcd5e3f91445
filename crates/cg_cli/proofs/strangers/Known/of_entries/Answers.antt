use Rattle.std.proofs.Common.{take, [], ◌++◌, sym, subst, ap, ◌∙◌, append-nil, append_assoc}
use Rattle.std.specs.FinMap as finmap
use Rattle.std.specs.List.{flat_map}
use Rattle.cg_cli.specs.Known.{AreOfEntries}
use Rattle.cg_cli.specs.Strangers.{entries_of, told_entries}
use Rattle.cg_cli.proofs.StrangerLaws.{flat_more}
use Rattle.cg_cli.proofs.strangers.Known.of_entries.Goals as goal

pub loop-files-init : goal.loop-files-init
loop-files-init c =
    subst (λ entries. AreOfEntries c.in_ok-known.known entries [])
    (sym (append-nil (flat_map (λ row. entries_of row.1) (finmap.entries c.args.tree.now.rows)))) c.in_ok-known.ensures

pub loop-files-preserved : goal.loop-files-preserved
loop-files-preserved c =
    let of_cgroups = flat_map (λ row. entries_of row.1) (finmap.entries c.args.tree.now.rows) in
    let told = c.told_entries-files-items.result.now in
    let row = c.loop-files-item.result in
    let before = flat_map (λ one. told_entries one.1) (take c.loop-files.files-index told) in
    subst (λ entries. AreOfEntries c.add_told.new.self entries [])
    (append_assoc of_cgroups before (told_entries row.1) ∙ ap (λ more. of_cgroups ++ more)
    (sym (flat_more (λ one. told_entries one.1) told c.loop-files.files-index row row c.loop-files-test.true c.loop-files-item.is)))
    (c.in_ok-add_told.ensures (of_cgroups ++ before) c.loop-files.invariant)
