use Rattle.std.proofs.Common.{◌≡◌, List, map, refl, filter_map, codes, Some, None, ap, sym, subst, ◌∙◌}
use Rattle.std.proofs.lemmas.Result.{err_from_is_err_and}
use Rattle.std.specs.List.{list_all}
use Rattle.toml.specs.Data.{Members, as_table}
use Rattle.toml.specs.View.{view, table_view}
use Rattle.cg_model.specs.Clauses.{first}
use Rattle.cg_format.specs.Form.{row_keys, live_keys, is_table}
use Rattle.cg_format.specs.Said.{elements_at, tables_at, known_said}
use Rattle.cg_format.specs.TextFaults.{each_cgroup, row_faults, cgroup_faults}
use Rattle.cg_format.specs.TextOf.{IsDocumentOf}
use Rattle.cg_format.specs.Tables.{AreEntriesOf, AreToldOf}
use Rattle.cg_format.specs.declared.fault.Place.TheVariants.{Top}
use Rattle.cg_format.specs.declared.fault.TreeFault.TheVariants.{BadController}
use Rattle.cg_format.proofs.DocumentOfLaws.{among_these, document_is_of}
use Rattle.cg_text.proofs.DocumentInTurn.{form_fault, controllers_fault, row_fault, cgroup_fault, process_fault, missing_is, all_tables}
use Rattle.cg_text.proofs.TakenLaws.{elements_stay}
use Rattle.cg_text.proofs.tree.tree_of.Goals as goal
use Rattle.cg_text.proofs.tree.tree_of.Goals.{In_ok-controllers, In_ok-rows, In_ok-met, After-elements_at}

-- ---- what has been read

named : (c : In_ok-controllers)
    → known_said c.in_ok-format.format (codes "controllers") (table_view c.args.document) ≡ Some c.in_ok-controllers.controllers
named c = sym c.known_at.ensures ∙ c.in_ok-controllers.ensures.ok_part

alone : (c : In_ok-rows)
    → first (each_cgroup (λ _. row_faults c.in_ok-format.format) (tables_at (codes "cgroup") (table_view c.args.document))) ≡ None
alone c = rw c.take_elements.ensures.taken at c.in_ok-rows.ensures.0

abbrev Tables : In_ok-met → List Members
Tables c = tables_at (codes "cgroup") (table_view c.args.document)

walked : (c : In_ok-met)
    → (first (cgroup_faults c.in_ok-format.format (Some c.in_ok-controllers.controllers) (Tables c)) ≡ None)
    × (AreEntriesOf c.in_ok-format.format (Tables c) c.in_ok-met.met.cgroups.items
    × AreToldOf c.in_ok-format.format (Tables c) c.in_ok-met.met.told.items)
walked c =
    subst (λ tables. (first (cgroup_faults c.in_ok-format.format (Some c.in_ok-controllers.controllers) tables) ≡ None)
    × (AreEntriesOf c.in_ok-format.format tables c.in_ok-met.met.cgroups.items
    × AreToldOf c.in_ok-format.format tables c.in_ok-met.met.told.items))
    (ap (filter_map as_table) c.take_elements.ensures.taken)
    (c.in_ok-met.ensures c.in_ok-format.format _ c.in_ok-rows.ensures.1)

entries : (c : In_ok-met)
    → (first (cgroup_faults c.in_ok-format.format (Some c.in_ok-controllers.controllers) (Tables c)) ≡ None)
    × AreEntriesOf c.in_ok-format.format (Tables c) c.in_ok-met.met.cgroups.items
entries c = ((walked c).0, (walked c).1.0)

-- the processes are those of the whole document
lives : (c : After-elements_at) → map view c.elements_at.result.now ≡ elements_at (codes "process") (table_view c.args.document)
lives c = c.elements_at.ensures ∙ elements_stay (codes "process") (table_view c.take_elements.new.table) (table_view c.args.document)
    (c.take_elements.ensures.others (codes "process") refl)

-- ---- the goals

pub returns-in_err-format : goal.returns-in_err-format
returns-in_err-format c =
    let p = err_from_is_err_and c.from_residual.result c.from_residual.ensures.1 in
    rw (p.1, p.2) (λ other. form_fault (table_view c.args.document) c.in_err-format.field-0.0 (c.in_err-format.ensures other))

pub returns-in_err-controllers : goal.returns-in_err-controllers
returns-in_err-controllers c =
    let p = err_from_is_err_and c.from_residual-in_err-controllers.result c.from_residual-in_err-controllers.ensures.1 in
    let none = c.in_err-controllers.ensures.ok_part in
    let same = missing_is c.known_at.result (BadController Top) c.in_err-controllers.field-0.0
    (sym c.in_err-controllers.ensures.value) none in
    rw (p.1, p.2) (λ _.
    controllers_fault (table_view c.args.document) c.in_ok-format.format c.in_ok-format.ensures.0 c.in_ok-format.ensures.1
    (sym c.known_at.ensures ∙ none)
    ∙ ap Some (sym same))

pub rows_of-requires-clause-tables : goal.rows_of-requires-clause-tables
rows_of-requires-clause-tables c =
    all_tables (row_keys c.in_ok-format.format) c.take_elements.result.items
    (ap (list_all (is_table (row_keys c.in_ok-format.format))) c.take_elements.ensures.taken ∙ c.in_ok-format.ensures.1.cgroups)

pub returns-in_err-rows : goal.returns-in_err-rows
returns-in_err-rows c =
    let p = err_from_is_err_and c.from_residual-in_err-rows.result c.from_residual-in_err-rows.ensures.1 in
    rw (p.1, p.2) (λ other.
    row_fault (table_view c.args.document) c.in_ok-format.format c.in_ok-format.ensures.0 c.in_ok-format.ensures.1 _
    (named (goal.at.returns-in_err-rows c).In_ok-controllers) _ (rw c.take_elements.ensures.taken at (c.in_err-rows.ensures other)))

pub returns-in_err-met : goal.returns-in_err-met
returns-in_err-met c =
    let p = err_from_is_err_and c.from_residual-in_err-met.result c.from_residual-in_err-met.ensures.1 in
    rw (p.1, p.2) (λ other.
    cgroup_fault (table_view c.args.document) c.in_ok-format.format c.in_ok-format.ensures.0 c.in_ok-format.ensures.1 _
    (named (goal.at.returns-in_err-met c).In_ok-controllers) _ (alone (goal.at.returns-in_err-met c).In_ok-rows)
    (sym (ap (λ tables. first (cgroup_faults c.in_ok-format.format (Some c.in_ok-controllers.controllers) (filter_map as_table tables)))
    c.take_elements.ensures.taken)
    ∙ c.in_err-met.ensures c.in_ok-format.format _ c.in_ok-rows.ensures.1 other))

pub processes_of-requires-clause-tables : goal.processes_of-requires-clause-tables
processes_of-requires-clause-tables c =
    all_tables live_keys c.elements_at.result.now
    (ap (list_all (is_table live_keys)) (lives (goal.at.processes_of-requires-clause-tables c).After-elements_at)
    ∙ c.in_ok-format.ensures.1.processes)

pub returns-in_err-processes : goal.returns-in_err-processes
returns-in_err-processes c =
    let p = err_from_is_err_and c.from_residual-in_err-processes.result c.from_residual-in_err-processes.ensures.1 in
    let read = alone (goal.at.returns-in_err-processes c).In_ok-rows in
    let entries = entries (goal.at.returns-in_err-processes c).In_ok-met in
    let document = table_view c.args.document in
    let among = among_these c.in_ok-format.format document c.in_ok-controllers.controllers c.in_ok-met.met.cgroups.items read entries _
    c.from_sorted-cgroups.ensures in
    rw (p.1, p.2) (λ other.
    process_fault document c.in_ok-format.format c.in_ok-format.ensures.0 c.in_ok-format.ensures.1 _
    (named (goal.at.returns-in_err-processes c).In_ok-controllers) _ read entries.0
    (rw (lives (goal.at.returns-in_err-processes c).After-elements_at) at (c.in_err-processes.ensures _ among other)))

pub from_tables-requires : goal.from_tables-requires
from_tables-requires c =
    let read = alone (goal.at.from_tables-requires c).In_ok-rows in
    let entries = entries (goal.at.from_tables-requires c).In_ok-met in
    let document = table_view c.args.document in
    let among = among_these c.in_ok-format.format document c.in_ok-controllers.controllers c.in_ok-met.met.cgroups.items read entries _
    c.from_sorted-cgroups.ensures in
    (document_is_of c.in_ok-format.format document c.in_ok-controllers.controllers c.in_ok-met.met.cgroups.items read entries
    c.in_ok-met.met.told.items (walked (goal.at.from_tables-requires c).In_ok-met).1.1
    c.in_ok-processes.processes.live c.in_ok-processes.processes.used
    (rw (lives (goal.at.from_tables-requires c).After-elements_at) at (c.in_ok-processes.ensures _ among)) _
    c.from_sorted-cgroups.ensures _ c.from_sorted.ensures c.in_ok-format.ensures.1
    (named (goal.at.from_tables-requires c).In_ok-controllers)).formed

pub returns : goal.returns
returns c =
    let read = alone (goal.at.returns c).In_ok-rows in
    let entries = entries (goal.at.returns c).In_ok-met in
    let document = table_view c.args.document in
    let among = among_these c.in_ok-format.format document c.in_ok-controllers.controllers c.in_ok-met.met.cgroups.items read entries _
    c.from_sorted-cgroups.ensures in
    subst (λ rows. IsDocumentOf rows document) (sym c.from_tables.ensures)
    (document_is_of c.in_ok-format.format document c.in_ok-controllers.controllers c.in_ok-met.met.cgroups.items read entries
    c.in_ok-met.met.told.items (walked (goal.at.returns c).In_ok-met).1.1
    c.in_ok-processes.processes.live c.in_ok-processes.processes.used
    (rw (lives (goal.at.returns c).After-elements_at) at (c.in_ok-processes.ensures _ among)) _
    c.from_sorted-cgroups.ensures _ c.from_sorted.ensures c.in_ok-format.ensures.1
    (named (goal.at.returns c).In_ok-controllers))
