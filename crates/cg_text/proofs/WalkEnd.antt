-- What the walk's end answers: the entries of the tables, and what these tell, or the first fault of the rows together.
use Rattle.std.proofs.Common.{◌≡◌, Bool, List, [], Some, None, Result, Ok, Err, Vec, Global, sym, ap, subst, ◌∙◌}
use Rattle.std.specs.List.Sorted.{IsStableByKey}
use Rattle.toml.specs.Data.{Members}
use Rattle.cg_cgroup.specs.Paths.{path_cmp}
use Rattle.cg_cgroup.specs.declared.controllers.ControllerSet.{ControllerSet}
use Rattle.cg_cgroup.specs.declared.path.Path.{Path}
use Rattle.cg_cgroup.specs.declared.cgroup.Cgroup.{Cgroup}
use Rattle.cg_cgroup.specs.declared.told.ToldFiles.{ToldFiles}
use Rattle.cg_model.specs.Clauses.{first}
use Rattle.cg_text.specs.Faults.{Passes}
use Rattle.cg_format.specs.TextFaults.{cgroup_faults}
use Rattle.cg_text.specs.Rows.{AreReadAs}
use Rattle.cg_format.specs.Tables.{AreEntriesOf, AreToldOf}
use Rattle.cg_text.specs.Walk.{entries_from, least_fault, has_root, AreInOrder, HasMet}
use Rattle.cg_format.specs.declared.fault.TreeFault.{TreeFault}
use Rattle.cg_format.specs.declared.format.Format.{Format}
use Rattle.cg_text.specs.declared.tree.row.Row.{Row}
use Rattle.cg_text.specs.declared.tree.walk.Walk.{Walk}
use Rattle.cg_text.specs.declared.tree.walk.WalkedRows.{WalkedRows}
use Rattle.cg_text.proofs.EntriesLaws.{entries_of_tables}
use Rattle.cg_text.proofs.LeastLaws.{least_fault_is_first}
use Rattle.cg_text.proofs.TellLaws.{told_of_tables}

abbrev Entries : Type 0
Entries = Vec (Path × Cgroup) Global

abbrev Told : Type 0
Told = Vec (Path × ToldFiles) Global

module _ (format : Format) (controllers : ControllerSet) (tables : List Members) (rows sorted : List Row) (walk : Walk) where
  pub walked_is : (result : Result WalkedRows TreeFault) → AreReadAs format 1 tables rows → AreInOrder sorted
      → IsStableByKey (λ row. row.path) path_cmp rows sorted → HasMet controllers sorted walk
      → Passes (λ walked. (walked.cgroups ≡ walk.entries) × (walked.told ≡ walk.told))
      (least_fault walk.least (has_root walk.entries.items)) result
      → Passes (λ (walked : WalkedRows). AreEntriesOf format tables walked.cgroups.items × AreToldOf format tables walked.told.items)
      (first (cgroup_faults format (Some controllers) tables)) result
  walked_is (Ok walked) read order stable met passes =
      let root : Bool = has_root (entries_from [] sorted) in
      let fault_is = least_fault_is_first format controllers tables rows sorted walk.least read order stable met.tested in
      let none : least_fault walk.least root ≡ None = ap (λ some. least_fault walk.least (has_root some)) (sym met.entries) ∙ passes.0 in (
        fault_is ∙ none,
        (
          subst (λ some. AreEntriesOf format tables some) (sym (ap (λ (entries : Entries). entries.items) passes.1.0 ∙ met.entries))
              (entries_of_tables format tables rows sorted controllers walk.least root read order stable met.tested none),
          subst (λ some. AreToldOf format tables some) (sym (ap (λ (told : Told). told.items) passes.1.1 ∙ met.told))
              (told_of_tables format tables rows sorted controllers walk.least root read order stable met.tested none),
        ),
      )
  walked_is (Err fault) read order stable met passes = λ found.
      least_fault_is_first format controllers tables rows sorted walk.least read order stable met.tested
      ∙ ap (λ some. least_fault walk.least (has_root some)) (sym met.entries) ∙ passes found
