use Rattle.std.proofs.Common.{◌≡◌, Option, Some, option_map, ap, sym, subst, ◌∙◌, arith}
use Rattle.std.proofs.lemmas.List.{take_all}
use Rattle.toml.specs.Data.{Data, Members, table}
use Rattle.toml.proofs.Views.{view-Table}
use Rattle.cg_cgroup.proofs.Options.{same_some}
use Rattle.cg_cgroup.specs.Paths.{Names}
use Rattle.cg_cgroup.specs.declared.files.Vocabulary.{Vocabulary}
use Rattle.cg_cgroup.specs.declared.told.ToldFiles.{ToldFiles}
use Rattle.cg_cgroup.specs.declared.cgroup.Cgroup.{Cgroup}
use Rattle.cg_model.specs.States.{row_at}
use Rattle.cg_print.specs.Carried.{IsNamedRow}
use Rattle.cg_print.specs.Documents.{told_of, cgroup_table}
use Rattle.cg_print.proofs.cgroups.cgroup_value.Goals as goal

pub cgroup_table-requires : goal.cgroup_table-requires
cgroup_table-requires g c =
    let row =
    c.in-Some.ensures.row ∙ ap (row_at (g.H.Hierarchy.state c.args.tree.now))
    (take_all c.depth.result c.args.path.now (omega (arith, c.depth.ensures.depth))) in
    λ file held is. (c.in-Some.ensures.formed.rows c.args.path.now c.in-Some.cgroup.now (sym row)).values file held is

-- the table of a row that is found, with what is told there
shown : (words : Vocabulary) (path : Names) (row : Cgroup) (found : Option Cgroup) (given told : Option ToldFiles)
    (keys : Members) (held : Data) → held ≡ table keys → keys ≡ cgroup_table words path row given → given ≡ told → Some row ≡ found
    → Some held ≡ option_map (λ row. table (cgroup_table words path row told)) found
shown words path row found given told keys held is written same there =
    ap Some (is ∙ ap table (written ∙ ap (cgroup_table words path row) same))
    ∙ ap (option_map (λ (row : Cgroup). table (cgroup_table words path row told))) there

pub returns : goal.returns
returns g c =
    let row =
    c.in-Some.ensures.row ∙ ap (row_at (g.H.Hierarchy.state c.args.tree.now))
    (take_all c.depth.result c.args.path.now (omega (arith, c.depth.ensures.depth))) in
    let st = g.H.Hierarchy.state c.args.tree.now in
    let path : Names = c.args.path.now in
    let told : Option ToldFiles = told_of c.args.vocabulary st path in
    record {
      written =
          shown c.args.vocabulary path c.in-Some.cgroup.now _ _ told _ _ (view-Table c.in_ok-cgroup_table.field-0)
          c.in_ok-cgroup_table.ensures.written c.told_of-told.ensures row;
      named =
          λ other is.
          subst (λ row. IsNamedRow path row told) (same_some c.in-Some.cgroup.now other (row ∙ is))
          (subst (IsNamedRow path c.in-Some.cgroup.now) c.told_of-told.ensures c.in_ok-cgroup_table.ensures.named);
    }
