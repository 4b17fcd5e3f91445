use Rattle.std.proofs.Common.{◌≡◌, get_or, sym, ap, subst, ◌∙◌, fold, take, arith}
use Rattle.std.proofs.lemmas.List.{take_all}
use Rattle.std.proofs.lemmas.List.Sums.{fold_more}
use Rattle.std.specs.List.{AllByRecursion}
use Rattle.toml.specs.Data.{table, no_members}
use Rattle.toml.specs.View.{view, table_view, members_view}
use Rattle.toml.proofs.Views.{view-Table}
use Rattle.toml.specs.declared.value.Value.{Table}
use Rattle.cg_cgroup.specs.Texts.{cgroup_procs, cgroup_subtree_control}
use Rattle.cg_cgroup.specs.Files.{all_files}
use Rattle.cg_cgroup.specs.declared.files.LimitFile.TheVariants.{MaxDescendants}
use Rattle.cg_print.specs.Carried.{FileHasIds}
use Rattle.cg_print.specs.Keys.{with_key}
use Rattle.cg_print.specs.Documents.{entry_table, with_file, limits_table}
use Rattle.cg_print.proofs.Entries.{all_more}
use Rattle.cg_print.proofs.cgroups.limits_table.Goals as goal

pub loop-file-init : goal.loop-file-init
loop-file-init c =
    let procs : view (Table c.in_ok-procs.procs) ≡ table (entry_table c.args.cgroup.now.procs) =
    view-Table c.in_ok-procs.procs ∙ ap table c.in_ok-procs.ensures.written in
    let control : view (Table c.in_ok-subtree_control.subtree_control) ≡ table (entry_table c.args.cgroup.now.subtree_control) =
    view-Table c.in_ok-subtree_control.subtree_control ∙ ap table c.in_ok-subtree_control.ensures.written in
    let none : table_view c.new-keys.result ≡ no_members = ap members_view c.new-keys.ensures.empty in
    record {
      written = c.in_ok-put-2.ensures
          ∙ (λ i. with_key cgroup_subtree_control (control i) ((c.in_ok-put.ensures ∙ (λ j. with_key cgroup_procs (procs j) (none j))) i));
      ids = tt;
    }

pub loop-file-preserved : goal.loop-file-preserved
loop-file-preserved c =
    let row = c.args.cgroup.now in
    let i = c.loop-file.file-index in
    let first =
    with_key cgroup_subtree_control (table (entry_table row.subtree_control))
    (with_key cgroup_procs (table (entry_table row.procs)) no_members) in
    record {
      written = c.in_ok-put_file.ensures.written
          ∙ ap (λ keys. with_file row keys (get_or all_files i MaxDescendants)) c.loop-file.invariant.written
          ∙ sym (fold_more (with_file row) first all_files i MaxDescendants c.loop-file-test.true);
      ids =
          all_more (FileHasIds row) all_files i MaxDescendants c.loop-file-test.true c.loop-file.invariant.ids c.in_ok-put_file.ensures.ids;
    }

pub returns-clause-written : goal.returns-clause-written
unfolding limits_table
returns-clause-written c =
    let row = c.args.cgroup.now in
    let all : take c.loop-file.file-index all_files ≡ all_files =
    take_all c.loop-file.file-index all_files (omega (arith, c.loop-file-test.false)) in
    c.loop-file.invariant.written
    ∙ ap (fold (with_file row) (with_key cgroup_subtree_control (table (entry_table row.subtree_control))
    (with_key cgroup_procs (table (entry_table row.procs)) no_members))) all

pub returns-clause-procs : goal.returns-clause-procs
returns-clause-procs c = c.in_ok-procs.ensures.ids

pub returns-clause-subtree_control : goal.returns-clause-subtree_control
returns-clause-subtree_control c = c.in_ok-subtree_control.ensures.ids

pub returns-clause-files : goal.returns-clause-files
returns-clause-files c =
    let all : take c.loop-file.file-index all_files ≡ all_files =
    take_all c.loop-file.file-index all_files (omega (arith, c.loop-file-test.false)) in
    subst (AllByRecursion (FileHasIds c.args.cgroup.now)) all c.loop-file.invariant.ids
