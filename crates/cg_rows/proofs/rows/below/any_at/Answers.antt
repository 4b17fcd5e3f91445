use Rattle.std.proofs.Common.{rules, take, sym, ◌∙◌}
use Rattle.std.proofs.lemmas.Iterator.Consumers.{YieldsList-from_rest}
use Rattle.std.proofs.lemmas.Iterator.Search.{any_from_yields_List}
use Rattle.std.specs.FinMap.{entries}
use Rattle.cg_cgroup.specs.Paths.{same_path}
use Rattle.cg_model.proofs.MapLaws.{list_any-map}
use Rattle.cg_rows.proofs.rows.below.any_at.Goals as goal

pub returns : goal.returns
returns c =
    let p = take c.args.len c.args.path.now in
    let live = entries c.args.processes.now.live in
    any_from_yields_List (λ e. same_path e.1.place p) _ _ _ c.any.ensures.ran (YieldsList-from_rest live c.iter.ensures)
    (λ x b q t. search rules)
    ∙ sym (list_any-map (λ process. same_path process.place p) (λ e. e.1) live)
