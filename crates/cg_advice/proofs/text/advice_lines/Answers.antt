use Rattle.std.proofs.Common.{ap, ◌∙◌, ◌++◌, cond, map, Some, None}
use Rattle.std.specs.List.{flat_map}
use Rattle.cg_cgroup.specs.Paths.{same_path}
use Rattle.cg_model.specs.Once.{once}
use Rattle.cg_model.specs.Mends.{same_place}
use Rattle.cg_advice.specs.AdviceLines.{over_lines, pairs_lines}
use Rattle.cg_advice.specs.Ways.{pair_of, entering, gathered_lines}
use Rattle.cg_advice.specs.Thinned.{table_path}
use Rattle.cg_advice.proofs.Thinning.{all_thinned}
use Rattle.cg_advice.proofs.text.advice_lines.Goals as goal

pub returns-clause-lines : goal.returns-clause-lines
returns-clause-lines g c =
    let st = g.H.Hierarchy.state c.args.tree.now in
    let pairs = map pair_of c.args.pairs.now in
    let entries = c.push_entries.new.text.items in
    ap Some (all_thinned st pairs (map entering c.in_ok-met.met.entrants.items) c.in_ok-met.met.tables.items c.new-text.result.items entries
    c.push_all_limits.new.text.items c.new-text.ensures.items c.in_ok-met.ensures
    (c.in_ok-push_entries.ensures
    ∙ ap (λ those. c.new-text.result.items ++ flat_map (gathered_lines (map entering those)) (once same_place (map entering those)))
    c.as_slice.ensures.value)
    (c.in_ok-push_all_limits.ensures
    ∙ ap (λ tables. entries ++ flat_map (over_lines st) (once same_path (map table_path tables))) c.as_slice-2.ensures.value))
    ∙ ap (λ guarded. cond guarded None (Some (pairs_lines st pairs))) c.if-are_guarded.ensures
