use Rattle.std.proofs.Common.{◌≡◌, ◌<◌, sym, ap, ◌∙◌, ◌&&◌, subst, [], length, get_or, nat_lt, refl, Bool, not, lt-ltb, le-ltb}
use Rattle.cg_cgroup.specs.declared.files.Controller.TheVariants.{Memory}
use Rattle.cg_cgroup.specs.Files.{enables}
use Rattle.cg_cgroup.specs.Paths.{Names}
use Rattle.cg_cgroup.specs.declared.files.EntryName.TheVariants.{SubtreeControl}
use Rattle.cg_model.specs.WellFormed.{enabled_at}
use Rattle.cg_model.specs.States.{paths_of}
use Rattle.cg_second.specs.Lasting.{is_reached}
use Rattle.cg_second.specs.Greatest.{greatest}
use Rattle.cg_second.specs.Anchors.{is_anchored, is_fixed}
use Rattle.cg_second.proofs.Staying.{end-in, kept-mark, fixed-mark, place-is}
use Rattle.cg_second.proofs.Tallies.{tally-more}
use Rattle.cg_second.proofs.counts.lasting_counts.Goals as goal
use Rattle.cg_second.proofs.counts.lasting_counts.Goals.{then-is_kept, else-is_kept}

pub bounds-anchored-ends : goal.bounds-anchored-ends
bounds-anchored-ends g c =
    let st = g.H.Hierarchy.state c.args.tree.now in
    end-in st c.args.users.now c.requires.formed c.loop-at.at (subst (λ ps. c.loop-at.at < length ps) c.requires.all c.loop-at-test.true)
    c.args.ends.now c.requires.ends (is_anchored st c.args.users.now) c.args.anchored.now c.requires.anchored

pub loop-at-preserved : goal.loop-at-preserved
loop-at-preserved g c =
    let st = g.H.Hierarchy.state c.args.tree.now in
    let users = c.args.users.now in
    let at = c.loop-at.at in
    let short : at < length (paths_of st) = subst (λ ps. at < length ps) c.requires.all c.loop-at-test.true in
    let place : get_or (paths_of st) at [] ≡ get_or c.args.paths.now at [] = ap (λ ps. get_or ps at []) (sym c.requires.all) in
    let kept = nat_lt (get_or c.args.anchored.now at 0) (get_or c.args.anchored.now (get_or c.args.ends.now at 0) 0) in
    let kept-is = kept-mark st users c.requires.formed at short c.args.ends.now c.requires.ends c.args.anchored.now c.requires.anchored in
    let at_path = get_or (paths_of st) at [] in
    let path-is = place-is st c.args.paths.now c.index-paths-at.result at c.requires.all c.loop-at-test.true c.index-paths-at.is in
    let goes : Names → Bool = λ p. enables (enabled_at st p) Memory && not (is_reached st users p SubtreeControl) in
    let fixed-is : c.if-is_kept.is_fixed ≡ is_fixed st users Memory (get_or c.args.paths.now at []) =
    elim c.if-is_kept.branch [
      | then-is_kept w ↦
          w.is_fixed-is
          ∙ ap (λ b. b && w.goes_on_enabling-is_fixed.result) (sym (lt-ltb _ _ w.if-is_kept.true))
          ∙ fixed-mark st users c.requires.formed at short Memory kept w.goes_on_enabling-is_fixed.result kept-is
          (w.goes_on_enabling-is_fixed.ensures ∙ ap goes path-is)
      | else-is_kept w ↦
          w.is_fixed-is ∙ le-ltb _ _ w.if-is_kept.false
          ∙ ap (λ b. b && goes at_path) (sym (le-ltb _ _ w.if-is_kept.false))
          ∙ fixed-mark st users c.requires.formed at short Memory kept (goes at_path) kept-is refl
    ] ∙ ap (is_fixed st users Memory) place in
    record {
      kept =
          tally-more (greatest st users).stays c.args.paths.now at c.loop-at.kept.counts.items c.add.new.self.counts.items
          c.loop-at.kept.count c.add.new.self.count kept c.loop-at.invariant.kept c.loop-at-test.true
          (kept-is ∙ ap (greatest st users).stays place) c.in_ok-add.ensures.counts c.in_ok-add.ensures.count;
      fixed =
          tally-more (is_fixed st users Memory) c.args.paths.now at c.loop-at.fixed.counts.items c.add-in-loop-at.new.self.counts.items
          c.loop-at.fixed.count c.add-in-loop-at.new.self.count c.if-is_kept.is_fixed c.loop-at.invariant.fixed c.loop-at-test.true
          fixed-is
          c.in_ok-add-2.ensures.counts c.in_ok-add-2.ensures.count;
    }
