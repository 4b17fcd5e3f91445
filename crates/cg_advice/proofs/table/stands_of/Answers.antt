use Rattle.std.proofs.Common.{ap, sym, subst, refl, ◌∙◌, ◌++◌, ◌≡◌, map, arith}
use Rattle.std.specs.List.{All}
use Rattle.std.proofs.lemmas.List.Elements.{All-nil, All-push}
use Rattle.cg_advice.specs.declared.pair.Stand.{Stand}
use Rattle.cg_advice.specs.Ways.{no_ways}
use Rattle.cg_advice.specs.Thinned.{spot_of, spots}
use Rattle.cg_advice.proofs.Thinning.{no_stand, one_stand, stands_left}
use Rattle.cg_advice.proofs.table.stands_of.Goals as goal

pub loop-place-init : goal.loop-place-init
loop-place-init g c =
    let st = g.H.Hierarchy.state c.args.tree.now in (
      ap (λ l. map spot_of l ++ spots st c.args.subtree.now) c.new-stands.ensures.items,
      subst (All (λ (stand : Stand). stand.ways ≡ no_ways)) (sym c.new-stands.ensures.items)
          (All-nil (λ (stand : Stand). stand.ways ≡ no_ways)),
    )

pub loop-place-preserved-in_default : goal.loop-place-preserved-in_default
loop-place-preserved-in_default g c = (
  no_stand (g.H.Hierarchy.state c.args.tree.now) c.args.subtree.now c.loop-place.place c.loop-place.stands.items
      c.in_default.ensures.entry ∙ c.loop-place.invariant.0,
  c.loop-place.invariant.1,
)

pub loop-place-preserved : goal.loop-place-preserved
loop-place-preserved g c = (
  one_stand (g.H.Hierarchy.state c.args.tree.now) c.args.subtree.now c.loop-place.place c.loop-place.stands.items c.in-Some.at
      c.in-Some.ensures.entry _ refl c.push.new.self.items c.in_ok-push.ensures.items ∙ c.loop-place.invariant.0,
  subst (All (λ (stand : Stand). stand.ways ≡ no_ways)) (sym c.in_ok-push.ensures.items)
      (All-push (λ (stand : Stand). stand.ways ≡ no_ways) c.loop-place.stands.items _ c.loop-place.invariant.1 c.none-ways.ensures),
)

pub returns-clause-spots : goal.returns-clause-spots
returns-clause-spots g c =
    sym (stands_left (g.H.Hierarchy.state c.args.tree.now) c.args.subtree.now c.loop-place.place c.loop-place.stands.items
    (omega (arith, c.guarded_count-place-end.ensures, c.loop-place-test.false)))
    ∙ c.loop-place.invariant.0

pub returns-clause-ways : goal.returns-clause-ways
returns-clause-ways g c = c.loop-place.invariant.1
