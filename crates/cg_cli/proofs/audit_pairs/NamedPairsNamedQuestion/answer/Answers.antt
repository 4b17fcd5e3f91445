use Rattle.std.proofs.Common.{List, Ok, refl, ap, sym, ◌∙◌, map, subst}
use Rattle.cg_model.specs.Mends.{Pair}
use Rattle.cg_advice.specs.Ways.{pair_of}
use Rattle.cg_cli.specs.Advising.{paired}
use Rattle.cg_cli.specs.AllPairs.{ReportsPairsBy}
use Rattle.cg_cli.specs.EachPair.{pairs_listed}
use Rattle.cg_cli.specs.Formats.{listing_in}
use Rattle.cg_cli.proofs.AllPairs.{by_pairs}
use Rattle.cg_cli.proofs.EachPair.{unlisted-as-named, each_status}
use Rattle.cg_cli.proofs.NamedPairs.{paired_there}
use Rattle.cg_cli.proofs.audit_pairs.NamedPairsNamedQuestion.answer.Goals as goal

pub write_listing-requires : goal.write_listing-requires
write_listing-requires g c = record {
  there =
      paired_there (g.H.Hierarchy.state c.args.tree.now) c.args.users.now c.args.subtrees.now (sym c.in_default.ensures.fault)
      c.as_slice.result.now (ap (map pair_of) c.as_slice.ensures.value ∙ c.in_ok-pairs.ensures);
}

pub returns : goal.returns
returns g c =
    let st = g.H.Hierarchy.state c.args.tree.now in
    let users = c.args.users.now in
    let subtrees = c.args.subtrees.now in
    let old = g.W.Write.contents c.args.out.now in
    let new = g.W.Write.contents c.write_listing.new.out in (
      by_pairs (listing_in c.args.self.now.format) st subtrees (pairs_listed st (paired users subtrees)) c.in_default.ensures.fault old
          new c.write_listing.result
          (subst (λ (l : List Pair). ReportsPairsBy (listing_in c.args.self.now.format) (Ok (pairs_listed st l)) old new
          c.write_listing.result)
          (ap (map pair_of) c.as_slice.ensures.value ∙ c.in_ok-pairs.ensures) c.write_listing.ensures),
      each_status c.write_listing.result
          (unlisted-as-named st users subtrees (sym c.in_default.ensures.fault) (c.in_default.ensures.formed refl)),
    )
