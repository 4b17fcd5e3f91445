use Rattle.std.proofs.Common.{refl}
use Rattle.cg_places.specs.Nodes.{with_live}
use Rattle.cg_places.proofs.Seen.{through_seen}
use Rattle.cg_places.proofs.nodes.Nodes.set_live.Goals as goal

pub returns : goal.returns
returns c =
    through_seen c.self.inside.shared.items c.self.inside.slots c.deref_mut.result.now c.put_live.new.slots c.args.self.now c.args.at
    (λ slot. record slot { live = c.args.live }) (with_live c.args.live) c.self.view_is (λ slot. refl) c.deref_mut.ensures.value
    c.put_live.auto.slots c.put_live.ensures
