use Rattle.std.proofs.Common.{refl}
use Rattle.cg_places.specs.Nodes.{with_uses}
use Rattle.cg_places.proofs.Seen.{through_seen}
use Rattle.cg_places.proofs.nodes.Nodes.set_uses.Goals as goal

pub returns : goal.returns
returns c =
    through_seen c.self.inside.shared.items c.self.inside.slots c.deref_mut.result.now c.put_uses.new.slots c.args.self.now c.args.at
    (λ slot. record slot { uses = c.args.uses }) (with_uses c.args.uses) c.self.view_is (λ slot. refl) c.deref_mut.ensures.value
    c.put_uses.auto.slots c.put_uses.ensures
