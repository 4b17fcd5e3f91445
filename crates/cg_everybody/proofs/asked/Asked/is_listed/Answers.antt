use Rattle.std.proofs.Common.{◌∙◌, sym, nat_eq}
use Rattle.cg_everybody.specs.Everybody.{members_of}
use Rattle.cg_everybody.proofs.Listing.{any-map}
use Rattle.cg_everybody.proofs.asked.Asked.is_listed.Goals as goal

pub returns : goal.returns
returns c = c.any_of.ensures ∙ sym (any-map (λ group. nat_eq group.0 c.args.gid) members_of c.args.self.now.groups.now)
