use Rattle.std.proofs.Common.{◌∙◌, ◌&&◌, sym, nat_eq}
use Rattle.std.specs.List.{list_any}
use Rattle.machine_everybody.specs.Everybody.{is_other}
use Rattle.cg_everybody.specs.Everybody.{everybody_of, members_of}
use Rattle.cg_everybody.proofs.Listing.{any-map}
use Rattle.cg_everybody.proofs.asked.Asked.has_listed.Goals as goal

pub returns : goal.returns
returns c =
    c.any_with_other.ensures
    ∙ sym (any-map
    (λ group. nat_eq group.0 c.args.entry.now.gid && list_any (is_other (everybody_of c.args.self.now) c.args.entry.now) group.1)
    members_of c.args.self.now.groups.now)
