use Rattle.std.proofs.Common.{ap, sym, subst, take, nat_lt, ◌∙◌}
use Rattle.cg_model.specs.States.{count_below}
use Rattle.cg_model.specs.WellFormed.{IsWellFormed, has_row}
use Rattle.cg_indexed.proofs.Living.{has_child-counted}
use Rattle.cg_indexed.proofs.indexed.IndexedHierarchy.has_child.Goals as goal

pub count_below-requires-clause-there : goal.count_below-requires-clause-there
count_below-requires-clause-there c = ap (λ s. has_row s (take c.args.len c.args.path.now)) c.self.view_is ∙ c.requires.there

pub returns : goal.returns
returns c =
    let q = take c.args.len c.args.path.now in
    ap (nat_lt 0) (c.count_below.ensures ∙ ap (λ s. count_below s q) c.self.view_is)
    ∙ sym (has_child-counted c.args.self.now (subst IsWellFormed c.self.view_is c.self.invariant.formed) q)
