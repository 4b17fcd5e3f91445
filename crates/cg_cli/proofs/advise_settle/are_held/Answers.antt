use Rattle.std.proofs.Common.{List, length, nat_eq, ap, sym, ◌∙◌}
use Rattle.std.proofs.lemmas.Bool.{eqb-true}
use Rattle.cg_cgroup.specs.Paths.{Names}
use Rattle.cg_cli.proofs.FurtherAdvice.{sub_at, held_none}
use Rattle.cg_cli.proofs.advise_settle.are_held.Goals as goal

pub second_rows-requires : goal.second_rows-requires
second_rows-requires g c = record {
  formed =
      c.requires.formed (λ none.
      let same = c.if-is_empty.ensures ∙ ap (λ (l : List Names). nat_eq (length l) 0) none in
      let never : ⊥ = cc in never);
  subtrees = sub_at (g.H.Hierarchy.state c.args.tree.now) c.args.users.now c.args.subtrees.now c.requires.there;
}

pub returns-then-is_empty : goal.returns-then-is_empty
returns-then-is_empty g c =
    held_none (g.H.Hierarchy.state c.args.tree.now) c.args.users.now c.args.subtrees.now (eqb-true _ 0 (sym c.if-is_empty.ensures))
