use Rattle.std.proofs.Common.{◌∙◌, ◌<◌, length, arith}
use Rattle.cg_model.specs.Checks.{subtree_faults}
use Rattle.cg_check.proofs.Pairs.{none-here, some-here, some_length}
use Rattle.cg_check.proofs.first_fault.Goals as goal

pub returns-in-Some-clause-fault : goal.returns-in-Some-clause-fault
returns-in-Some-clause-fault g c =
    some-here (subtree_faults (g.H.Hierarchy.state c.args.tree.now)) c.args.subtrees.now c.loop-subtree.subtree-index c.subtree-item.result
    c.loop-subtree-test.true c.subtree-item.is c.in-Some.fault c.in-Some.ensures.fault
    ∙ c.loop-subtree.invariant.fault

pub loop-subtree-preserved : goal.loop-subtree-preserved
loop-subtree-preserved g c = record {
  fault =
      none-here (subtree_faults (g.H.Hierarchy.state c.args.tree.now)) c.args.subtrees.now c.loop-subtree.subtree-index
      c.subtree-item.result c.loop-subtree-test.true c.subtree-item.is c.in_default.ensures.fault
      ∙ c.loop-subtree.invariant.fault;
  formed = λ _. c.fault_of.ensures.formed c.in_default.is;
}

pub returns-clause-formed : goal.returns-clause-formed
returns-clause-formed g c none some =
    let any : 0 < length c.args.subtrees.now = some_length c.args.subtrees.now some in
    c.loop-subtree.invariant.formed (omega (arith, any, c.loop-subtree-test.false))
