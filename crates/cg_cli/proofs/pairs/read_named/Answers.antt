use Rattle.std.proofs.Common.{map}
use Rattle.std.proofs.lemmas.Result.{err_from_is_err_and}
use Rattle.cg_cli.specs.Pairs.{pair_given}
use Rattle.cg_cli.proofs.NamedReads.{users_met, paths_met, tree_fault_met, all_are}
use Rattle.cg_cli.proofs.pairs.read_named.Goals as goal

pub returns-in_err-users : goal.returns-in_err-users
returns-in_err-users c = λ read is.
    let p = err_from_is_err_and c.from_residual.result c.from_residual.ensures.1 in
    rw (p.1, p.2)
    (users_met (map (λ pair. (pair_given pair).0) c.args.pairs.now) (map (λ pair. (pair_given pair).1) c.args.pairs.now) read
    c.in_err-users.field-0.0 c.in_err-users.ensures.read (λ fault is. let same = c.in_err-users.ensures.faults fault is in cc))

pub returns-in_err-subtrees : goal.returns-in_err-subtrees
returns-in_err-subtrees c = λ read is.
    let p = err_from_is_err_and c.from_residual-in_err-subtrees.result c.from_residual-in_err-subtrees.ensures.1 in
    rw (p.1, p.2)
    (paths_met (map (λ pair. (pair_given pair).0) c.args.pairs.now) (map (λ pair. (pair_given pair).1) c.args.pairs.now) read
    c.in_ok-users.users.items c.in_ok-users.ensures.read c.in_err-subtrees.field-0.0 c.in_err-subtrees.ensures)

pub returns-in_err-tree : goal.returns-in_err-tree
returns-in_err-tree c = λ read is.
    let p = err_from_is_err_and c.from_residual-in_err-tree.result c.from_residual-in_err-tree.ensures.1 in
    rw (p.1, p.2)
    (tree_fault_met (map (λ pair. (pair_given pair).0) c.args.pairs.now) (map (λ pair. (pair_given pair).1) c.args.pairs.now) read
    c.in_ok-users.users.items c.in_ok-users.ensures.read c.in_ok-subtrees.subtrees.items c.in_ok-subtrees.ensures
    c.in_err-tree.field-0.0 (c.in_err-tree.ensures.read read is))

pub returns : goal.returns
returns c = λ read is.
    all_are (map (λ pair. (pair_given pair).0) c.args.pairs.now) (map (λ pair. (pair_given pair).1) c.args.pairs.now) read
    c.in_ok-users.users.items c.in_ok-users.ensures.read c.in_ok-subtrees.subtrees.items c.in_ok-subtrees.ensures
    c.in_ok-tree.tree (c.in_ok-tree.ensures.read read is)
