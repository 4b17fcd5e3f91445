use Rattle.std.proofs.Common.{map, ap}
use Rattle.cg_cli.specs.Asking.{read_takes_memory}
use Rattle.std.proofs.lemmas.Result.{err_from_is_err_and}
use Rattle.cg_cli.proofs.NamedReads.{users_met, paths_met, tree_fault_met, all_are}
use Rattle.cg_cli.proofs.named.read_named.Goals as goal

pub returns-in_err-users-clause-named : goal.returns-in_err-users-clause-named
returns-in_err-users-clause-named c = λ read is.
    let p = err_from_is_err_and c.from_residual.result c.from_residual.ensures.1 in
    rw (p.1, p.2)
    (users_met (map (λ user. (user.uid, user.gids.now)) c.args.users.now) (map (λ text. text.now) c.args.subtrees.now) read
    c.in_err-users.field-0.0 c.in_err-users.ensures.read (λ fault is. let same = c.in_err-users.ensures.faults fault is in cc))

pub returns-in_err-subtrees-clause-named : goal.returns-in_err-subtrees-clause-named
returns-in_err-subtrees-clause-named c = λ read is.
    let p = err_from_is_err_and c.from_residual-in_err-subtrees.result c.from_residual-in_err-subtrees.ensures.1 in
    rw (p.1, p.2)
    (paths_met (map (λ user. (user.uid, user.gids.now)) c.args.users.now) (map (λ text. text.now) c.args.subtrees.now) read
    c.in_ok-users.ensures.read.0 c.in_ok-users.ensures.read.1 c.in_err-subtrees.field-0.0 c.in_err-subtrees.ensures)

pub returns-in_err-tree-clause-named : goal.returns-in_err-tree-clause-named
returns-in_err-tree-clause-named c = λ read is.
    let p = err_from_is_err_and c.from_residual-in_err-tree.result c.from_residual-in_err-tree.ensures.1 in
    rw (p.1, p.2)
    (tree_fault_met (map (λ user. (user.uid, user.gids.now)) c.args.users.now) (map (λ text. text.now) c.args.subtrees.now) read
    c.in_ok-users.ensures.read.0 c.in_ok-users.ensures.read.1 c.in_ok-subtrees.ensures.0 c.in_ok-subtrees.ensures.1
    c.in_err-tree.field-0.0 (c.in_err-tree.ensures.read read is))

pub returns-in_err-stranger-clause-named : goal.returns-in_err-stranger-clause-named
returns-in_err-stranger-clause-named c = λ read is.
    let p = err_from_is_err_and c.from_residual-in_err-stranger.result c.from_residual-in_err-stranger.ensures.1 in
    rw (p.1, p.2)
    (ap read_takes_memory
    (all_are (map (λ user. (user.uid, user.gids.now)) c.args.users.now) (map (λ text. text.now) c.args.subtrees.now) read
    c.in_ok-users.ensures.read.0 c.in_ok-users.ensures.read.1 c.in_ok-subtrees.ensures.0 c.in_ok-subtrees.ensures.1
    c.in_ok-tree.tree (c.in_ok-tree.ensures.read read is)))

pub returns-clause-named : goal.returns-clause-named
returns-clause-named c = λ read is. record {
  all_users = c.in_ok-users.ensures.read.0;
  all_subtrees = c.in_ok-subtrees.ensures.0;
  is =
      all_are (map (λ user. (user.uid, user.gids.now)) c.args.users.now) (map (λ text. text.now) c.args.subtrees.now) read
      c.in_ok-users.ensures.read.0 c.in_ok-users.ensures.read.1 c.in_ok-subtrees.ensures.0 c.in_ok-subtrees.ensures.1
      c.in_ok-tree.tree (c.in_ok-tree.ensures.read read is);
  of_users = c.in_ok-users.ensures.read.2;
  of_subtrees = c.in_ok-subtrees.ensures.2;
}
