use Rattle.std.specs.Option.{option_map}
use Rattle.cg_cli.specs.Replays.{closed_in}
use Rattle.cg_cli.specs.Replaying.{ReplaysFrom}
use Rattle.cg_cli.proofs.ReplayCalls.{course_fault_from, lines_are, user_fault_from}
use Rattle.cg_cli.proofs.ReadingOf.{on_text}
use Rattle.cg_cli.proofs.replay.reader.replay_from_in.Goals as goal
use Rattle.cg_format.specs.Readings.{vocabulary_in}

pub returns-in_err-user-clause-replays : goal.returns-in_err-user-clause-replays
returns-in_err-user-clause-replays g c = on_text c.args.tree.now (λ read is.
    user_fault_from c.args.format (vocabulary_in c.args.tree.now) read c.args.user.uid c.args.user.gids.now
    (option_map (λ text. text.now) c.args.subtree)
    (g.R.Read.remaining c.args.ops.now) (g.W.Write.contents c.args.out.now)
    c.in_err-user.field-0.0 c.in_err-user.ensures c.from_residual.result c.from_residual.ensures.1)

pub returns-in_err-vocabulary-clause-replays : goal.returns-in_err-vocabulary-clause-replays
returns-in_err-vocabulary-clause-replays g c = on_text c.args.tree.now (λ read is.
    course_fault_from c.args.format (vocabulary_in c.args.tree.now) read c.args.user.uid c.args.user.gids.now
    (option_map (λ text. text.now) c.args.subtree) c.in_ok-user.user c.in_ok-user.ensures
    (g.R.Read.remaining c.args.ops.now) (g.W.Write.contents c.args.out.now) c.in_err-vocabulary.field-0.0
    (c.in_err-vocabulary.ensures.read read is) c.from_residual-in_err-vocabulary.result c.from_residual-in_err-vocabulary.ensures.1)

pub returns-clause-replays : goal.returns-clause-replays
returns-clause-replays g c =
    let after = c.reader_closed in
    on_text c.args.tree.now (λ read is.
    lines_are c.args.format (vocabulary_in c.args.tree.now) read c.args.user.uid c.args.user.gids.now
    (option_map (λ text. text.now) c.args.subtree) c.in_ok-user.user c.in_ok-user.ensures _ (c.in_ok-vocabulary.ensures.read read is)
    (λ lines. ReplaysFrom (closed_in c.args.format) lines (g.R.Read.remaining c.args.ops.now) (g.R.Read.remaining after.new.ops)
    (g.W.Write.contents c.args.out.now) (g.W.Write.contents after.new.out) after.result)
    (rw c.in_ok-vocabulary.ensures.vocabulary at after.ensures))
