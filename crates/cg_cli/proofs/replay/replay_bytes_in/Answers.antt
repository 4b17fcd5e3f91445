use Rattle.std.proofs.Common.{rules}
use Rattle.std.specs.Option.{option_map}
use Rattle.cg_cli.specs.Replays.{closed_in}
use Rattle.cg_cli.specs.Replaying.{Replays}
use Rattle.cg_cli.proofs.ReplayCalls.{course_fault, lines_are}
use Rattle.cg_cli.proofs.ReadingOf.{on_text}
use Rattle.cg_cli.proofs.replay.replay_bytes_in.Goals as goal
use Rattle.cg_format.specs.Readings.{vocabulary_in}

pub returns-in_err-user-clause-replays : goal.returns-in_err-user-clause-replays
returns-in_err-user-clause-replays g c = on_text c.args.tree.now (λ read is. search rules)

pub returns-in_err-vocabulary-clause-replays : goal.returns-in_err-vocabulary-clause-replays
returns-in_err-vocabulary-clause-replays g c = on_text c.args.tree.now (λ read is.
    course_fault c.args.format (vocabulary_in c.args.tree.now) read c.args.user.uid c.args.user.gids.now
    (option_map (λ text. text.now) c.args.subtree) c.in_ok-user.user c.in_ok-user.ensures c.args.ops.now
    (g.W.Write.contents c.args.out.now) c.in_err-vocabulary.field-0.0 (c.in_err-vocabulary.ensures.read read is)
    c.from_residual-in_err-vocabulary.result c.from_residual-in_err-vocabulary.ensures.1)

pub returns-clause-replays : goal.returns-clause-replays
returns-clause-replays g c = on_text c.args.tree.now (λ read is.
    lines_are c.args.format (vocabulary_in c.args.tree.now) read c.args.user.uid c.args.user.gids.now
    (option_map (λ text. text.now) c.args.subtree) c.in_ok-user.user c.in_ok-user.ensures _ (c.in_ok-vocabulary.ensures.read read is)
    (λ lines. Replays (closed_in c.args.format) lines c.args.ops.now (g.W.Write.contents c.args.out.now)
    (g.W.Write.contents c.slice_closed.new.out) c.slice_closed.result) (rw c.in_ok-vocabulary.ensures.vocabulary at c.slice_closed.ensures))
