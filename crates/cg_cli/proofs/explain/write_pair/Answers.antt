use Rattle.std.proofs.Common.{◌∙◌, sym, subst}
use Rattle.std.specs.Io.KnownBytes.{Appends}
use Rattle.std.proofs.KnownBytes.{Keeps-refl}
use Rattle.std.proofs.lemmas.Result.{err_from_is_err_and}
use Rattle.streams.specs.Written.{AppendsPart}
use Rattle.cg_advice.specs.Ways.{pair_of}
use Rattle.cg_cli.specs.Formats.{told_in}
use Rattle.cg_cli.proofs.SettleReports.{settled_is_shown}
use Rattle.cg_cli.proofs.Explaining.{settle_wants}
use Rattle.cg_cli.proofs.explain.write_pair.Goals as goal

pub returns-in_err-answer : goal.returns-in_err-answer
returns-in_err-answer g c =
    let p = err_from_is_err_and c.from_residual.result c.from_residual.ensures.1 in
    rw (p.1, p.2)
    (settle_wants (told_in c.args.format) (g.H.Hierarchy.state c.args.tree.now) (pair_of c.args.pair.now) c.requires.there
    c.in_err-answer.field-0.0 c.in_err-answer.ensures.fault (g.W.Write.contents c.args.out.now))

pub told-requires : goal.told-requires
told-requires g c = record {
  formed = c.requires.formed;
  subtree = c.requires.there;
  answer =
      settled_is_shown (g.H.Hierarchy.state c.args.tree.now) c.args.pair.now.user.now c.args.pair.now.subtree.now c.in_ok-answer.answer
      c.in_ok-answer.ensures.settled;
}

pub returns-in_err-text : goal.returns-in_err-text
returns-in_err-text g c =
    let p = err_from_is_err_and c.from_residual-in_err-text.result c.from_residual-in_err-text.ensures.1 in
    rw (p.1, p.2) (Keeps-refl (g.W.Write.contents c.args.out.now))

pub returns-in_err-write_whole : goal.returns-in_err-write_whole
returns-in_err-write_whole g c =
    let p = err_from_is_err_and c.from_residual-in_err-write_whole.result c.from_residual-in_err-write_whole.ensures.1 in
    rw (p.1, p.2) (
      c.in_ok-answer.answer,
      c.in_ok-answer.ensures.settled,
      subst (AppendsPart (g.W.Write.contents c.args.out.now) (g.W.Write.contents c.write_whole.new.out))
          (c.as_slice.ensures.value ∙ c.in_ok-text.ensures) c.in_err-write_whole.ensures.err,
    )

pub returns : goal.returns
returns g c = (
  c.in_ok-answer.answer,
  c.in_ok-answer.ensures.settled,
  sym c.status.ensures,
  subst (Appends (g.W.Write.contents c.args.out.now) (g.W.Write.contents c.write_whole.new.out))
      (c.as_slice.ensures.value ∙ c.in_ok-text.ensures) c.in_ok-write_whole.ensures.ok,
)
