use Rattle.std.proofs.Common.{[], ◌++◌, arith}
use Rattle.std.proofs.KnownBytes.{Consumes-nil, Consumes-trans}
use Rattle.cg_cli.specs.Replaying.{standing_of, coming}
use Rattle.cg_cli.proofs.ReplayEnds.{leads_nowhere, leads_on}
use Rattle.cg_cli.proofs.ReplayReads.{from_fault, from_end}
use Rattle.cg_cli.proofs.replay.reader.replay_reader.Goals as goal

pub loop-asked-init : goal.loop-asked-init
loop-asked-init g c = record {
  waiting = c.requires;
  asked = omega arith;
  given = [];
  gave = Consumes-nil (g.R.Read.remaining c.args.ops.now);
  way = leads_nowhere _ _;
}

pub loop-asked-preserved : goal.loop-asked-preserved
loop-asked-preserved g c =
    let told = c.loop-asked.invariant in
    let on = c.in_ok-read_on.ensures in
    record {
      waiting = on.waiting;
      asked = omega (arith, told.asked, on.taken, c.if-branch-eq0.false);
      given = told.given ++ on.read.0;
      gave =
          Consumes-trans (g.R.Read.remaining c.args.ops.now) (g.R.Read.remaining c.loop-asked.ops) (g.R.Read.remaining c.read_on.new.ops)
          told.given on.read.0 told.gave on.read.2;
      way = leads_on told.way on.read.3;
    }

pub returns-in_err-read_on : goal.returns-in_err-read_on
returns-in_err-read_on g c =
    let told = c.loop-asked.invariant in
    from_fault told.waiting told.way (g.R.Read.remaining c.args.ops.now) (g.R.Read.remaining c.loop-asked.ops) told.gave
    g.C.OnCourse.course (coming (standing_of g.C.OnCourse.course c.read_on.new.run))
    (g.R.Read.remaining c.read_on.new.ops) (g.W.Write.contents c.read_on.new.out) c.in_err-read_on.field-0.0 c.in_err-read_on.ensures.read
    c.from_residual.result c.from_residual.ensures.1

pub returns-then-branch-eq0 : goal.returns-then-branch-eq0
returns-then-branch-eq0 g c =
    let told = c.loop-asked.invariant in
    let on = c.in_ok-read_on.ensures in
    from_end on.waiting told.way (g.R.Read.remaining c.args.ops.now) (g.R.Read.remaining c.loop-asked.ops)
    (g.R.Read.remaining c.read_on.new.ops) told.gave (g.W.Write.contents c.read_on.new.out) _ c.if-branch-eq0.true on.read _ c.end.ensures
