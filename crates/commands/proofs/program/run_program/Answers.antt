use Rattle.std.specs.Prelude.{ℕ, List, map, string_bytes, None, Err}
use Rattle.commands.proofs.RequestLaws.{Keeps-refl}
use Rattle.commands.proofs.ProgramLaws.{on_writer}
use Rattle.commands.proofs.YesLaws.{program_checks, program_audits, program_audits_everybody}
use Rattle.commands.proofs.program.run_program.Goals as goal

pub returns-in-Err : goal.returns-in-Err
returns-in-Err g c = record {
  runs = (
    Err c.of_words.result,
    record { mode = None; stranger = None; missing = None },
    c.status_told-status.ensures.status,
    c.status_told-status.ensures.told,
    rw c.in-Err.is (Keeps-refl (g.W.Write.contents c.args.out), c.of_words.ensures),
  );
  check = rw c.in-Err.is tt;
  audit = rw c.in-Err.is tt;
  everybody = rw c.in-Err.is tt;
}

pub returns-in-Ok : goal.returns-in-Ok
returns-in-Ok g c =
    let (answer, beside, status, told, ran) = rw c.as_slice.ensures.value at c.run_line.ensures in
    let words : List (List ℕ) = map string_bytes c.in-Ok.words.items in
    record {
      runs = (answer, beside, status, told, on_writer c.run_line.result.out _ _ _ (λ below runs. rw c.in-Ok.is runs) ran);
      check = rw c.in-Ok.is (program_checks g.W.Write.contents _ words (g.F.Files.given c.args.files.now) (g.I.Read.remaining c.args.input)
          (g.W.Write.contents c.args.out) answer c.run_line.result.status status (λ below run. (run.0, run.1)) c.run_line.result.out ran);
      audit = rw c.in-Ok.is (program_audits g.W.Write.contents _ words (g.F.Files.given c.args.files.now) (g.I.Read.remaining c.args.input)
          (g.W.Write.contents c.args.out) answer c.run_line.result.status status (λ below run. (run.0, run.1)) c.run_line.result.out ran);
      everybody = rw c.in-Ok.is (program_audits_everybody g.W.Write.contents _ words (g.F.Files.given c.args.files.now)
          (g.I.Read.remaining c.args.input) (g.W.Write.contents c.args.out) answer c.run_line.result.status status
          (λ below run. (run.0, run.1)) c.run_line.result.out ran);
    }
