use Rattle.commands.proofs.ProgramLaws.{on_writer}
use Rattle.commands.proofs.program.run_line.Goals as goal

pub returns : goal.returns
returns g c =
    let ran = rw c.new-input.ensures.inner at c.run-ended.ensures.answer in
    let beside = rw c.new-input.ensures.inner at c.run-ended.ensures.beside in (
      c.run-ended.result.answer,
      c.run-ended.new.noted.beside,
      c.status_told-status.ensures.status,
      c.status_told-status.ensures.told,
      on_writer c.run-ended.result.out _ _ _ (λ below runs. (c.run-ended.result.written, runs, beside)) ran,
    )
