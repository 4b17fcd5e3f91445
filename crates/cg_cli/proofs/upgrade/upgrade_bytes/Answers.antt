use Rattle.std.proofs.Common.{subst, rules}
use Rattle.cg_format.specs.Readings.{IsReading}
use Rattle.cg_cli.proofs.ReadingOf.{on_text}
use Rattle.cg_cli.proofs.UpgradeReports.{written_anew, nothing_written}
use Rattle.cg_print.proofs.ReadCarried.{read_carried}
use Rattle.cg_print.specs.Carried.{IsCarried}
use Rattle.cg_cli.specs.Upgrades.{IsNewText}
use Rattle.cg_cli.proofs.upgrade.upgrade_bytes.Goals as goal
use Rattle.cg_format.specs.Readings.{vocabulary_in}

pub returns-in_err-read : goal.returns-in_err-read
returns-in_err-read g c = record {
  report = on_text c.args.tree.now (λ read is.
      nothing_written (vocabulary_in c.args.tree.now) read c.in_err-read.field-0.0 (g.W.Write.contents c.args.out.now)
      (c.in_err-read.ensures.read read is)
      c.from_residual.result c.from_residual.ensures.1);
}

pub returns-in_err-text : goal.returns-in_err-text
returns-in_err-text g c =
    record { report = on_text c.args.tree.now (λ read is. let found = c.in_ok-read.ensures.read read is in search rules) }

pub returns : goal.returns
returns g c =
    let bytes = c.args.tree.now in
    let rows = c.in_ok-read.read.rows in
    let text = c.in_ok-text.ensures in
    record {
      report = on_text bytes (λ read is.
          let found = c.in_ok-read.ensures.read read is in
          written_anew (vocabulary_in bytes) read c.in_ok-text.text.items rows found (read_carried bytes rows (subst
          (IsReading bytes) found is))
          (subst (λ vocabulary. IsCarried vocabulary rows
          → IsNewText vocabulary rows c.in_ok-text.text.items) c.in_ok-read.ensures.vocabulary
          (λ carried. record { document = text.document; spelled = text.spelled; state = text.state carried }))
          (g.W.Write.contents c.args.out.now) (g.W.Write.contents c.write_said.new.out) c.write_said.result c.write_said.ensures);
    }
