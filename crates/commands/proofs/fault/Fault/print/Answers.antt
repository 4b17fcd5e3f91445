use Rattle.commands.proofs.FaultLaws.{prints_memory, prints_told}
use Rattle.commands.specs.declared.fault.Fault.TheVariants.{Usage}
use Rattle.commands.proofs.fault.Fault.print.Goals as goal

pub returns-in-Usage : goal.returns-in-Usage
returns-in-Usage g c =
    rw c.in-Usage.is
    (prints_told Usage c.written.result (g.W.Write.contents c.args.out.now) (g.W.Write.contents c.written.new.out) c.written.ensures.told
    c.written.ensures.fault)

pub returns-in-Err : goal.returns-in-Err
returns-in-Err g c =
    let written = c.write_whole in
    let old = g.W.Write.contents c.args.out.now in
    let new = g.W.Write.contents written.new.out in
    rw c.in-Cli.is (prints_memory c.in-Cli.fault written.result old new written.ensures.ok written.ensures.err)
