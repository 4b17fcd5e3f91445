use Rattle.std.proofs.Common.{◌≢◌, Ok}
use Rattle.cg_cli.specs.Containment.{subtree_report}
use Rattle.cg_cli.specs.Reports.{Report}
use Rattle.cg_cli.specs.Settling.{FurtherSays, IsFurther}
use Rattle.cg_cli.proofs.Asked.{said_keeps}
use Rattle.cg_cli.proofs.SettleReports.{keeps_report}
use Rattle.cg_cli.proofs.laws.settle_keeps_what_check_says.Goals as goal

pub returns : goal.returns
returns c tree uid gids subtree said =
    said_keeps tree uid gids subtree (FurtherSays IsFurther) subtree_report (λ (report : Report). report.ending ≢ Ok 2)
    (λ st user path said. keeps_report st user path said) said
