use Rattle.std.proofs.Common.{◌≡◌, List, Option, Ok, subst}
use Rattle.std.specs.Prelude.{IfOk}
use Rattle.cg_advice.specs.Found.{Let, Raised}
use Rattle.cg_cli.specs.AsJson.{parts_report}
use Rattle.cg_cli.proofs.as_json.advise.advice_said.Goals as goal

pub returns : goal.returns
returns g c =
    subst (λ (parts : Option (List Let × List Raised)).
    IfOk c.parts_said.result (λ said. parts_report parts ≡ record { text = said.0.items; ending = Ok said.1 }))
    c.in_ok-parts.ensures c.parts_said.ensures
