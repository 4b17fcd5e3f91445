use Rattle.std.proofs.Common.{◌≡◌, List, Option, Ok, ap, ◌∙◌, map, subst}
use Rattle.std.specs.Prelude.{IfOk}
use Rattle.cg_advice.specs.Found.{Let, Raised, advice_parts}
use Rattle.cg_advice.specs.Ways.{pair_of}
use Rattle.cg_cli.specs.AsJson.{parts_report}
use Rattle.cg_cli.proofs.NamedPairs.{paired_there}
use Rattle.cg_cli.proofs.as_json.advise_pairs.advice_said.Goals as goal

pub advice-requires : goal.advice-requires
advice-requires g c =
    paired_there (g.H.Hierarchy.state c.args.tree.now) c.args.users.now c.args.subtrees.now c.requires c.as_slice.result.now
    (ap (map pair_of) c.as_slice.ensures.value ∙ c.in_ok-pairs.ensures)

pub returns : goal.returns
returns g c =
    subst (λ (parts : Option (List Let × List Raised)).
    IfOk c.parts_said.result (λ said. parts_report parts ≡ record { text = said.0.items; ending = Ok said.1 }))
    (c.in_ok-parts.ensures ∙ ap (advice_parts (g.H.Hierarchy.state c.args.tree.now))
    (ap (map pair_of) c.as_slice.ensures.value ∙ c.in_ok-pairs.ensures))
    c.parts_said.ensures
