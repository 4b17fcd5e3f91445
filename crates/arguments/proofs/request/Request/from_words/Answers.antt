-- What `clap` promises of the words, at the program's own command line.
use Rattle.std.proofs.Common.{◌∙◌, List, map, ap, sym}
use Rattle.std.specs.Prelude.{string_bytes}
use Rattle.clap.specs.Walk.{Text}
use Rattle.clap.specs.Simple.{App, is_simple, subcommand_of}
use Rattle.clap.specs.Faults.{fault_of, is_simple_and_free}
use Rattle.arguments.proofs.WordLaws.{simple, simple_and_free, request_of, shown_as, mistaken}
use Rattle.arguments.proofs.request.Request.from_words.Goals as goal

pub returns-in-Ok : goal.returns-in-Ok
returns-in-Ok c =
    let words : List Text = map string_bytes c.args.words.now in
    let line = c.in_ok-command.ensures in
    let kinds = c.in-Ok.ensures.kinds (ap is_simple_and_free line ∙ simple_and_free) in
    let met = (c.in-Ok.ensures.matches (ap is_simple line ∙ simple)).1 in
    request_of words c.in-Ok.matches (met ∙ ap (λ (app : App). subcommand_of app words) line) c.from_matches.result
    (sym (ap (λ (app : App). fault_of app words) line) ∙ kinds) c.from_matches.ensures

pub returns-in-DisplayHelp : goal.returns-in-DisplayHelp
returns-in-DisplayHelp c =
    let line = c.in_ok-command.ensures in
    let kinds = c.in-Err.ensures.kinds (ap is_simple_and_free line ∙ simple_and_free) in
    shown_as (map string_bytes c.args.words.now) _ c.in-Err.error line c.kind.ensures c.in-DisplayHelp.is kinds

pub returns-in_default : goal.returns-in_default
returns-in_default c =
    let line = c.in_ok-command.ensures in
    let kinds = c.in-Err.ensures.kinds (ap is_simple_and_free line ∙ simple_and_free) in
    mistaken (map string_bytes c.args.words.now) _ c.in-Err.error line c.kind.ensures c.in_default.not-DisplayHelp
    c.in_default.not-DisplayVersion c.from.result c.from.ensures kinds
