use Rattle.std.proofs.Common.{◌≡◌, map, filter_map, sym, ap, subst, ◌∙◌}
use Rattle.std.specs.Prelude.{IfOk}
use Rattle.toml.specs.Data.{as_str}
use Rattle.toml.specs.View.{view}
use Rattle.toml.proofs.Views.{view-Array}
use Rattle.cg_format.specs.Said.{lines_text, text_of}
use Rattle.cg_text.proofs.SaidLaws.{elements_view}
use Rattle.cg_text.proofs.tree.said.text_of.Goals as goal

pub returns-in-Array : goal.returns-in-Array
returns-in-Array c =
    let same : lines_text (filter_map as_str (map view c.as_slice.result.now)) ≡ text_of (view c.args.value.now) =
    ap (λ values. lines_text (filter_map as_str (map view values))) c.as_slice.ensures.value
    ∙ ap (λ held. lines_text (filter_map as_str held)) (sym (elements_view c.in-Array.lines.items))
    ∙ sym (ap (λ value. text_of (view value)) c.in-Array.is ∙ ap text_of (view-Array c.in-Array.lines)) in
    subst (λ said. IfOk c.text_of_lines.result (λ text. text ≡ said)) same c.text_of_lines.ensures
