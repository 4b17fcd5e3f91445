use Rattle.std.proofs.Common.{ap, sym, ◌∙◌}
use Rattle.std.specs.List.{list_all}
use Rattle.toml.specs.View.{view}
use Rattle.toml.proofs.Views.{view-Array}
use Rattle.cg_format.specs.Form.{is_text, are_texts}
use Rattle.cg_text.proofs.SaidLaws.{texts_view}
use Rattle.cg_text.proofs.tree.takes.are_texts.Goals as goal

pub returns-in-Array : goal.returns-in-Array
returns-in-Array c =
    c.are_all_texts.ensures ∙ ap (list_all (λ value. is_text (view value))) c.deref.ensures.value ∙ sym (texts_view c.in-Array.items.items)
    ∙ sym (ap (λ value. are_texts (view value)) c.in-Array.is ∙ ap are_texts (view-Array c.in-Array.items))
